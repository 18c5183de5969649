-- Lists of operations on a store: what they answer, and what the store means after them. Assumes nothing.
use Rattle.std.specs.Prelude.{ℕ, List, [], ◌∷◌, length, replicate, None, fold, Option}
use Rattle.settings.specs.Settings.{widest}
use Rattle.settings.specs.Values.{laid}
use Rattle.store.specs.declared.operation.Operation.{Operation}
use Rattle.store.specs.declared.operation.Operation.TheVariants.{Read, Write, Wipe}
use Rattle.store.specs.Places.{Values, held, written, wiped}

-- what an operation answers: a read what its place holds, the others nothing
abbrev pub answer : Values → Operation → Option (List ℕ)
answer values (Read place) = held values place.at
answer values (Write place row) = None
answer values Wipe = None

-- a value as a read into a row of zeros shows it: its width, and the row
abbrev pub shown : List ℕ → ℕ × List ℕ
shown value = (length value, laid value (replicate widest 0))

-- what the store means after one operation
abbrev pub after : Values → Operation → Values
after values (Read place) = values
after values (Write place row) = written values place.at row
after values Wipe = wiped

-- what the store means after a list of operations
abbrev pub after_all : Values → List Operation → Values
after_all values operations = fold after values operations

-- what a list of operations is answered, one after another
unfoldable pub answers : Values → List Operation → List (Option (List ℕ))
answers values [] = []
answers values (o ∷ operations) = answer values o ∷ answers (after values o) operations
