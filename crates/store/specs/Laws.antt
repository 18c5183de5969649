-- What is promised of any store over lists of operations, and of a log's records, beside what each call does. Assumes nothing.
use Rattle.std.specs.Prelude.{◌≡◌, ℕ, ◌<◌, ◌≤◌, List, ◌∷◌, ◌++◌, length, Some, None, All, ⊤}
use Rattle.store.specs.declared.operation.Operation.{Operation}
use Rattle.store.specs.declared.operation.Operation.TheVariants.{Read, Write, Wipe}
use Rattle.settings.specs.declared.place.Place.{Place}
use Rattle.store.specs.declared.records.Record.{Record}
use Rattle.store.specs.Logs.{capacity, latest_of, latest_each, appended}
use Rattle.store.specs.Operations.{after_all}
use Rattle.store.specs.Places.{Values, held}
use Rattle.settings.specs.Settings.{place_count}
use Rattle.settings.specs.Values.{value_in}

-- neither a write to the place nor a wipe
abbrev pub Passes : ℕ → Operation → Type 0
Passes place (Read p) = ⊤
Passes place (Write p row) = p.at ≡ place → ⊥
Passes place Wipe = ⊥

-- neither a write to the place nor a wipe is among them
abbrev pub Pass : ℕ → List Operation → Type 0
Pass place operations = All (Passes place) operations

-- a place holds the value of its last write, if no wipe came since
abbrev pub LastWriteHolds : Type 0
LastWriteHolds = (values : Values) → length values ≡ place_count → (earlier later : List Operation) (place : Place) (row : List ℕ) → Pass place.at later → held (after_all values (earlier ++ Write place row ∷ later)) place.at ≡ Some (value_in place.at row)

-- after a wipe alone a place holds nothing
abbrev pub NothingAfterAWipe : Type 0
NothingAfterAWipe = (values : Values) (earlier later : List Operation) (place : ℕ) → Pass place later → held (after_all values (earlier ++ Wipe ∷ later)) place ≡ None

-- before any write to it and any wipe a place holds what it held at first
abbrev pub AsAtFirst : Type 0
AsAtFirst = (values : Values) (operations : List Operation) (place : ℕ) → Pass place operations → held (after_all values operations) place ≡ held values place

-- the laws of any store
pub record StoreLaws : Type 0 where
  pub last_write : LastWriteHolds
  pub wipe : NothingAfterAWipe
  pub first : AsAtFirst

-- a log that gives up all but the last record of each place keeps every place's last record
abbrev pub GivingUpKeepsTheLatest : Type 0
GivingUpKeepsTheLatest = (records : List Record) (place : ℕ) → place < place_count → latest_of (latest_each records) place ≡ latest_of records place

-- and has room for another record then
abbrev pub GivingUpMakesRoom : Type 0
GivingUpMakesRoom = (records : List Record) → length (latest_each records) < capacity

-- a log never has more records than its row has room for
abbrev pub ALogStaysWithinItsRow : Type 0
ALogStaysWithinItsRow = (records : List Record) (r : Record) → length records ≤ capacity → length (appended records r) ≤ capacity

-- the laws of a log's records
pub record LogLaws : Type 0 where
  pub latest : GivingUpKeepsTheLatest
  pub room : GivingUpMakesRoom
  pub within : ALogStaysWithinItsRow
