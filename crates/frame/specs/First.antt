-- A list of conditions, each with an answer, of which the first that fits decides. Assumes nothing.
use Rattle.std.specs.Prelude.{Bool, List, [], ◌∷◌, if◌then◌else◌}

-- a condition with its answer
pub record Case (A : Type 0) : Type 0 where
  pub when : Bool
  pub answer : A

infix 4 ◌⇒◌
-- when this holds, that is the answer
abbrev pub ◌⇒◌ : {A : Type 0} → Bool → A → Case A
b ⇒ a = record { when = b; answer = a }

-- the answer of the first condition that holds, or the last answer where none does
abbrev pub first_of : {A : Type 0} → List (Case A) → A → A
first_of [] otherwise = otherwise
first_of (c ∷ cs) otherwise = if c.when then c.answer else first_of cs otherwise
