-- What a table answers to a value, what it means afterwards, and which entries it leaves. Assumes nothing.
use Rattle.std.specs.Prelude.{◌≡◌, ℕ, Bool, IsTrue, not, List, Some, None, Ok, Err, Option, Result, ◌==◌, ◌≢◌, if◌then◌else◌, slice_set}
use Rattle.services.specs.declared.table.Refusal.{Refusal}
use Rattle.services.specs.declared.table.Refusal.TheVariants.{Rule, Full}
use Rattle.service.specs.declared.value.Service.{Service}
use Rattle.services.specs.Entries.{capacity, may_be_held, Holds}
use Rattle.service.specs.Rule.{is_deletion, keeps_rule}
use Rattle.services.specs.Services.{held}

-- as many ids other than this value's are held as a table can hold
abbrev pub is_full : List (Option Service) → Service → Bool
is_full ss s = held (slice_set ss s.id None) == capacity

-- the answer to a value, by the first condition that holds
abbrev pub answer_to : List (Option Service) → Service → Result (Unit {0}) Refusal
answer_to ss s =
    if not (keeps_rule s) then Err Rule
    else if is_deletion s then Ok tt
    else if is_full ss s then Err Full
    else Ok tt

-- the services once the value was answered, by the first condition that holds
abbrev pub afterwards : List (Option Service) → Service → List (Option Service)
afterwards ss s =
    if not (keeps_rule s) then ss
    else if is_deletion s then slice_set ss s.id None
    else if is_full ss s then ss
    else slice_set ss s.id (Some s)

-- every entry that holds another id is as it was
abbrev pub OthersStay : List (Option Service) → ℕ → List (Option Service) → Type 0
OthersStay before id after = (i : ℕ) (t : Service) → Holds before i t → (t.id ≢ id) → Holds after i t

-- a value is put in place: no entry of another id changes, and an entry that held the value's id holds the value, if that may be held
pub record PutInPlace (before : List (Option Service)) (s : Service) (after : List (Option Service)) : Type 0 where
  pub others : OthersStay before s.id after
  pub own : (i : ℕ) (t : Service) → Holds before i t → t.id ≡ s.id → IsTrue (may_be_held s) → Holds after i s
