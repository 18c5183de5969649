-- What is promised of tables of services, beside what each call does. Assumes nothing.
use Rattle.std.specs.Prelude.{◌≡◌, ℕ, ◌+◌, ◌≤◌, ◌↔◌, true, false, List, length, is_none, Some, None, Ok, Err, count_by, Option, ◌≢◌, if◌then◌else◌, slice_index_or, slice_set}
use Rattle.services.specs.declared.table.Refusal.{Refusal}
use Rattle.services.specs.declared.table.Refusal.TheVariants.{Rule, Full}
use Rattle.services.specs.declared.table.Table.{Table}
use Rattle.service.specs.declared.value.Service.{Service}
use Rattle.services.specs.Accepting.{answer_to, afterwards}
use Rattle.services.specs.Entries.{capacity, Distinct}
use Rattle.service.specs.Rule.{ids, is_deletion, keeps_rule}
use Rattle.services.specs.Services.{services, nothing_held, held}

-- no table has two entries with one id
abbrev pub IdsAreDistinct : Type 0
IdsAreDistinct = (t : Table) → Distinct t.entries

-- the free entries of a table are as many as it can hold less the ids that it holds
abbrev pub FreeEntriesAreWhatIsNotHeld : Type 0
FreeEntriesAreWhatIsNotHeld = (t : Table) → count_by is_none t.entries + held (services t) ≡ capacity

-- a value that is held at an id: it has that id, keeps the rule, and has a time other than 0
pub record Rightful (id : ℕ) (s : Service) : Type 0 where
  pub same_id : s.id ≡ id
  pub rule : keeps_rule s ≡ true
  pub lasting : s.time ≡ 0 → ⊥

-- services as a table may hold them: one place for each id, no more held than there are entries, and every value rightful
pub record Right (ss : List (Option Service)) : Type 0 where
  pub all_ids : length ss ≡ ids
  pub few : held ss ≤ capacity
  pub rightful : (id : ℕ) (s : Service) → slice_index_or ss id None ≡ Some s → Rightful id s

-- the services of every table are right
abbrev pub TablesAreRight : Type 0
TablesAreRight = (t : Table) → Right (services t)

-- right services stay right, from an empty table on and whatever the value
abbrev pub AcceptingStaysRight : Type 0
AcceptingStaysRight = Right nothing_held × ((ss : List (Option Service)) (s : Service) → Right ss → Right (afterwards ss s))

-- the value keeps the rule, its time is not 0, and as many other ids are held as a table can hold
pub record NoRoom (ss : List (Option Service)) (s : Service) : Type 0 where
  pub rule : keeps_rule s ≡ true
  pub lasting : s.time ≡ 0 → ⊥
  pub others : held (slice_set ss s.id None) ≡ capacity

-- full is answered exactly where there is no room
abbrev pub FullExactlyWithoutRoom : Type 0
FullExactlyWithoutRoom = (ss : List (Option Service)) (s : Service) → (answer_to ss s ≡ Err Full) ↔ NoRoom ss s

-- the rule is answered exactly where the value breaks it
abbrev pub RuleExactlyWhereBroken : Type 0
RuleExactlyWhereBroken = (ss : List (Option Service)) (s : Service) → (answer_to ss s ≡ Err Rule) ↔ (keeps_rule s ≡ false)

-- the value's id reads as the value, or as none where its time is 0, and every other id as before
pub record Taken (before after : List (Option Service)) (s : Service) : Type 0 where
  pub this : slice_index_or after s.id None ≡ (if is_deletion s then None else Some s)
  pub others : (id : ℕ) → (id ≢ s.id) → slice_index_or after id None ≡ slice_index_or before id None

-- an accepted value is taken
abbrev pub AcceptedIsTaken : Type 0
AcceptedIsTaken = (ss : List (Option Service)) (s : Service) → length ss ≡ ids → answer_to ss s ≡ Ok tt → Taken ss (afterwards ss s) s

-- a refused value changes nothing
abbrev pub RefusedChangesNothing : Type 0
RefusedChangesNothing = (ss : List (Option Service)) (s : Service) (why : Refusal) → answer_to ss s ≡ Err why → afterwards ss s ≡ ss

-- the laws of tables
pub record TableLaws : Type 0 where
  pub distinct : IdsAreDistinct
  pub free : FreeEntriesAreWhatIsNotHeld
  pub right : TablesAreRight
  pub stays_right : AcceptingStaysRight
  pub full : FullExactlyWithoutRoom
  pub rule : RuleExactlyWhereBroken
  pub accepted : AcceptedIsTaken
  pub refused : RefusedChangesNothing
