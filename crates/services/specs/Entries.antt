-- The entries of a table, each with the service that it holds or free: their keys, and what holds of all. Assumes nothing.
use Rattle.std.specs.Prelude.{◌≡◌, ℕ, ◌<◌, Bool, IsTrue, not, ◌&&◌, List, length, Some, None, Option, slice_index_or}
use Rattle.std.specs.Option.{option_map}
use Rattle.service.specs.declared.value.Service.{Service}
use Rattle.service.specs.Rule.{is_deletion, keeps_rule}

-- a table has so many entries
abbrev pub capacity : ℕ
capacity = 8

-- the key of an entry: the id of its service, or none where it is free
abbrev pub key_in : Option Service → Option ℕ
key_in e = option_map (λ s. s.id) e

-- a value that may be held: it keeps the rule and is no deletion
abbrev pub may_be_held : Service → Bool
may_be_held s = keeps_rule s && not (is_deletion s)

-- the entry at this index holds the value
abbrev pub Holds : List (Option Service) → ℕ → Service → Type 0
Holds es i s = slice_index_or es i None ≡ Some s

-- no id stands in two entries
abbrev pub Distinct : List (Option Service) → Type 0
Distinct es = (i j : ℕ) (s t : Service) → Holds es i s → Holds es j t → s.id ≡ t.id → i ≡ j

-- every value in an entry may be held
abbrev pub Lawful : List (Option Service) → Type 0
Lawful es = (i : ℕ) (s : Service) → Holds es i s → IsTrue (may_be_held s)

-- what holds of the entries of every table: there are as many as it can hold, their ids are distinct, and their values may be held
pub record Sound (es : List (Option Service)) : Type 0 where
  pub all : length es ≡ capacity
  pub distinct : Distinct es
  pub lawful : Lawful es

-- this is the index of an entry for an id: it holds no other id, and no other entry holds this one
pub record IsPlaceFor (es : List (Option Service)) (id at : ℕ) : Type 0 where
  pub within : at < length es
  pub own : (s : Service) → Holds es at s → s.id ≡ id
  pub only : (i : ℕ) (s : Service) → Holds es i s → s.id ≡ id → i ≡ at
