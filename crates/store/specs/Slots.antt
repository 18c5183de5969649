-- What the slot store means. Assumes nothing.
use Rattle.std.specs.Prelude.{ℕ, List, None, Option, slice_index_or}
use Rattle.store.specs.declared.slot.SlotStore.{SlotStore}
use Rattle.store.specs.Places.{Values, places_by}

-- the row in which a place's value stands: its own slot
abbrev pub slot_of : SlotStore → ℕ → Option (List ℕ)
slot_of s place = slice_index_or s.rows place None

-- each place by its own slot
abbrev pub slot_places : SlotStore → Values
slot_places s = places_by (slot_of s)
