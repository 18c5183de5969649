-- What a store means, and what writing and wiping make of it. Assumes nothing.
use Rattle.std.specs.Prelude.{◌≡◌, ℕ, List, map, length, replicate, Some, None, Option, IfSome, slice_index_or, slice_set}
use Rattle.std.specs.List.{range_with_len}
use Rattle.std.specs.Option.{option_map}
use Rattle.settings.specs.Settings.{place_count, width}
use Rattle.settings.specs.Values.{value_in}

-- for each place no value, or a value; a place that there is not has none
abbrev pub Values : Type 0
Values = List (Option (List ℕ))

-- what a place holds
abbrev pub held : Values → ℕ → Option (List ℕ)
held values place = slice_index_or values place None

-- as many places as there are settings, and each value held has its setting's width
pub record FitsSettings (values : Values) : Type 0 where
  pub all : length values ≡ place_count
  pub wide : (place : ℕ) → IfSome (held values place) (λ value. length value ≡ width place)

-- that place has the value that stands in the row, and no other place changes
abbrev pub written : Values → ℕ → List ℕ → Values
written values place row = slice_set values place (Some (value_in place row))

-- no place has a value
abbrev pub wiped : Values
wiped = replicate place_count None

-- what a store means that has for each place a row in which the value stands, or none
unfoldable pub places_by : (ℕ → Option (List ℕ)) → Values
places_by rows = map (λ place. option_map (value_in place) (rows place)) (range_with_len 0 place_count)
