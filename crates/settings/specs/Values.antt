-- Values in rows of bytes. Assumes nothing.
use Rattle.std.specs.Prelude.{ℕ, List, ◌++◌, map, length, drop, Some, None, Option, slice_index}
use Rattle.std.specs.List.{range_with_len}
use Rattle.settings.specs.Settings.{width}

-- the value of a place that stands at the start of a row: as many bytes as its setting has, whatever the row's length
unfoldable pub value_in : ℕ → List ℕ → List ℕ
value_in place row = map (λ i. slice_index row i) (range_with_len 0 (width place))

-- a value laid into a row, or records into a row of them: they stand at the start, and the rest of the row is as it was
abbrev pub laid : {A : Type 0} → List A → List A → List A
laid value row = value ++ drop (length value) row

-- a value, if there is one, laid into a row
abbrev pub read_into : Option (List ℕ) → List ℕ → List ℕ
read_into None row = row
read_into (Some value) row = laid value row
