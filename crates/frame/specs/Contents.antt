-- What a collected content holds. Assumes nothing.
use Rattle.std.specs.Prelude.{ℕ, List, take}
use Rattle.frame.specs.declared.content.Content.{Content}

-- its bytes, in the order in which they came: the row up to the count
abbrev pub bytes_of : Content → List ℕ
bytes_of c = take c.count c.row.bytes
