-- Escapes: how a content is written between two flags, and how it is read back. Assumes nothing.
use Rattle.std.specs.Prelude.{ℕ, List, [], ◌∷◌, Some, None, Option, ◌==◌, if◌then◌else◌}
use Rattle.std.specs.List.{flat_map}

-- opens and closes every frame
abbrev pub flag : ℕ
flag = 0x7E

-- begins two bytes that stand for one
abbrev pub escape_byte : ℕ
escape_byte = 0x7D

-- what follows the escape byte where the two stand for a flag
abbrev pub escaped_flag : ℕ
escaped_flag = 0x5E

-- what follows the escape byte where the two stand for an escape byte
abbrev pub escaped_escape : ℕ
escaped_escape = 0x5D

-- one byte of a content as it goes over the line: 7D 5E for the flag, 7D 5D for the escape byte, any other as it is
abbrev pub escaped_byte : ℕ → List ℕ
escaped_byte b = if b == flag then escape_byte ∷ escaped_flag ∷ [] else if b == escape_byte then escape_byte ∷ escaped_escape ∷ [] else b ∷ []

-- a whole content as it goes over the line
abbrev pub escaped : List ℕ → List ℕ
escaped content = flat_map escaped_byte content

-- the byte that 7D and this byte stand for; none where the escape is bad
abbrev pub stands_for : ℕ → Option ℕ
stands_for e = if e == escaped_flag then Some flag else if e == escaped_escape then Some escape_byte else None

-- one byte before the rest of a content; none where either is none
abbrev pub before : Option ℕ → Option (List ℕ) → Option (List ℕ)
before None rest = None
before (Some b) None = None
before (Some b) (Some rest) = Some (b ∷ rest)

-- the content of a piece: its escapes undone; none where any of them is bad, as a 7D at the very end is
unfoldable pub unescaped : List ℕ → Option (List ℕ)
unescaped [] = Some []
unescaped (b ∷ []) = if b == escape_byte then None else Some (b ∷ [])
unescaped (b ∷ e ∷ raw) = if b == escape_byte then before (stands_for e) (unescaped raw) else before (Some b) (unescaped (e ∷ raw))
