-- What a buffer holds after bytes were written into it. Assumes nothing.
use Rattle.std.specs.Prelude.{ℕ, ◌+◌, Bool, List, ◌++◌, length, take, drop, nat_le}

-- whether a buffer is long enough for bytes from its start on
abbrev pub fits_into : List ℕ → List ℕ → Bool
fits_into bytes buffer = nat_le (length bytes) (length buffer)

-- the bytes stand from a place on, and all before and after them is as it was
unfoldable pub written : List ℕ → ℕ → List ℕ → List ℕ
written old at bytes = take at old ++ (bytes ++ drop (at + length bytes) old)
