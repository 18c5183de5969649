-- What is promised of the check sequence beside its value. Assumes nothing.
use Rattle.std.specs.Prelude.{◌≡◌, ℕ, List, ◌++◌, codes}
use Rattle.fcs.specs.Sum.{register_of, fcs, check_bytes}

-- the published check value of FCS-16: the sum of the nine digits
abbrev pub NineDigits : Type 0
NineDigits = fcs (codes "123456789") ≡ 0x906E

-- any bytes followed by their own check bytes leave RFC 1662's constant in the register, before the complement
abbrev pub OwnCheckLeavesConstant : Type 0
OwnCheckLeavesConstant = (bytes : List ℕ) → register_of (bytes ++ check_bytes bytes) ≡ 0xF0B8
