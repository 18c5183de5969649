-- FCS-16 bit by bit: what the check sequence of a row of bytes is. Assumes nothing.
use Rattle.std.specs.Prelude.{◌≡◌, ℕ, ◌/◌, ◌%◌, ◌^◌, ◌<◌, List, [], ◌∷◌, length, fold, ◌==◌, bit_xor, slice_index, if◌then◌else◌}

-- the polynomial, its bits reversed, since the register is shifted toward the least significant bit
abbrev pub polynomial : ℕ
polynomial = 0x8408

-- one bit: the register is shifted right by one, and the polynomial is exclusive-ored in if the bit shifted out was 1
unfoldable pub bit_step : ℕ → ℕ
bit_step x = bit_xor (x / 2 ^ 1) (if x % 2 == 1 then polynomial else 0)

-- the eight bits of one byte
unfoldable pub eight_steps : ℕ → ℕ
eight_steps x = bit_step (bit_step (bit_step (bit_step (bit_step (bit_step (bit_step (bit_step x)))))))

-- one byte: it is exclusive-ored into the register's low bits, and the register goes eight steps on
unfoldable pub step : ℕ → ℕ → ℕ
step register byte = eight_steps (bit_xor register byte)

-- the register after a row of bytes
unfoldable pub register_of : List ℕ → ℕ
register_of bytes = fold step 0xFFFF bytes

-- the check sequence: the register complemented
unfoldable pub fcs : List ℕ → ℕ
fcs bytes = bit_xor 0xFFFF (register_of bytes)

-- the two check bytes that follow bytes on the line: their check sequence, low byte first
abbrev pub check_bytes : List ℕ → List ℕ
check_bytes bytes = fcs bytes % 2 ^ 8 ∷ fcs bytes / 2 ^ 8 ∷ []

-- the rule of RFC 1662's table, at each of its 256 entries
pub record TableRule (table : List ℕ) : Type 0 where
  pub entries : length table ≡ 256
  pub entry : (k : ℕ) → k < 256 → slice_index table k ≡ eight_steps k
