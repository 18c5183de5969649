-- The fields of a listing line. Assumes nothing.
use Rattle.std.proofs.Common.{ℕ, ◌≤◌, length, decimal, arith}
use Rattle.std.proofs.lemmas.Fmt.{length-decimal-le}

-- no number of a listing has more than five digits
pub five_digits : (n : ℕ) → n ≤ 65536 → length (decimal n) ≤ 5
five_digits n small = length-decimal-le 5 n (omega arith) (omega arith) (omega arith)
