-- The table's rule, computed once over the whole table and carried to each entry. Assumes nothing.
use Rattle.std.proofs.Common.{◌≡◌, ℕ, List, map, length, get_or, ap, ◌∙◌, arith}
use Rattle.std.specs.List.{range_with_len}
use Rattle.std.proofs.lemmas.List.FromFn.{length-map-range_with_len, get_or-map-range_with_len}
use Rattle.fcs.specs.Sum.{eight_steps, TableRule}

pub rule : (table : List ℕ) → table ≡ map eight_steps (range_with_len 0 256) → TableRule table
rule table computed = record {
  entries = ap length computed ∙ length-map-range_with_len eight_steps 0 256;
  entry = λ k h. ap (λ t. get_or t k 0) computed ∙ get_or-map-range_with_len eight_steps 0 256 k k 0 h (omega arith);
}
