-- What the search leaves to show of `fill`.
use Rattle.std.proofs.Common.{rules, subst, sym}
use Rattle.std.specs.Io.KnownBytes.{Consumes}
use Rattle.std.proofs.KnownBytes.{Consumes-trans}
use Rattle.pieces.proofs.Filling.{front_more}
use Rattle.pieces.proofs.fill.Goals as goal

pub loop-count-preserved : goal.loop-count-preserved
loop-count-preserved g c = record {
  within = search rules;
  whole = search rules;
  read = subst (Consumes _ _) (sym (front_more _ _ _ _ _ c.loop-count.invariant.within c.in_ok-got.ensures.bound.0)) (Consumes-trans _ _ _ _ _ c.loop-count.invariant.read c.in_ok-got.ensures.bytes.0);
}
