-- What each turn of the loop in `fcs16` keeps.
use Rattle.std.proofs.Common.{◌≡◌, ◌^◌, ◌<◌, take, fold}
use Rattle.fcs.specs.Sum.{step}
use Rattle.fcs.proofs.sum.fcs16.Given as goal

abbrev pub invariant-loop-byte : goal.invariant-loop-byte
invariant-loop-byte l = (l.register < 2 ^ 16) × (l.register ≡ fold step 0xFFFF (take l.byte-index l.bytes))
