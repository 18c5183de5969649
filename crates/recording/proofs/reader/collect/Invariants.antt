-- What each turn of the loop in `collect` keeps.
use Rattle.std.proofs.Common.{take}
use Rattle.frame.specs.Collected.{Collected}
use Rattle.recording.proofs.reader.collect.Given as goal

abbrev pub invariant-loop-byte : goal.invariant-loop-byte
invariant-loop-byte l = Collected (take l.byte-index l.raw) l.collector
