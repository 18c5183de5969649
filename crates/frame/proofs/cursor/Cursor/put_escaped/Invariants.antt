-- What each turn of the loop in `Cursor::put_escaped` keeps.
use Rattle.std.proofs.Common.{take}
use Rattle.frame.specs.Cursors.{Puts}
use Rattle.frame.specs.Escapes.{escaped}
use Rattle.frame.proofs.cursor.Cursor.put_escaped.Given as goal

abbrev pub invariant-loop-byte : goal.invariant-loop-byte
invariant-loop-byte l = Puts l.initial.self l.self (escaped (take l.byte-index l.bytes))
