-- What the search leaves to show of `Cursor::put_escaped`.
use Rattle.std.proofs.Common.{arith}
use Rattle.frame.proofs.Cursors.{puts_nothing, puts_byte, room_for_byte}
use Rattle.frame.proofs.cursor.Cursor.put_escaped.Goals as goal

pub loop-byte-init : goal.loop-byte-init
loop-byte-init c = puts_nothing c.args.self.now

pub put_byte-requires : goal.put_byte-requires
put_byte-requires c = room_for_byte c.args.bytes.now c.loop-byte.byte-index c.loop-byte-test.true c.loop-byte.invariant c.requires

pub loop-byte-preserved : goal.loop-byte-preserved
loop-byte-preserved c = puts_byte c.args.bytes.now c.loop-byte.byte-index c.loop-byte-test.true c.loop-byte.invariant c.put_byte.ensures (omega arith)
