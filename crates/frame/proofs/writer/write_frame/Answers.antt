-- What the search leaves to show of `write_frame`.
use Rattle.std.proofs.Common.{refl, rules, arith}
use Rattle.std.proofs.lemmas.Grind.{common_steps}
use Rattle.frame.proofs.Cursors.{puts_more, room_after}
use Rattle.frame.proofs.Framing.{frame_length, puts_frame}
use Rattle.frame.proofs.writer.write_frame.Goals as goal

pub put_escaped-requires : goal.put_escaped-requires
put_escaped-requires c = room_after _ c.put.ensures (grind arith)

pub put_escaped-requires-2 : goal.put_escaped-requires-2
put_escaped-requires-2 c = room_after _ (puts_more c.put.ensures c.put_escaped.ensures (grind arith)) (grind arith)

pub put-requires-2 : goal.put-requires-2
put-requires-2 c =
    room_after _ (puts_more (puts_more c.put.ensures c.put_escaped.ensures (grind arith)) c.put_escaped-2.ensures (grind arith)) (grind (arith, common_steps))

pub returns-clause-bytes : goal.returns-clause-bytes
returns-clause-bytes c =
    puts_frame c.args.message.now _ c.put.ensures c.put_escaped.ensures c.put_escaped-2.ensures c.put-2.ensures c.check_bytes-check.ensures refl (grind (arith, frame_length)) (search rules)
