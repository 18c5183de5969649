-- What the search leaves to show of `agree`.
use Rattle.store.proofs.Runs.{means_more, mark_more}
use Rattle.store.proofs.operation.agree.Goals as goal

pub loop-operation-preserved : goal.loop-operation-preserved
loop-operation-preserved g c =
    let x = g.X.Store.places in
    let y = g.Y.Store.places in
    let first = x c.args.x.now in
    let second = y c.args.y.now in
    let all = c.args.operations.now in
    let i = c.loop-operation.operation-index in
    let o = c.operation-item.result in
    let before = c.loop-operation in
    let kept = before.invariant in
    let left = c.run in
    let right = c.run-in-loop-operation in
    let within = c.loop-operation-test.true in
    let here = c.operation-item.is in
    record {
      x_after = means_more all i o within here first (x before.x) (x left.new.store) kept.x_after left.ensures.after;
      y_after = means_more all i o within here second (y before.y) (y right.new.store) kept.y_after right.ensures.after;
      answers =
          mark_more all i o within here first second (x before.x) (y before.y) before.alike c.eq-alike.result left.result right.result
          kept.x_after kept.y_after kept.answers left.ensures.answer right.ensures.answer c.eq-alike.ensures;
    }
