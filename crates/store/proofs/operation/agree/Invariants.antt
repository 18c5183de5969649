-- What each turn of the loop in `agree` keeps: both stores mean what the operations so far leave, and the mark says whether those were answered alike.
use Rattle.std.proofs.Common.{◌≡◌, ◌↔◌, take, IsTrue}
use Rattle.store.specs.Operations.{answers, after_all}
use Rattle.store.proofs.operation.agree.Given as goal

abbrev pub invariant-loop-operation : goal.invariant-loop-operation
invariant-loop-operation g l = record {
  x_after : g.X.Store.places l.x ≡ after_all (g.X.Store.places l.initial.x) (take l.operation-index l.operations);
  y_after : g.Y.Store.places l.y ≡ after_all (g.Y.Store.places l.initial.y) (take l.operation-index l.operations);
  answers : IsTrue l.alike ↔ (answers (g.X.Store.places l.initial.x) (take l.operation-index l.operations) ≡ answers (g.Y.Store.places l.initial.y) (take l.operation-index l.operations));
}
