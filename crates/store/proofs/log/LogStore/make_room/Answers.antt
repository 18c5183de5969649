-- What the search leaves to show of `LogStore::make_room`.
use Rattle.std.proofs.Common.{◌+◌, sym, subst}
use Rattle.store.specs.declared.log.LogStore.{LogStore}
use Rattle.store.specs.Logs.{latest_of_first, ChangesTo}
use Rattle.store.proofs.Changes.{turn_some, turn_none}
use Rattle.store.proofs.log.LogStore.make_room.Goals as goal
use Rattle.store.proofs.log.LogStore.make_room.Goals.{in-Some, in_default}

pub loop-place-preserved : goal.loop-place-preserved
loop-place-preserved c =
    let old = c.args.self.now in
    let place = c.loop-place.place in
    let kept = c.loop-place.invariant in
    let Kept : LogStore → Type 0 = λ s. ChangesTo old s (latest_of_first (place + 1) old.row.now) in
    elim c.match-latest.branch [
      | in-Some w ↦ subst Kept (sym w.self-is) (turn_some old c.loop-place.self old.row.now place kept w.push.new.self w.in-Some.record.now (sym w.in-Some.ensures) w.push.ensures)
      | in_default w ↦ subst Kept (sym w.self-is) (turn_none old c.loop-place.self old.row.now place kept (sym w.in_default.ensures))
    ]
