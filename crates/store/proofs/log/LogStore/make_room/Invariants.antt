-- What each turn of the loop in `make_room` keeps: the log has the latest records of the places so far.
use Rattle.store.specs.Logs.{latest_of_first, ChangesTo}
use Rattle.store.proofs.log.LogStore.make_room.Given as goal

abbrev pub invariant-loop-place : goal.invariant-loop-place
invariant-loop-place l = ChangesTo l.fn.self l.self (latest_of_first l.place l.full)
