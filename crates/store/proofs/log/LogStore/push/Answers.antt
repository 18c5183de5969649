-- What the search leaves to show of `LogStore::push`.
use Rattle.std.proofs.Common.{refl, arith}
use Rattle.std.proofs.lemmas.List.{length-take}
use Rattle.store.proofs.Changes.{pushed_record}
use Rattle.store.proofs.log.LogStore.push.Goals as goal

pub returns : goal.returns
returns c =
    let old = c.args.self.now in
    let taken = length-take old.count old.row.now in
    pushed_record old _ c.args.added old.count (omega (arith, taken, old.whole, c.requires)) (omega (arith, taken, old.whole, c.requires)) refl refl refl
