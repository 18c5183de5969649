-- What the search leaves to show of `last_with`: that the functions on a row say the same.
use Rattle.std.proofs.Common.{arith}
use Rattle.std.proofs.lemmas.Grind.{common_steps}
use Rattle.keyed.proofs.Found.{found_index, found_record}
use Rattle.keyed.proofs.last_with.Goals as goal

pub returns-clause-last : goal.returns-clause-last
returns-clause-last g c = grind (arith, common_steps, g.met.R.Key.Key.tells_apart)

pub returns-clause-within : goal.returns-clause-within
returns-clause-within g c = grind (arith, common_steps)

pub returns-clause-index : goal.returns-clause-index
returns-clause-index g c =
    found_index g.R.Keyed.key g.R.Key.PartialEq.eq g.met.R.Key.Key.tells_apart c.args.wanted c.args.records.now c.rposition.result (returns-clause-within g c) (returns-clause-last g c)

pub returns-clause-record_found : goal.returns-clause-record_found
returns-clause-record_found g c = λ d.
    found_record g.R.Keyed.key g.R.Key.PartialEq.eq g.met.R.Key.Key.tells_apart c.args.wanted c.args.records.now c.rposition.result d (returns-clause-within g c) (returns-clause-last g c)
