-- What the search leaves to show of `left`: that the count fits its type.
use Rattle.std.proofs.Common.{rules, ◌<◌, ◌^◌, cond, is_none, sum_by, arith}
use Rattle.services.proofs.Counting.{counted_sound}
use Rattle.services.proofs.table.Table.left.Goals as goal

pub sum-requires-clause-fits : goal.sum-requires-clause-fits
sum-requires-clause-fits c =
    let few : sum_by (λ e. cond (is_none e) 1 0) c.args.self.now.entries < 2 ^ 64 = omega (arith, counted_sound c.args.self.now.entries c.args.self.now.sound) in
    search rules
