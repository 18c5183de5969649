-- What the search leaves to show of `escaped_len`.
use Rattle.std.proofs.Common.{rules, ◌<◌, ◌^◌, length, sum_by, arith}
use Rattle.std.proofs.lemmas.List.Concat.{length-flat_map}
use Rattle.frame.specs.Escapes.{escaped_byte}
use Rattle.frame.proofs.Escaping.{at_most_two}
use Rattle.frame.proofs.escape.escaped_len.Goals as goal

pub sum-requires-clause-fits : goal.sum-requires-clause-fits
sum-requires-clause-fits c =
    let room : sum_by (λ x. length (escaped_byte x)) c.args.bytes.now < 2 ^ 64 = omega (arith, at_most_two c.args.bytes.now) in
    search rules

pub returns : goal.returns
returns c = rw length-flat_map (search rules)
