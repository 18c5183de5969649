-- What the search leaves to show of `Table::place_for`.
use Rattle.std.proofs.Common.{arith}
use Rattle.std.proofs.lemmas.Option.{MatchOption-at_none, MatchOption-at_some}
use Rattle.services.proofs.Placing.{searched}
use Rattle.services.proofs.table.Table.place_for.Goals as goal

pub returns : goal.returns
returns c =
    let both =
    searched c.args.self.now.entries c.args.id c.find.result c.or_else.result c.args.self.now.sound c.requires
    (grind arith)
    (λ none. let free = MatchOption-at_none _ _ none c.or_else.ensures in grind arith)
    (λ i known. MatchOption-at_some _ _ i known c.or_else.ensures)
    in
    record { place = both.0; full = both.1 }
