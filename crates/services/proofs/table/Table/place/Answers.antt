-- What the search leaves to show of `Table::place`.
use Rattle.std.proofs.Common.{arith}
use Rattle.services.proofs.Placing.{sound_placed}
use Rattle.services.proofs.table.Table.place.Goals as goal

pub invariant_of-self : goal.invariant_of-self
invariant_of-self c = record { sound = sound_placed c.args.self.now.entries c.in_ok-at.at c.args.service c.args.self.now.sound c.requires (grind (arith, c.place_for.ensures.place)) }
