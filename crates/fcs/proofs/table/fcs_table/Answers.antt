-- What the search leaves to show of `fcs_table`.
use Rattle.std.proofs.Common.{refl}
use Rattle.fcs.specs.Sum.{bit_step, eight_steps}
use Rattle.fcs.proofs.Rule.{rule}
use Rattle.fcs.proofs.table.fcs_table.Goals as goal

pub returns : goal.returns
unfolding bit_step eight_steps
returns c = rule _ refl
