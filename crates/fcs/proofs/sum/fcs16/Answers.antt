-- What the search leaves to show of `fcs16`.
use Rattle.std.proofs.Common.{arith}
use Rattle.std.proofs.lemmas.Grind.{common_steps}
use Rattle.fcs.specs.Sum.{register_of, fcs}
use Rattle.fcs.proofs.Constant.{nine_digits, own_check}
use Rattle.fcs.proofs.Linear.{complement}
use Rattle.fcs.proofs.sum.fcs16.Goals as goal

pub returns : goal.returns
unfolding register_of fcs
returns c = record { value = grind (arith, common_steps, complement); nine_digits = nine_digits; own_check = own_check }
