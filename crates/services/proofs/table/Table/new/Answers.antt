-- What the search leaves to show of `Table::new`.
use Rattle.std.proofs.Common.{refl, arith}
use Rattle.std.proofs.lemmas.Grind.{common_steps}
use Rattle.keyed.specs.Keys.{last_of}
use Rattle.services.specs.Services.{services_in, nothing_held}
use Rattle.services.proofs.Counting.{counted_sound}
use Rattle.services.proofs.Reading.{rule_id}
use Rattle.services.proofs.Rights.{tables_right, stays_right}
use Rattle.services.proofs.table.Table.new.Goals as goal

pub returns-clause-value : goal.returns-clause-value
unfolding last_of services_in nothing_held
returns-clause-value c = refl

pub returns-clause-laws : goal.returns-clause-laws
returns-clause-laws c = record {
  distinct = λ t. t.sound.distinct;
  free = λ t. counted_sound t.entries t.sound;
  right = tables_right;
  stays_right = stays_right;
  full = λ ss s. grind (arith, common_steps);
  rule = λ ss s. grind (arith, common_steps);
  accepted = λ ss s all_ids e. grind (arith, common_steps, rule_id);
  refused = λ ss s why e. grind (arith, common_steps);
}
