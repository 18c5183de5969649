-- What the search leaves to show of `latest`.
use Rattle.std.proofs.Common.{[], ap, ◌∙◌}
use Rattle.std.specs.Option.{option_copied}
use Rattle.store.specs.Logs.{record_of}
use Rattle.store.proofs.records.latest.Goals as goal

pub returns-in_err-i : goal.returns-in_err-i
returns-in_err-i c = ap option_copied c.from_residual.ensures ∙ c.in_err-i.ensures.record_found (record_of 0 [])
