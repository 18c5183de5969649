-- From what a collector keeps to the bytes of the piece that it stands for. Assumes nothing.
use Rattle.std.proofs.Common.{◌≡◌, ℕ, List, ap, ◌∙◌}
use Rattle.frame.specs.declared.verdict.Verdict.{Verdict}
use Rattle.frame.specs.declared.verdict.Verdict.TheVariants.{Good}
use Rattle.frame.specs.Collected.{Kept, kept_of, judged}
use Rattle.frame.specs.Verdicts.{content_of, verdict_of}
use Rattle.frame.proofs.Judges.{decides}

pub piece_verdict : {k : Kept} {v : Verdict} (raw : List ℕ) → k ≡ kept_of raw → v ≡ judged k → v ≡ verdict_of raw
piece_verdict raw held e = e ∙ ap judged held ∙ (decides raw).verdict

pub piece_content : {k : Kept} (raw : List ℕ) → k ≡ kept_of raw → verdict_of raw ≡ Good → k.content ≡ content_of raw
piece_content raw held good = ap (λ (k : Kept). k.content) held ∙ (decides raw).content good
