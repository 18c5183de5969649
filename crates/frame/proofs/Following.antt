-- A receiver follows the line that its bytes make. Assumes nothing.
use Rattle.std.proofs.Common.{◌≡◌, ℕ, [], ◌∷◌, fold, refl, ap, ◌∙◌, arith}
use Rattle.std.proofs.lemmas.Bool.Decides.{nat_tests}
use Rattle.frame.specs.Laws.{KeptDecidesTheVerdict, ReceiverFollowsTheLine, NothingIsCarriedOverAFlag, ReceiverLaws}
use Rattle.frame.specs.Lines.{Line, waiting, since, hear, hear_on, hearing_of}
use Rattle.frame.proofs.Collects.{kept_of_none, kept_of_push}
use Rattle.frame.proofs.Judges.{decides}

pub one_byte : (line : Line) (b : ℕ) → hear_on (hearing_of line) b ≡ hearing_of (hear line b)
one_byte waiting b = grind (arith, nat_tests, kept_of_none)
one_byte (since raw) b = grind (arith, nat_tests, kept_of_none, kept_of_push)

follows : ReceiverFollowsTheLine
follows line [] = refl
follows line (b ∷ bytes) = ap (λ h. fold hear_on h bytes) (one_byte line b) ∙ follows (hear line b) bytes

over_a_flag : NothingIsCarriedOverAFlag
over_a_flag line other bytes = refl

kept_decides : KeptDecidesTheVerdict
kept_decides raw = ((decides raw).verdict, (decides raw).content)

pub receiver_laws : ReceiverLaws
receiver_laws = record { decides = kept_decides; follows = follows; forgets = over_a_flag }
