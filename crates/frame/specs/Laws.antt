-- What is promised of frames and of receivers, beside what each call does. Assumes nothing.
use Rattle.std.specs.Prelude.{◌≡◌, ℕ, ◌≤◌, List, [], ◌∷◌, ◌++◌, length, Some, fold, ◌≢◌, All}
use Rattle.frame.specs.declared.verdict.Verdict.TheVariants.{Good}
use Rattle.frame.specs.Collected.{kept_of, judged}
use Rattle.frame.specs.Escapes.{flag, escaped, unescaped}
use Rattle.frame.specs.Frames.{checked, body_of, frame_of}
use Rattle.frame.specs.Lines.{Line, since, heard, hear_on, hearing_of}
use Rattle.frame.specs.Verdicts.{content_of, verdict_of}

-- no byte of it is a flag
abbrev pub FlagFree : List ℕ → Type 0
FlagFree bytes = All (λ b. b ≢ flag) bytes

-- what was escaped is read back as it was
abbrev pub UnescapingUndoesEscaping : Type 0
UnescapingUndoesEscaping = (content : List ℕ) → unescaped (escaped content) ≡ Some content

-- so a flag in a frame can only be one of its two ends
abbrev pub EscapedHoldsNoFlag : Type 0
EscapedHoldsNoFlag = (content : List ℕ) → FlagFree (escaped content)

-- whatever the line was before, a frame is one good piece, and its content is the message with its check bytes
pub record ComesBack (message : List ℕ) (before : Line) : Type 0 where
  pub frame : frame_of message ≡ (flag ∷ body_of message) ++ flag ∷ []
  pub piece : heard before (flag ∷ body_of message) ≡ since (body_of message)
  pub good : verdict_of (body_of message) ≡ Good
  pub same : content_of (body_of message) ≡ checked message
  pub closed : heard before (frame_of message) ≡ since []

-- a message of 3 to 123 bytes has with its check bytes a length that is neither short nor long
abbrev pub FramesComeBack : Type 0
FramesComeBack = (message : List ℕ) → 3 ≤ length message → length message ≤ 123 → (before : Line) → ComesBack message before

-- no two messages have one frame
abbrev pub EqualFramesHaveEqualMessages : Type 0
EqualFramesHaveEqualMessages = (m n : List ℕ) → frame_of m ≡ frame_of n → m ≡ n

-- the laws of frames
pub record FrameLaws : Type 0 where
  pub undone : UnescapingUndoesEscaping
  pub flag_free : EscapedHoldsNoFlag
  pub come_back : FramesComeBack
  pub equal : EqualFramesHaveEqualMessages

-- what a collector keeps after the bytes of a piece decides its verdict, and its content where that is good
abbrev pub KeptDecidesTheVerdict : Type 0
KeptDecidesTheVerdict = (raw : List ℕ) → (judged (kept_of raw) ≡ verdict_of raw) × (verdict_of raw ≡ Good → (kept_of raw).content ≡ content_of raw)

-- a receiver that is given bytes one after another keeps what there is to keep of the line that they make
abbrev pub ReceiverFollowsTheLine : Type 0
ReceiverFollowsTheLine = (line : Line) (bytes : List ℕ) → fold hear_on (hearing_of line) bytes ≡ hearing_of (heard line bytes)

-- after a flag it makes no difference what was heard before it
abbrev pub NothingIsCarriedOverAFlag : Type 0
NothingIsCarriedOverAFlag = (line other : Line) (bytes : List ℕ) → heard line (flag ∷ bytes) ≡ heard other (flag ∷ bytes)

-- the laws of a receiver
pub record ReceiverLaws : Type 0 where
  pub decides : KeptDecidesTheVerdict
  pub follows : ReceiverFollowsTheLine
  pub forgets : NothingIsCarriedOverAFlag
