-- What the pieces of a recording are together. Assumes nothing.
use Rattle.std.specs.Prelude.{◌≡◌, ℕ, ◌≤◌, if◌then◌else◌, List, [], ◌∷◌, ◌++◌, length, drop, Some, None, Ok, All}
use Rattle.std.specs.List.{flat_map}
use Rattle.frame.specs.Escapes.{flag}
use Rattle.frame.specs.Laws.{FlagFree}
use Rattle.recording.specs.declared.status.Label.{Label}
use Rattle.recording.specs.declared.status.Label.TheVariants.{Stray, Closed}
use Rattle.recording.specs.Pieces.{limit, passes, start_at, Located, piece_at, pieces_from}
use Rattle.recording.specs.Statuses.{Status}

-- the pieces of calls made one after another, each at the place that the one before gave, until the end
pub data Calls (bytes : List ℕ) : ℕ → List Located → Type 0 where
  ended : {place : ℕ} → (piece_at bytes place).status ≡ Ok None → Calls bytes place []
  called : {place : ℕ} {label : Label} {pieces : List Located} → (piece_at bytes place).status ≡ Ok (Some label) → Calls bytes (piece_at bytes place).next pieces → Calls bytes place (piece_at bytes place ∷ pieces)

-- the flag that closes a piece: an open one has none
abbrev pub closing_flag : Status → List ℕ
closing_flag (Ok (Some Stray)) = flag ∷ []
closing_flag (Ok (Some (Closed verdict))) = flag ∷ []
closing_flag _ = []

-- a piece with the flag that closes it
abbrev pub spelled : Located → List ℕ
spelled piece = piece.raw ++ closing_flag piece.status

-- the leading flag, where it is passed over
abbrev pub passed_over : List ℕ → ℕ → List ℕ
passed_over bytes place = if passes bytes place then flag ∷ [] else []

-- from a place on, the pieces and the flags between them are the recording, each byte once and in order, and no piece holds a flag
pub record Covered (bytes : List ℕ) (place : ℕ) (pieces : List Located) : Type 0 where
  pub calls : Calls bytes place pieces
  pub covers : passed_over bytes place ++ flat_map spelled pieces ≡ drop place bytes
  pub flag_free : All (λ (piece : Located). FlagFree piece.raw) pieces

-- for every recording within the limit and every place in it the calls end; from place 0 on they cover it whole
abbrev pub PiecesCoverTheRecording : Type 0
PiecesCoverTheRecording = (bytes : List ℕ) (place : ℕ) → length bytes ≤ limit → place ≤ length bytes → Covered bytes place (pieces_from (length bytes) bytes place)

-- none is answered only where no byte is left, but for a leading flag that is passed over
abbrev pub NoneOnlyAtTheEnd : Type 0
NoneOnlyAtTheEnd = (bytes : List ℕ) (place : ℕ) → (piece_at bytes place).status ≡ Ok None → drop (start_at bytes place) bytes ≡ []
