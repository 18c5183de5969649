-- The piece that a place in a recording speaks of, and the place to go on. Assumes nothing.
use Rattle.std.specs.Prelude.{ℕ, zero, suc, ◌+◌, min, Bool, if◌then◌else◌, ◌&&◌, List, [], ◌∷◌, length, drop, is_some, Some, None, Ok, Err, Option, Result, ◌==◌, nat_lt, slice_get, slice_index}
use Rattle.std.specs.List.{before_first}
use Rattle.frame.specs.declared.verdict.Verdict.{Verdict}
use Rattle.frame.specs.declared.verdict.Verdict.TheVariants.{Good}
use Rattle.frame.specs.Escapes.{flag}
use Rattle.frame.specs.First.{first_of, ◌⇒◌}
use Rattle.frame.specs.Verdicts.{content_of, verdict_of}
use Rattle.recording.specs.declared.reader.Reading.{Reading}
use Rattle.recording.specs.declared.status.Label.{Label}
use Rattle.recording.specs.declared.status.Label.TheVariants.{Open, Stray, Closed}
use Rattle.recording.specs.declared.status.Refusal.{Refusal}
use Rattle.recording.specs.declared.status.Refusal.TheVariants.{LongRecording, PlaceBeyond}
use Rattle.recording.specs.Statuses.{Status}

-- a recording has at most this many bytes
abbrev pub limit : ℕ
limit = 65536

-- at place 0 a leading flag is passed over
abbrev pub passes : List ℕ → ℕ → Bool
passes bytes place = place == 0 && slice_index bytes 0 == flag

-- where the run begins that a place speaks of: past that flag, or at the place itself
abbrev pub start_at : List ℕ → ℕ → ℕ
start_at bytes place = if passes bytes place then 1 else place

-- whether a byte is the flag
abbrev pub is_flag : ℕ → Bool
is_flag b = b == flag

-- the bytes from a place up to the next flag, or to the recording's end
unfoldable pub run_from : List ℕ → ℕ → List ℕ
run_from bytes start = before_first is_flag (drop start bytes)

-- what a run is, in a recording of this length: the first that fits
abbrev pub label_of : ℕ → ℕ → List ℕ → Label
label_of whole start raw =
    first_of
    ((start + length raw == whole ⇒ Open)
    ∷ (start == 0 ⇒ Stray)
    ∷ [])
    (Closed (verdict_of raw))

-- what there is at a place, in a recording of this length: nothing at its end, and else a run
abbrev pub status_of : ℕ → ℕ → List ℕ → Status
status_of whole start raw = if start == whole then Ok None else Ok (Some (label_of whole start raw))

-- a good content has a command, its first byte
abbrev pub command_of : Verdict → List ℕ → Option ℕ
command_of Good content = slice_get content 0
command_of _ content = None

-- only a run between two flags can be good
abbrev pub command_in : Status → List ℕ → Option ℕ
command_in (Ok (Some (Closed verdict))) raw = command_of verdict (content_of raw)
command_in _ raw = None

-- what there is to say of a place
pub record Located : Type 0 where
  pub status : Status
  -- where the run begins
  pub start : ℕ
  -- the run, without the flag that closes it
  pub raw : List ℕ
  -- the place to go on
  pub next : ℕ
  pub command : Option ℕ

-- a refusal hands back no byte, and the place that was given
abbrev pub refused_at : Refusal → ℕ → Located
refused_at refusal place = record { status = Err refusal; start = place; raw = []; next = place; command = None }

-- the run that begins here: on past its closing flag, or at the recording's end
abbrev pub run_at : List ℕ → ℕ → Located
run_at bytes start = record {
  status = status_of (length bytes) start (run_from bytes start);
  start = start;
  raw = run_from bytes start;
  next = min (start + length (run_from bytes start) + 1) (length bytes);
  command = command_in (status_of (length bytes) start (run_from bytes start)) (run_from bytes start);
}

-- what a place speaks of: the first that fits
unfoldable pub piece_at : List ℕ → ℕ → Located
piece_at bytes place =
    first_of
    ((nat_lt limit (length bytes) ⇒ refused_at LongRecording place)
    ∷ (nat_lt (length bytes) place ⇒ refused_at PlaceBeyond place)
    ∷ [])
    (run_at bytes (start_at bytes place))

-- nothing is left at a recording's end
abbrev pub ended_at : ℕ → Located
ended_at whole = record { status = Ok None; start = whole; raw = []; next = whole; command = None }

-- a reading, with the bytes that it borrows
abbrev pub located : Reading → Located
located r = record { status = Ok (Some r.label); start = r.start; raw = r.raw.now; next = r.next; command = r.command }

-- what a call at this place says by its answer
abbrev pub answered : List ℕ → ℕ → Result (Option Reading) Refusal → Located
answered bytes place (Ok (Some reading)) = located reading
answered bytes place (Ok None) = ended_at (length bytes)
answered bytes place (Err refusal) = refused_at refusal place

-- where a piece goes on; nothing else does
abbrev pub onward : Status → ℕ → Option ℕ
onward (Ok (Some label)) next = Some next
onward _ next = None

-- where what was found goes on
abbrev pub onward_from : Located → Option ℕ
onward_from found = onward found.status found.next

-- the pieces that calls made one after another give, each at the place that the one before gave: at most so many of them
unfoldable pub pieces_from : ℕ → List ℕ → ℕ → List Located
pieces_from zero bytes place = []
pieces_from (suc n) bytes place =
    if is_some (onward_from (piece_at bytes place)) then piece_at bytes place ∷ pieces_from n bytes (piece_at bytes place).next else []

-- the pieces of a recording: it has no more of them than bytes
abbrev pub pieces_of : List ℕ → List Located
pieces_of bytes = pieces_from (length bytes) bytes 0
