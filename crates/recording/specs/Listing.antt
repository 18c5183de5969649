-- The listing of a recording: a line of names, and a line for each piece. Assumes nothing.
use Rattle.std.specs.Prelude.{ℕ, if◌then◌else◌, List, [], ◌∷◌, ◌++◌, length, Some, None, Ok, Err, codes, decimal, Option, Result, nat_lt}
use Rattle.std.specs.Result.{result_unwrap_or}
use Rattle.frame.specs.Written.{written}
use Rattle.recording.specs.declared.status.Label.{Label}
use Rattle.recording.specs.declared.status.Refusal.{Refusal}
use Rattle.recording.specs.declared.status.Refusal.TheVariants.{ShortBuffer}
use Rattle.recording.specs.Pieces.{Located, piece_at}
use Rattle.recording.specs.Statuses.{Status, label_name}

-- a line buffer has at least this many bytes
abbrev pub room : ℕ
room = 32

-- stands between two fields
abbrev pub space : ℕ
space = 0x20

-- ends a line
abbrev pub line_feed : ℕ
line_feed = 0x0A

-- a field of a line, with what stands after it
abbrev pub field : List ℕ → ℕ → List ℕ
field text after = text ++ after ∷ []

-- a command in decimal, or a hyphen where there is none
abbrev pub command_text : Option ℕ → List ℕ
command_text None = codes "-"
command_text (Some command) = decimal command

-- the line of a piece: its place, its count of raw bytes, its label, its command
unfoldable pub line_of : Label → Located → List ℕ
line_of label piece =
    field (decimal piece.start) space ++ (field (decimal (length piece.raw)) space ++ (field (label_name label) space ++ field (command_text piece.command) line_feed))

-- the line over all others
abbrev pub names_line : List ℕ
names_line = field (codes "place bytes verdict command") line_feed

-- the text for a status and what was found: nothing at the end
abbrev pub text_of : Status → Located → Result (List ℕ) Refusal
text_of (Err refusal) found = Err refusal
text_of (Ok None) found = Ok []
text_of (Ok (Some label)) found = Ok (line_of label found)

-- the text for a place
abbrev pub line_at : List ℕ → ℕ → Result (List ℕ) Refusal
line_at bytes place = text_of (piece_at bytes place).status (piece_at bytes place)

-- a buffer that is too short is refused before all else
abbrev pub into : List ℕ → Result (List ℕ) Refusal → Result (List ℕ) Refusal
into buffer text = if nat_lt (length buffer) room then Err ShortBuffer else text

-- what a call answers of a text: its length, or the refusal
abbrev pub counted : Result (List ℕ) Refusal → Result ℕ Refusal
counted (Ok text) = Ok (length text)
counted (Err refusal) = Err refusal

-- what the buffer holds then: the text from its start on, or what it held
abbrev pub filled : List ℕ → Result (List ℕ) Refusal → List ℕ
filled buffer (Ok text) = written buffer 0 text
filled buffer (Err refusal) = buffer

-- the line for what was found: only a piece has one
abbrev pub line_for : Located → List ℕ
line_for found = result_unwrap_or (text_of found.status found) []
