-- The line as a receiver hears it: which bytes are the piece that the next flag closes. Assumes nothing.
use Rattle.std.specs.Prelude.{◌≡◌, ℕ, List, [], ◌∷◌, ◌++◌, Some, None, fold, Option, option_map, ◌==◌, if◌then◌else◌}
use Rattle.std.specs.Option.{option_map_or}
use Rattle.frame.specs.declared.receiver.Receiver.{Receiver}
use Rattle.frame.specs.declared.verdict.Verdict.{Verdict}
use Rattle.frame.specs.Collected.{Kept, kept_by, kept_of, nothing, collect, judged}
use Rattle.frame.specs.Escapes.{flag}
use Rattle.frame.specs.Verdicts.{verdict_of}

-- the bytes since the last flag; none where no flag came yet
abbrev pub Line : Type 0
Line = Option (List ℕ)

-- waiting for a first flag
pattern abbrev pub waiting : Line
waiting = None

-- these bytes came since the last flag
pattern abbrev pub since : List ℕ → Line
since raw = Some raw

-- one byte more: a flag begins a new piece, whatever came before it; another byte is a byte of the piece, if one is open
abbrev pub hear : Line → ℕ → Line
hear line b = if b == flag then since [] else option_map (λ raw. raw ++ b ∷ []) line

-- the line after a row of bytes
abbrev pub heard : Line → List ℕ → Line
heard line bytes = fold hear line bytes

-- the verdict on the piece that a flag would close now; none while waiting, since the first flag closes nothing
abbrev pub verdict_at : Line → Option Verdict
verdict_at line = option_map verdict_of line

-- what a receiver keeps of the bytes since the last flag; none while it waits for a first one
abbrev pub Hearing : Type 0
Hearing = Option Kept

-- what this receiver keeps
abbrev pub hearing : Receiver → Hearing
hearing r = option_map kept_by r.piece

-- no flag came yet, and nothing is kept
abbrev pub silent : Hearing
silent = None

-- a piece is open, and this is kept of it
abbrev pub collecting : Kept → Hearing
collecting k = Some k

-- one byte more, by what is kept alone
abbrev pub hear_on : Hearing → ℕ → Hearing
hear_on h b = if b == flag then collecting nothing else option_map (λ k. collect k b) h

-- the verdict that a flag would bring, by what is kept alone
abbrev pub closes : Hearing → Option Verdict
closes h = option_map judged h

-- the content that is kept; no byte where nothing is
abbrev pub content_kept : Hearing → List ℕ
content_kept h = option_map_or (λ k. k.content) h []

-- what there is to keep of a line
abbrev pub hearing_of : Line → Hearing
hearing_of line = option_map kept_of line

-- the receiver is one that this line leaves
abbrev pub Hears : Line → Receiver → Type 0
Hears line r = hearing r ≡ hearing_of line
