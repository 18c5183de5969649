-- Every answer of the calls on a recording, with its number, and every label with its name. Assumes nothing.
use Rattle.std.specs.Prelude.{ℕ, List, ◌++◌, Some, None, Ok, Err, Option, Result, codes, decimal}
use Rattle.frame.specs.declared.verdict.Verdict.TheVariants.{Empty, Escape, Long, Short, Check, Good}
use Rattle.recording.specs.declared.status.Label.{Label}
use Rattle.recording.specs.declared.status.Label.TheVariants.{Open, Stray, Closed}
use Rattle.recording.specs.declared.status.Refusal.{Refusal}
use Rattle.recording.specs.declared.status.Refusal.TheVariants.{ShortBuffer, LongRecording, PlaceBeyond}

-- what a call at a place answers: a piece with its label, none where nothing is left, or a refusal
abbrev pub Status : Type 0
Status = Result (Option Label) Refusal

-- the number of each refusal
abbrev pub refusal_number : Refusal → ℕ
refusal_number ShortBuffer = 201
refusal_number LongRecording = 202
refusal_number PlaceBeyond = 203

-- the number of each label: the verdicts in the order in which they are tried, then the two of a run that no flag closes or opens
abbrev pub label_number : Label → ℕ
label_number (Closed Empty) = 1
label_number (Closed Escape) = 2
label_number (Closed Long) = 3
label_number (Closed Short) = 4
label_number (Closed Check) = 5
label_number (Closed Good) = 6
label_number Open = 7
label_number Stray = 8

-- the number of each status: 0 where nothing is left
abbrev pub status_number : Status → ℕ
status_number (Ok None) = 0
status_number (Ok (Some label)) = label_number label
status_number (Err refusal) = refusal_number refusal

-- how a refusal is printed
abbrev pub refusal_text : Refusal → List ℕ
refusal_text refusal = codes "refused " ++ decimal (refusal_number refusal)

-- the word for a label in a listing
abbrev pub label_name : Label → List ℕ
label_name (Closed Empty) = codes "empty"
label_name (Closed Escape) = codes "escape"
label_name (Closed Long) = codes "long"
label_name (Closed Short) = codes "short"
label_name (Closed Check) = codes "check"
label_name (Closed Good) = codes "good"
label_name Open = codes "open"
label_name Stray = codes "stray"
