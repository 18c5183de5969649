-- The whole listing of a recording. Assumes nothing.
use Rattle.std.specs.Prelude.{ℕ, List, ◌++◌, Ok, Err}
use Rattle.std.specs.List.{flat_map}
use Rattle.recording.specs.declared.status.Refusal.{Refusal}
use Rattle.recording.specs.Listing.{line_feed, field, names_line, line_for}
use Rattle.recording.specs.Pieces.{piece_at, pieces_of}
use Rattle.recording.specs.Statuses.{Status, refusal_text}

-- the one line of a recording that is refused: the refusal's number
abbrev pub refused_line : Refusal → List ℕ
refused_line refusal = field (refusal_text refusal) line_feed

-- a listing, unless the call at place 0 is refused
abbrev pub unless_refused : Status → List ℕ → List ℕ
unless_refused (Err refusal) listing = refused_line refusal
unless_refused (Ok found) listing = listing

-- the whole listing: the names and a line for each piece, or why there is none
unfoldable pub listing_of : List ℕ → List ℕ
listing_of bytes = unless_refused (piece_at bytes 0).status (names_line ++ flat_map line_for (pieces_of bytes))
