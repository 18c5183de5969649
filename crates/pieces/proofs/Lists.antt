-- The whole listing, line after line. Assumes nothing.
use Rattle.std.proofs.Common.{◌≡◌, ℕ, ◌≤◌, List, ◌++◌, length, Some, None, Ok, Option, sym, ap, subst, ◌∙◌, append_assoc, arith}
use Rattle.std.specs.List.{flat_map}
use Rattle.recording.specs.declared.status.Label.{Label}
use Rattle.recording.specs.declared.status.Refusal.{Refusal}
use Rattle.recording.specs.Laws.{Calls, ended, called}
use Rattle.recording.specs.Listing.{names_line, line_for}
use Rattle.recording.specs.Pieces.{limit, Located, refused_at, piece_at, located, answered, pieces_of}
use Rattle.recording.specs.declared.reader.Reading.{Reading}
use Rattle.recording.proofs.Covers.{covers_all}
use Rattle.pieces.specs.Listing.{refused_line, unless_refused, listing_of}

pub refused_listing : (bytes : List ℕ) (refusal : Refusal) → refused_at refusal 0 ≡ piece_at bytes 0 → refused_line refusal ≡ listing_of bytes
unfolding listing_of
refused_listing bytes refusal told = ap (λ (a : Located). unless_refused a.status (names_line ++ flat_map line_for (pieces_of bytes))) told

all_lines : (bytes : List ℕ) (found : Option Reading) → answered bytes 0 (Ok found) ≡ piece_at bytes 0 → names_line ++ flat_map line_for (pieces_of bytes) ≡ listing_of bytes
unfolding listing_of
all_lines bytes None told = ap (λ (a : Located). unless_refused a.status (names_line ++ flat_map line_for (pieces_of bytes))) told
all_lines bytes (Some reading) told = ap (λ (a : Located). unless_refused a.status (names_line ++ flat_map line_for (pieces_of bytes))) told

-- a listing up to a place: with the lines of the pieces from there on it is the whole
pub record ListedTo (bytes : List ℕ) (place : ℕ) (text : List ℕ) : Type 0 where
  pub rest : List Located
  pub calls : Calls bytes place rest
  pub whole : text ++ flat_map line_for rest ≡ listing_of bytes

pub names_listed : (bytes : List ℕ) (found : Option Reading) → answered bytes 0 (Ok found) ≡ piece_at bytes 0 → length bytes ≤ limit → ListedTo bytes 0 names_line
names_listed bytes found told short = record {
  rest = pieces_of bytes;
  calls = (covers_all bytes 0 short (omega arith)).calls;
  whole = all_lines bytes found told;
}

-- one line more
more_at : {bytes : List ℕ} {place : ℕ} {pieces : List Located} {label : Label} (text : List ℕ) → Calls bytes place pieces → (piece_at bytes place).status ≡ Ok (Some label) → text ++ flat_map line_for pieces ≡ listing_of bytes → ListedTo bytes (piece_at bytes place).next (text ++ line_for (piece_at bytes place))
more_at text (ended is) piece whole = absurd cc
more_at text (called is calls) piece whole = record { rest = _; calls = calls; whole = append_assoc text _ _ ∙ whole }

pub line_listed : {bytes : List ℕ} {place : ℕ} {text : List ℕ} (reading : Reading) → located reading ≡ piece_at bytes place → ListedTo bytes place text → ListedTo bytes reading.next (text ++ line_for (piece_at bytes place))
line_listed {bytes = bytes} {place = place} {text = text} reading told so =
    subst (λ n. ListedTo bytes n (text ++ line_for (piece_at bytes place))) (sym (ap (λ (a : Located). a.next) told))
    (more_at text so.calls (sym (ap (λ (a : Located). a.status) told)) so.whole)
