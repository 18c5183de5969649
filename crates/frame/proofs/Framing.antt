-- A frame written part by part, read back, and told from every other frame. Assumes nothing.
use Rattle.std.proofs.Common.{suc, ◌≡◌, ℕ, ◌+◌, ◌-◌, ◌*◌, ◌^◌, ◌≤◌, cond, if◌then◌else◌, List, [], ◌∷◌, ◌++◌, length, get_or, take, Some, fold, unwrap_or, sym, refl, ap, ◌∙◌, append_assoc, arith, length-append}
use Rattle.std.proofs.lemmas.Nat.{div-add-mod'}
use Rattle.std.proofs.lemmas.List.{take_at, get_or-append-add, same_from_push}
use Rattle.std.proofs.lemmas.Bool.{cond-true, le-leb, ne_eqb}
use Rattle.std.proofs.lemmas.Grind.{flat_map-append}
use Rattle.std.proofs.lemmas.List.Sums.{fold_push}
use Rattle.fcs.specs.Sum.{fcs, check_bytes}
use Rattle.frame.specs.declared.verdict.Verdict.TheVariants.{Good}
use Rattle.frame.specs.declared.cursor.Cursor.{Cursor}
use Rattle.frame.specs.Cursors.{Puts}
use Rattle.frame.specs.Escapes.{flag, escaped_byte, escaped, unescaped}
use Rattle.frame.specs.Frames.{checked, body_of, frame_of}
use Rattle.frame.specs.Laws.{FlagFree, FramesComeBack, EqualFramesHaveEqualMessages, FrameLaws}
use Rattle.frame.specs.Lines.{Line, since, hear, heard}
use Rattle.frame.specs.Verdicts.{due, carried, verdict_of}
use Rattle.frame.specs.Written.{fits_into, written}
use Rattle.frame.proofs.Escaping.{undone, flag_free}
use Rattle.frame.proofs.Judges.{good_content}
use Rattle.frame.proofs.Cursors.{puts_more}

-- writing

pub frame_parts : (message : List ℕ) → frame_of message ≡ flag ∷ ((escaped message ++ escaped (check_bytes message)) ++ flag ∷ [])
unfolding frame_of body_of
frame_parts message = ap (λ l. flag ∷ (l ++ flag ∷ [])) (flat_map-append escaped_byte message (check_bytes message))

pub frame_length : (message : List ℕ) → length (frame_of message) ≡ length (escaped message) + length (escaped (check_bytes message)) + 2
frame_length message =
    ap length (frame_parts message)
    ∙ simp length-append (omega arith)

-- the four parts of a frame, put one after another from the buffer's start on
pub puts_frame : {a b c d e : Cursor} {end : List ℕ} (message check : List ℕ) → Puts a b (flag ∷ []) → Puts b c (escaped message) → Puts c d (escaped check) → Puts d e (flag ∷ []) → check ≡ check_bytes message → a.at ≡ 0 → length (frame_of message) ≤ length a.out.now → end ≡ e.out.now → end ≡ (if fits_into (frame_of message) a.out.now then written a.out.now 0 (frame_of message) else a.out.now)
puts_frame {a} message check opened first second closed is start room ends =
    let within : a.at ≤ length a.out.now = omega arith in
    let whole = puts_more (puts_more (puts_more opened first within) second within) closed within in
    let parts = ap (λ l. flag ∷ ((escaped message ++ escaped l) ++ flag ∷ [])) is ∙ sym (frame_parts message) in
    ends ∙ whole.buffer ∙ (λ i. written a.out.now (start i) (parts i)) ∙ sym (cond-true _ _ _ (le-leb _ _ room))

-- reading back

flags_out : (raw acc : List ℕ) → FlagFree raw → heard (since acc) raw ≡ since (acc ++ raw)
flags_out [] acc free = ap since (sym (mathlib.Core.List.append-nil acc))
flags_out (b ∷ raw) acc free =
    ap (λ t. fold hear (cond t (since []) (since (acc ++ b ∷ []))) raw) (ne_eqb b flag (free 0 b (omega arith)))
    ∙ flags_out raw (acc ++ b ∷ []) (λ k d h. free (suc k) d (omega arith))
    ∙ ap since (append_assoc acc (b ∷ []) raw)

-- a flag opens a piece, whatever the line was
flag_opens : (before : Line) (raw : List ℕ) → heard before (flag ∷ raw) ≡ heard (since []) raw
flag_opens before raw = refl

checked-length : (message : List ℕ) → length (checked message) ≡ length message + 2
checked-length message = length-append message (check_bytes message)

due_own : (message : List ℕ) → due (checked message) ≡ fcs message
due_own message =
    let n : length (checked message) - 2 ≡ length message = omega (arith, checked-length message) in
    ap fcs (ap (λ k. take k (checked message)) n ∙ take_at message (check_bytes message) (length message) refl)

carried_own : (message : List ℕ) → carried (checked message) ≡ fcs message
carried_own message =
    let n : length (checked message) - 2 ≡ length message + 0 = omega (arith, checked-length message) in
    let m : length (checked message) - 1 ≡ length message + 1 = omega (arith, checked-length message) in
    let low = ap (λ k. get_or (checked message) k 0) n ∙ get_or-append-add message (check_bytes message) 0 0 in
    let high = ap (λ k. get_or (checked message) k 0) m ∙ get_or-append-add message (check_bytes message) 1 0 in
    (λ i. low i + high i * 2 ^ 8) ∙ omega (arith, div-add-mod' (fcs message) 256)

body_undone : (message : List ℕ) → unescaped (body_of message) ≡ Some (checked message)
unfolding body_of
body_undone message = undone (checked message)

free : (message : List ℕ) → FlagFree (body_of message)
unfolding body_of
free message = flag_free (checked message)

good_body : (message : List ℕ) → 3 ≤ length message → length message ≤ 123 → verdict_of (body_of message) ≡ Good
good_body message low high =
    let long = checked-length message in
    good_content (body_of message) (checked message) (body_undone message) (omega arith) (omega arith) (due_own message ∙ sym (carried_own message))

opened : (message : List ℕ) (before : Line) → heard before (flag ∷ body_of message) ≡ since (body_of message)
opened message before = flag_opens before (body_of message) ∙ flags_out (body_of message) [] (free message)

frame_open : (message : List ℕ) → frame_of message ≡ (flag ∷ body_of message) ++ flag ∷ []
unfolding frame_of
frame_open message = refl

closes_frame : (message : List ℕ) (before : Line) → heard before (frame_of message) ≡ since []
closes_frame message before =
    ap (heard before) (frame_open message)
    ∙ fold_push hear before (flag ∷ body_of message) flag
    ∙ ap (λ l. hear l flag) (opened message before)

comes_back : FramesComeBack
comes_back message low high before = record {
  frame = frame_open message;
  piece = opened message before;
  good = good_body message low high;
  same = ap (λ u. unwrap_or u []) (body_undone message);
  closed = closes_frame message before;
}

same_messages : EqualFramesHaveEqualMessages
unfolding frame_of
same_messages c d e =
    let inner : body_of c ++ flag ∷ [] ≡ body_of d ++ flag ∷ [] = cc in
    let body = (same_from_push (body_of c) (body_of d) flag flag inner).0 in
    let both : Some (checked c) ≡ Some (checked d) = sym (body_undone c) ∙ ap unescaped body ∙ body_undone d in
    let same : checked c ≡ checked d = cc in
    let long : length c ≡ length d = omega (arith, ap length same, checked-length c, checked-length d) in
    sym (take_at c (check_bytes c) (length c) refl) ∙ (λ i. take (long i) (same i)) ∙ take_at d (check_bytes d) (length d) refl

pub frame_laws : FrameLaws
frame_laws = record { undone = undone; flag_free = flag_free; come_back = comes_back; equal = same_messages }
