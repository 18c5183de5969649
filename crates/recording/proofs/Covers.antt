-- The pieces of a recording, with the flags between them, are the recording. Assumes nothing.
use Rattle.std.proofs.Common.{◌≡◌, ℕ, zero, suc, ◌+◌, ◌<◌, ◌≤◌, Bool, true, false, cond, List, [], ◌∷◌, ◌++◌, length, drop, Some, None, Ok, ◌==◌, All, sym, refl, ap, ◌∙◌, subst, ⊎_elim, append_assoc, append-nil, arith}
use Rattle.std.specs.List.{flat_map}
use Rattle.std.proofs.lemmas.Bool.{cases_lt}
use Rattle.std.proofs.lemmas.Grind.{common_steps}
use Rattle.std.proofs.lemmas.List.{drop_all}
use Rattle.std.proofs.lemmas.List.Elements.{All-nil, All-cons}
use Rattle.frame.specs.Escapes.{flag}
use Rattle.frame.specs.Laws.{FlagFree}
use Rattle.frame.specs.Verdicts.{verdict_of}
use Rattle.frame.specs.declared.verdict.Verdict.{Verdict}
use Rattle.recording.specs.declared.status.Label.{Label}
use Rattle.recording.specs.declared.status.Label.TheVariants.{Open, Stray, Closed}
use Rattle.recording.specs.Laws.{Calls, ended, called, closing_flag, spelled, passed_over, PiecesCoverTheRecording, NoneOnlyAtTheEnd}
use Rattle.recording.specs.Pieces.{limit, start_at, run_from, label_of, status_of, Located, run_at, piece_at, pieces_from}
use Rattle.recording.proofs.Runs.{start_stays, start_from, start_within, stop, stop_within, flag_free as free, run_flag, run_whole}

-- only an open run has no closing flag
closes : (whole stray : Bool) (verdict : Verdict) → closing_flag (Ok (Some (cond whole Open (cond stray Stray (Closed verdict))))) ≡ cond whole [] (flag ∷ [])
closes true stray verdict = refl
closes false true verdict = refl
closes false false verdict = refl

module _ (bytes : List ℕ) (s : ℕ) (less : s < length bytes) where
  abbrev run : List ℕ
  run = run_from bytes s

  abbrev closing : List ℕ
  closing = closing_flag (status_of (length bytes) s run)

  is_run : status_of (length bytes) s run ≡ Ok (Some (label_of (length bytes) s run))
  is_run = grind (arith, common_steps)

  closing_is : closing ≡ cond (stop bytes s == length bytes) [] (flag ∷ [])
  closing_is = ap closing_flag is_run ∙ closes (stop bytes s == length bytes) (s == 0) (verdict_of run)

  -- a run, the flag that closes it and all behind them
  run_covers : spelled (run_at bytes s) ++ drop (run_at bytes s).next bytes ≡ drop s bytes
  run_covers =
      ⊎_elim
      (λ more.
      let flagged : closing ≡ flag ∷ [] = closing_is ∙ grind (arith, common_steps) in
      let next : (run_at bytes s).next ≡ stop bytes s + 1 = omega arith in
      (λ i. (run ++ flagged i) ++ drop (next i) bytes) ∙ append_assoc run (flag ∷ []) (drop (stop bytes s + 1) bytes) ∙ run_flag bytes s more)
      (λ past.
      let at : stop bytes s ≡ length bytes = omega (arith, stop_within bytes s (omega arith)) in
      let none : closing ≡ [] = closing_is ∙ grind (arith, common_steps) in
      let next : drop (run_at bytes s).next bytes ≡ [] = drop_all (run_at bytes s).next bytes (omega arith) in
      (λ i. (run ++ none i) ++ next i) ∙ append-nil (run ++ []) ∙ append-nil run ∙ run_whole bytes s past)
      (cases_lt (stop bytes s) (length bytes))

-- the pieces of calls made one after another, from a call that answers none, or a piece
pub pieces_end : (n : ℕ) (bytes : List ℕ) (place : ℕ) → (piece_at bytes place).status ≡ Ok None → pieces_from n bytes place ≡ []
unfolding pieces_from
pieces_end zero bytes place is = refl
pieces_end (suc n) bytes place is = simp is

pub pieces_more : (n : ℕ) (bytes : List ℕ) (place : ℕ) (label : Label) → (piece_at bytes place).status ≡ Ok (Some label) → pieces_from (suc n) bytes place ≡ piece_at bytes place ∷ pieces_from n bytes (piece_at bytes place).next
unfolding pieces_from
pieces_more n bytes place label is = simp is

-- calls from a place on, where a leading flag is passed over
record Going (bytes : List ℕ) (place : ℕ) (pieces : List Located) : Type 0 where
  calls : Calls bytes place pieces
  covers : flat_map spelled pieces ≡ drop (start_at bytes place) bytes
  flag_free : All (λ (piece : Located). FlagFree piece.raw) pieces

module _ (bytes : List ℕ) (short : length bytes ≤ limit) (place : ℕ) (within : place ≤ length bytes) where
  abbrev start : ℕ
  start = start_at bytes place

  abbrev here : Located
  here = piece_at bytes place

  not_refused : here ≡ run_at bytes start
  unfolding piece_at
  not_refused = grind (arith, common_steps)

  at_end : start ≡ length bytes → here.status ≡ Ok None
  at_end is = ap (λ (a : Located). a.status) not_refused ∙ grind (arith, common_steps)

  is_piece : start < length bytes → here.status ≡ Ok (Some (label_of (length bytes) start (run_from bytes start)))
  is_piece less = ap (λ (a : Located). a.status) not_refused ∙ is_run bytes start less

  goes_on : start < length bytes → (place < here.next) × (here.next ≤ length bytes)
  goes_on less = subst (λ (a : Located). (place < a.next) × (a.next ≤ length bytes)) (sym not_refused) (omega (arith, start_from bytes place), omega arith)

  none_left : start ≡ length bytes → Going bytes place []
  none_left is = record {
    calls = ended (at_end is);
    covers = sym (drop_all start bytes (omega arith));
    flag_free = All-nil _;
  }

  one_more : (after : List Located) → start < length bytes → Going bytes here.next after → Going bytes place (here ∷ after)
  one_more after less rest = record {
    calls = called (is_piece less) rest.calls;
    covers =
        ap (λ l. spelled here ++ l) (rest.covers ∙ ap (λ n. drop n bytes) (start_stays bytes here.next (omega (arith, goes_on less))))
        ∙ subst (λ (a : Located). spelled a ++ drop a.next bytes ≡ drop start bytes) (sym not_refused) (run_covers bytes start less);
    flag_free = All-cons (λ (a : Located). FlagFree a.raw) here after (subst (λ (a : Located). FlagFree a.raw) (sym not_refused) (free bytes start)) rest.flag_free;
  }

  end_here : (n : ℕ) → start ≡ length bytes → Going bytes place (pieces_from n bytes place)
  end_here n is = subst (Going bytes place) (sym (pieces_end n bytes place (at_end is))) (none_left is)

  from_here : (n : ℕ) → (place < here.next → here.next ≤ length bytes → Going bytes here.next (pieces_from n bytes here.next)) → Going bytes place (pieces_from (suc n) bytes place)
  from_here n rest =
      ⊎_elim
      (λ less.
      let beyond = goes_on less in
      subst (Going bytes place) (sym (pieces_more n bytes place _ (is_piece less))) (one_more (pieces_from n bytes here.next) less (rest beyond.0 beyond.1)))
      (λ past. end_here (suc n) (omega (arith, start_within bytes place within)))
      (cases_lt start (length bytes))

-- as many calls as there are bytes left suffice, since each goes on beyond its place
go : (n : ℕ) (bytes : List ℕ) (place : ℕ) → length bytes ≤ limit → length bytes ≤ place + n → place ≤ length bytes → Going bytes place (pieces_from n bytes place)
go zero bytes place short enough within = end_here bytes short place within 0 (omega (arith, start_from bytes place, start_within bytes place within))
go (suc n) bytes place short enough within =
    from_here bytes short place within n (λ more inside. go n bytes (piece_at bytes place).next short (omega arith) inside)

passed : (bytes : List ℕ) (place : ℕ) → passed_over bytes place ++ drop (start_at bytes place) bytes ≡ drop place bytes
passed [] zero = refl
passed (b ∷ bytes) zero = grind (arith, common_steps)
passed bytes (suc place) = grind (arith, common_steps)

pub covers_all : PiecesCoverTheRecording
covers_all bytes place short within =
    let all = go (length bytes) bytes place short (omega arith) within in
    record {
      calls = all.calls;
      covers = ap (λ l. passed_over bytes place ++ l) all.covers ∙ passed bytes place;
      flag_free = all.flag_free;
    }

pub none_at_end : NoneOnlyAtTheEnd
unfolding piece_at
none_at_end bytes place is = drop_all (start_at bytes place) bytes (grind (arith, common_steps))
