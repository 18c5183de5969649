-- A run, from the place where it begins up to the next flag. Assumes nothing.
use Rattle.std.proofs.Common.{◌≡◌, ℕ, ◌+◌, ◌<◌, ◌≤◌, not, List, ◌∷◌, ◌++◌, length, drop, slice_index, sym, ap, ◌∙◌, arith, length-drop, length-take-le, take_all}
use Rattle.std.specs.List.{position_or_len}
use Rattle.std.proofs.lemmas.Bool.{eqb-true, eqb-false}
use Rattle.std.proofs.lemmas.Grind.{common_steps}
use Rattle.std.proofs.lemmas.List.{drop-drop, get_or-take}
use Rattle.std.proofs.lemmas.List.Sums.{prefix_len-le-length, split_at_first, fails_before_first, passes_at_first}
use Rattle.frame.specs.Escapes.{flag}
use Rattle.frame.specs.Laws.{FlagFree}
use Rattle.recording.specs.Pieces.{start_at, is_flag, run_from}

-- a place past 0 is where its run begins, and no run begins before its place or past the recording's end
pub start_stays : (bytes : List ℕ) (place : ℕ) → 0 < place → start_at bytes place ≡ place
start_stays bytes place more = grind (arith, common_steps)

pub start_from : (bytes : List ℕ) (place : ℕ) → place ≤ start_at bytes place
start_from bytes place = grind (arith, common_steps)

pub start_within : (bytes : List ℕ) (place : ℕ) → place ≤ length bytes → start_at bytes place ≤ length bytes
start_within bytes place within = grind (arith, common_steps)

module _ (bytes : List ℕ) (start : ℕ) where
  abbrev rest : List ℕ
  rest = drop start bytes

  -- how many bytes stand before the next flag
  abbrev reach : ℕ
  reach = position_or_len is_flag rest

  -- where the run ends
  abbrev pub stop : ℕ
  stop = start + length (run_from bytes start)

  length_run : length (run_from bytes start) ≡ reach
  unfolding run_from
  length_run = length-take-le reach rest (prefix_len-le-length _ rest)

  pub stop_within : start ≤ length bytes → stop ≤ length bytes
  stop_within within = omega (arith, length_run, prefix_len-le-length (λ b. not (is_flag b)) rest, length-drop start bytes)

  pub flag_free : FlagFree (run_from bytes start)
  unfolding run_from
  flag_free = λ k d inside is.
      let here : k < reach = omega (arith, length_run) in
      eqb-false _ _ (fails_before_first is_flag rest k d here) (sym (get_or-take reach rest k d here) ∙ is)

  -- a run that ends before the recording does ends at a flag
  pub run_flag : stop < length bytes → run_from bytes start ++ (flag ∷ drop (stop + 1) bytes) ≡ rest
  unfolding run_from
  run_flag more =
      let inside : reach < length rest = omega (arith, length_run, length-drop start bytes) in
      let closing : slice_index rest reach ≡ flag = eqb-true _ _ (passes_at_first is_flag rest 0 inside) in
      let after : drop (reach + 1) rest ≡ drop (stop + 1) bytes = drop-drop (reach + 1) start bytes ∙ ap (λ n. drop n bytes) (omega (arith, length_run)) in
      sym (split_at_first is_flag rest 0 inside ∙ (λ i. run_from bytes start ++ (closing i ∷ after i)))

  -- one that no flag ends is all the rest
  pub run_whole : length bytes ≤ stop → run_from bytes start ≡ rest
  unfolding run_from
  run_whole past = take_all reach rest (omega (arith, length_run, length-drop start bytes))
