-- Lists of operations: one operation more, and what a place holds after them. Assumes nothing.
use Rattle.std.proofs.Common.{◌≡◌, ℕ, suc, ◌+◌, ◌<◌, Bool, ◌&&◌, ◌==◌, ◌↔◌, IsTrue, List, [], ◌∷◌, ◌++◌, length, get_or, take, drop, replicate, Some, None, Option, sym, refl, ap, ◌∙◌, subst, arith, length-set}
use Rattle.std.specs.Option.{option_map, option_eq}
use Rattle.std.specs.Cmp.Lexicographic.{pointwise}
use Rattle.std.proofs.lemmas.List.{take_more, append_cancel_right, same_from_push, get_or-set_same, get_or-set_other, length-replicate}
use Rattle.std.proofs.lemmas.List.Sums.{fold_push}
use Rattle.std.proofs.lemmas.Bool.Decides.{Decides-and, Decides-like, Decides-eqb}
use Rattle.std.proofs.lemmas.Slice.Eq.{slice_eq-Decides}
use Rattle.keyed.specs.Equality.{TellsApart, options}
use Rattle.store.specs.declared.operation.Operation.{Operation}
use Rattle.store.specs.declared.operation.Operation.TheVariants.{Read, Write, Wipe}
use Rattle.store.specs.Laws.{Passes, LastWriteHolds, NothingAfterAWipe, AsAtFirst, StoreLaws}
use Rattle.store.specs.Operations.{answer, shown, after, answers, after_all}
use Rattle.store.specs.Places.{Values, held, written, wiped}
use Rattle.settings.specs.Settings.{place_count, widest}
use Rattle.settings.specs.Values.{value_in}
use Rattle.store.proofs.Meaning.{no_row}

-- what a read shows tells what was held
shown_tells : (u v : Option (List ℕ)) → option_map shown u ≡ option_map shown v → u ≡ v
shown_tells None None e = refl
shown_tells None (Some b) e = cc
shown_tells (Some a) None e = cc
shown_tells (Some a) (Some b) e =
    let same : shown a ≡ shown b = cc in
    let rest : drop (length a) (replicate widest 0) ≡ drop (length b) (replicate widest 0) = ap (λ p. drop p.0 (replicate widest 0)) same in
    ap Some (append_cancel_right a b (drop (length b) (replicate widest 0)) (ap (λ l. a ++ l) (sym rest) ∙ ap (λ p. p.1) same))

-- whether two reads showed the same: the test that `==` makes of a width and a row
abbrev looks_same : ℕ × List ℕ → ℕ × List ℕ → Bool
looks_same a b = a.0 == b.0 && pointwise ◌==◌ a.1 b.1

looks_tell : TellsApart looks_same
looks_tell a b =
    Decides-like (looks_same a b) (λ both. λ i. (both.0 i, both.1 i)) (λ e. (ap (λ p. p.0) e, ap (λ p. p.1) e))
    (Decides-and (a.0 == b.0) (pointwise ◌==◌ a.1 b.1) (Decides-eqb a.0 b.0) (slice_eq-Decides Decides-eqb a.1 b.1 (pointwise ◌==◌ a.1 b.1) refl))

-- two stores that were given one operation show the same exactly where they answered it alike
shows_same : (u v : Option (List ℕ)) (a b : Option (ℕ × List ℕ)) (told : Bool) → a ≡ option_map shown u → b ≡ option_map shown v → told ≡ option_eq looks_same a b → IsTrue told ↔ (u ≡ v)
shows_same u v a b told left right is =
    let tells = options looks_same looks_tell a b in
    (λ yes. shown_tells u v (sym left ∙ tells.0 (sym is ∙ yes) ∙ right), λ e. is ∙ tells.1 (left ∙ ap (option_map shown) e ∙ sym right))

answers_push : (values : Values) (operations : List Operation) (o : Operation) → answers values (operations ++ o ∷ []) ≡ answers values operations ++ answer (after_all values operations) o ∷ []
unfolding answers
answers_push values [] o = refl
answers_push values (p ∷ operations) o = ap (λ l. answer values p ∷ l) (answers_push (after values p) operations o)

-- two stores have answered alike so far, or not, and are given one operation more
module _ (values others : Values) (operations : List Operation) (o : Operation) where
  abbrev NowAlike : Type 0
  NowAlike = answer (after_all values operations) o ≡ answer (after_all others operations) o

  more_alike : answers values operations ≡ answers others operations → NowAlike → answers values (operations ++ o ∷ []) ≡ answers others (operations ++ o ∷ [])
  more_alike before here = answers_push values operations o ∙ (λ i. before i ++ here i ∷ []) ∙ sym (answers_push others operations o)

  were_alike : answers values (operations ++ o ∷ []) ≡ answers others (operations ++ o ∷ []) → (answers values operations ≡ answers others operations) × NowAlike
  were_alike all =
      same_from_push (answers values operations) (answers others operations) (answer (after_all values operations) o) (answer (after_all others operations) o)
      (sym (answers_push values operations o) ∙ all ∙ answers_push others operations o)

  alike_more : (before now : Bool) → IsTrue before ↔ (answers values operations ≡ answers others operations) → IsTrue now ↔ NowAlike → IsTrue (before && now) ↔ (answers values (operations ++ o ∷ []) ≡ answers others (operations ++ o ∷ []))
  alike_more before now so_far here = Decides-like (before && now) (λ both. more_alike both.0 both.1) were_alike (Decides-and before now so_far here)

-- one turn of the loop that gives two stores the same operations: x and y are what they mean before it, p what one means after it
module _ (operations : List Operation) (i : ℕ) (o : Operation) (within : i < length operations) (here : o ≡ get_or operations i o) where
  next : take (i + 1) operations ≡ take i operations ++ o ∷ []
  next = take_more operations i o within ∙ ap (λ e. take i operations ++ e ∷ []) (sym here)

  pub means_more : (start x p : Values) → x ≡ after_all start (take i operations) → p ≡ after x o → p ≡ after_all start (take (i + 1) operations)
  means_more start x p before step =
      step ∙ ap (λ s. after s o) before ∙ sym (fold_push after start (take i operations) o) ∙ ap (after_all start) (sym next)

  -- a and b are what the two stores showed, and `told` whether those were the same
  pub mark_more : (values others x y : Values) (mark told : Bool) (a b : Option (ℕ × List ℕ)) → x ≡ after_all values (take i operations) → y ≡ after_all others (take i operations) → IsTrue mark ↔ (answers values (take i operations) ≡ answers others (take i operations)) → a ≡ option_map shown (answer x o) → b ≡ option_map shown (answer y o) → told ≡ option_eq looks_same a b → IsTrue (mark && told) ↔ (answers values (take (i + 1) operations) ≡ answers others (take (i + 1) operations))
  mark_more values others x y mark told a b ex ey so_far left right is =
      let here = shows_same (answer (after_all values (take i operations)) o) (answer (after_all others (take i operations)) o) a b told (left ∙ ap (λ s. option_map shown (answer s o)) ex) (right ∙ ap (λ s. option_map shown (answer s o)) ey) is in
      subst (λ (l : List Operation). IsTrue (mark && told) ↔ (answers values l ≡ answers others l)) (sym next) (alike_more values others (take i operations) o mark told so_far here)

after_long : (values : Values) (o : Operation) → length values ≡ place_count → length (after values o) ≡ place_count
after_long values (Read place) long = long
after_long values (Write place row) long = length-set values place.at (Some (value_in place.at row)) ∙ long
after_long values Wipe long = length-replicate {A = Option (List ℕ)} place_count None

after_all_long : (values : Values) (operations : List Operation) → length values ≡ place_count → length (after_all values operations) ≡ place_count
after_all_long values [] long = long
after_all_long values (o ∷ operations) long = after_all_long (after values o) operations (after_long values o long)

after_all-append : (values : Values) (earlier later : List Operation) → after_all values (earlier ++ later) ≡ after_all (after_all values earlier) later
after_all-append values [] later = refl
after_all-append values (o ∷ earlier) later = after_all-append (after values o) earlier later

passed_by : (values : Values) (o : Operation) (place : ℕ) → Passes place o → held (after values o) place ≡ held values place
passed_by values (Read p) place passes = refl
passed_by values (Write p row) place passes = get_or-set_other values p.at place (Some (value_in p.at row)) None (λ e. passes (sym e))
passed_by values Wipe place passes = absurd passes

as_at_first : AsAtFirst
as_at_first values [] place pass = refl
as_at_first values (o ∷ operations) place pass =
    as_at_first (after values o) operations place (λ k d within. pass (suc k) d (omega arith)) ∙ passed_by values o place (pass 0 o (omega arith))

last_write : LastWriteHolds
last_write values long earlier later place row pass =
    let old = after_all values earlier in
    let within : place.at < length old = omega (arith, place.bound, after_all_long values earlier long) in
    ap (λ s. held s place.at) (after_all-append values earlier (Write place row ∷ later))
    ∙ as_at_first (written old place.at row) later place.at pass
    ∙ get_or-set_same old place.at (Some (value_in place.at row)) None within

after_wipe : NothingAfterAWipe
after_wipe values earlier later place pass =
    ap (λ s. held s place) (after_all-append values earlier (Wipe ∷ later))
    ∙ as_at_first wiped later place pass
    ∙ no_row place_count place

pub store_laws : StoreLaws
store_laws = record { last_write = last_write; wipe = after_wipe; first = as_at_first }
