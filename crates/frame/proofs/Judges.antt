-- What a collector keeps of a piece decides the verdict that the piece has, and where that is good its content. Assumes nothing.
use Rattle.std.proofs.Common.{◌≡◌, ℕ, suc, ◌<◌, ◌≤◌, Bool, true, false, cond, not, eqb, ltb, List, [], ◌∷◌, length, take, is_some, Some, None, Option, unwrap_or, sym, refl, ap, ◌∙◌, arith, length-take, take_all}
use Rattle.std.proofs.lemmas.Bool.{ne_eqb}
use Rattle.std.proofs.lemmas.Bool.Decides.{nat_tests}
use Rattle.frame.specs.declared.verdict.Verdict.{Verdict}
use Rattle.frame.specs.declared.verdict.Verdict.TheVariants.{Escape, Good}
use Rattle.frame.specs.Collected.{Kept, kept_of, is_whole, judged}
use Rattle.frame.specs.Escapes.{escape_byte, stands_for, before, unescaped}
use Rattle.frame.specs.Verdicts.{longest, shortest, content_of, due, carried, verdict_by, verdict_of}
use Rattle.frame.proofs.Collects.{Leaves, collects}

-- a content that came from some byte has some byte
abbrev SomeByte : Option (List ℕ) → Type 0
SomeByte None = Unit {0}
SomeByte (Some cs) = 0 < length cs

before_some : (s : Option ℕ) (u : Option (List ℕ)) → SomeByte (before s u)
before_some None u = tt
before_some (Some b) None = tt
before_some (Some b) (Some cs) = omega arith

either_way : (t : Bool) (u w : Option (List ℕ)) → SomeByte u → SomeByte w → SomeByte (cond t u w)
either_way true u w hu hw = hu
either_way false u w hu hw = hw

some_byte : (b : ℕ) (raw : List ℕ) → SomeByte (unescaped (b ∷ raw))
unfolding unescaped
some_byte b [] = either_way (eqb b escape_byte) None (Some (b ∷ [])) tt (omega arith)
some_byte b (e ∷ raw) =
    either_way (eqb b escape_byte) (before (stands_for e) (unescaped raw)) (before (Some b) (unescaped (e ∷ raw)))
    (before_some (stands_for e) (unescaped raw)) (before_some (Some b) (unescaped (e ∷ raw)))

-- the verdict and the content of a piece, by what is kept
pub record Decided (raw : List ℕ) (k : Kept) : Type 0 where
  pub verdict : judged k ≡ verdict_of raw
  pub content : verdict_of raw ≡ Good → k.content ≡ content_of raw

-- the verdict by whether there is no byte, and by the content
abbrev verdict_for : Bool → Option (List ℕ) → Verdict
verdict_for none u = verdict_by none (not (is_some u)) (ltb longest (length (unwrap_or u []))) (unwrap_or u [])

with_byte : (b : ℕ) (raw : List ℕ) (u : Option (List ℕ)) → unescaped (b ∷ raw) ≡ u → verdict_of (b ∷ raw) ≡ verdict_for false u
unfolding verdict_of
with_byte b raw u e = let some : eqb (suc (length raw)) 0 ≡ false = ne_eqb (suc (length raw)) 0 (λ h. omega arith) in λ i. verdict_for (some i) (e i)

not_whole : (k : Kept) → is_whole k.escapes ≡ false → judged k ≡ Escape
not_whole k e = ap (λ t. cond t (verdict_by (eqb (length k.content) 0) false k.over k.content) Escape) e

-- a content of 5 to 125 bytes with the check sequence that is due is good
pub good_content : (raw cs : List ℕ) → unescaped raw ≡ Some cs → shortest ≤ length cs → length cs ≤ longest → due cs ≡ carried cs → verdict_of raw ≡ Good
unfolding unescaped
good_content [] cs e low high right =
    let none : [] ≡ cs = cc in
    absurd (omega (arith, ap length none))
good_content (b ∷ raw) cs e low high right =
    with_byte b raw (Some cs) e ∙ grind (arith, nat_tests)

front_some : (cs : List ℕ) → 0 < length cs → eqb (length (take longest cs)) 0 ≡ false
front_some cs some = ne_eqb (length (take longest cs)) 0 (λ h. omega (arith, length-take longest cs))

-- a content that was cut off is long, and any other is judged as it is
judges_at : (cs : List ℕ) → 0 < length cs → verdict_by (eqb (length (take longest cs)) 0) false (ltb longest (length cs)) (take longest cs) ≡ verdict_for false (Some cs)
judges_at cs some = grind (arith, nat_tests, front_some cs some, take_all longest cs)

-- a good content was not cut off
good_whole : (cs : List ℕ) → verdict_for false (Some cs) ≡ Good → take longest cs ≡ cs
good_whole cs good = grind (arith, nat_tests, take_all longest cs)

judges : (b : ℕ) (raw : List ℕ) (u : Option (List ℕ)) (k : Kept) → unescaped (b ∷ raw) ≡ u → SomeByte u → Leaves u [] false k → Decided (b ∷ raw) k
judges b raw None k e some left = record {
  verdict = not_whole k left ∙ sym (with_byte b raw None e);
  content = λ good. let bad = with_byte b raw None e in let z : ◌≡◌ {A = ℕ} 0 1 = cc in absurd (omega arith);
}
judges b raw (Some cs) k e some left = record {
  verdict = ap judged left ∙ judges_at cs some ∙ sym (with_byte b raw (Some cs) e);
  content = λ good.
      ap (λ (j : Kept). j.content) left
      ∙ good_whole cs (sym (with_byte b raw (Some cs) e) ∙ good)
      ∙ sym (ap (λ u. unwrap_or u []) e);
}

pub decides : (raw : List ℕ) → Decided raw (kept_of raw)
unfolding kept_of verdict_of unescaped
decides [] = record { verdict = refl; content = λ good. refl }
decides (b ∷ raw) = judges b raw (unescaped (b ∷ raw)) (kept_of (b ∷ raw)) refl (some_byte b raw) (collects (b ∷ raw) [] false (omega arith))
