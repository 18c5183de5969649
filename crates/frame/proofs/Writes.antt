-- Writing into a buffer, one part after another. Assumes nothing.
use Rattle.std.proofs.Common.{◌≡◌, ℕ, ◌+◌, ◌≤◌, List, [], ◌++◌, length, take, drop, sym, refl, ap, ◌∙◌, append_assoc, add-zero, arith, length-append, length-drop, take-append-drop, length-take-le}
use Rattle.std.proofs.lemmas.List.{drop-drop}
use Rattle.std.proofs.lemmas.Slice.{take-put_mid, drop-put_mid}
use borrow.Rule.Slice.PartMut.{put_mid}
use Rattle.std.proofs.lemmas.Grind.{common_steps}
use Rattle.frame.specs.Written.{written}

pub written_nothing : (old : List ℕ) (at : ℕ) → written old at [] ≡ old
unfolding written
written_nothing old at = ap (λ n. take at old ++ drop n old) (add-zero at) ∙ take-append-drop at old

-- as a slice's part is overwritten
pub overwritten : (old new bytes : List ℕ) (at n : ℕ) → new ≡ bytes → n ≡ length bytes → put_mid at n old new ≡ written old at bytes
unfolding written
overwritten old new bytes at n e f = grind (arith, common_steps, drop-drop {A = ℕ})

pub length-written : (old : List ℕ) (at : ℕ) (bytes : List ℕ) → at + length bytes ≤ length old → length (written old at bytes) ≡ length old
unfolding written
length-written old at bytes fits =
    let front : length (take at old) ≡ at = length-take-le at old (omega arith) in
    simp (length-append, length-drop, front) (omega arith)

-- two parts, the second right after the first, are one
pub written_more : (old : List ℕ) (at : ℕ) (xs ys : List ℕ) → at ≤ length old → written (written old at xs) (at + length xs) ys ≡ written old at (xs ++ ys)
unfolding written
written_more old at xs ys fits =
    let place = at + length xs in
    let once : written old at xs ≡ put_mid at (length xs) old xs = sym (overwritten old xs xs at (length xs) refl refl) in
    let front : take place (written old at xs) ≡ take at old ++ xs = ap (take place) once ∙ take-put_mid at (length xs) old xs place refl fits in
    let back : drop (place + length ys) (written old at xs) ≡ drop (at + length (xs ++ ys)) old =
    ap (drop (place + length ys)) once ∙ drop-put_mid at (length xs) old xs (place + length ys) (omega arith) fits refl ∙ ap (λ n. drop n old) (simp length-append (omega arith)) in
    (λ i. front i ++ (ys ++ back i)) ∙ simp append_assoc
