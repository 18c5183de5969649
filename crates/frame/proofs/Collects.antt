-- What a collector keeps of a piece is its content, cut off at 125 bytes, or that an escape is not right. Assumes nothing.
use Rattle.std.proofs.Common.{◌≡◌, ℕ, ◌<◌, ◌≤◌, Bool, true, false, cond, ◌||◌, eqb, ltb, List, [], ◌∷◌, ◌++◌, length, take, Some, None, fold, Option, sym, refl, ap, ◌∙◌, append_assoc, append-nil, arith, length-append, take_all}
use Rattle.std.proofs.Math.Bool.{or-true, or-false}
use Rattle.std.proofs.lemmas.List.{take-append-le}
use Rattle.std.proofs.lemmas.List.Sums.{fold_push}
use Rattle.std.proofs.lemmas.Bool.{lt-ltb, le-ltb}
use Rattle.std.proofs.lemmas.Bool.Decides.{nat_tests}
use Rattle.frame.specs.declared.collector.Escapes.TheVariants.{Whole, Half, Bad}
use Rattle.frame.specs.Collected.{Kept, kept, nothing, added, resolved, collect, kept_of, is_whole}
use Rattle.frame.specs.Escapes.{escape_byte, stands_for, before, unescaped}
use Rattle.frame.specs.Verdicts.{longest}

pub kept_of_none : kept_of [] ≡ nothing
unfolding kept_of
kept_of_none = refl

pub kept_of_push : (raw : List ℕ) (b : ℕ) → kept_of (raw ++ b ∷ []) ≡ collect (kept_of raw) b
unfolding kept_of
kept_of_push raw b = fold_push collect nothing raw b

-- after a content c that was not over, or was, the bytes cs more
abbrev pub filled : List ℕ → Bool → List ℕ → Kept
filled c o cs = kept (take longest (c ++ cs)) (o || ltb longest (length (c ++ cs))) Whole

-- what the bytes of a piece leave, by its content
abbrev pub Leaves : Option (List ℕ) → List ℕ → Bool → Kept → Type 0
Leaves None c o k = is_whole k.escapes ≡ false
Leaves (Some cs) c o k = k ≡ filled c o cs

bad_stays : (raw : List ℕ) (c : List ℕ) (o : Bool) → is_whole (fold collect (kept c o Bad) raw).escapes ≡ false
bad_stays [] c o = refl
bad_stays (b ∷ raw) c o = bad_stays raw c o

-- one byte more goes before the bytes to come
filled_room : (c : List ℕ) (o : Bool) (v : ℕ) (cs : List ℕ) → filled (c ++ v ∷ []) o cs ≡ filled c o (v ∷ cs)
filled_room c o v cs = ap (λ l. kept (take longest l) (o || ltb longest (length l)) Whole) (append_assoc c (v ∷ []) cs)

filled_full : (c : List ℕ) (o : Bool) (v : ℕ) (cs : List ℕ) → length c ≡ longest → filled c true cs ≡ filled c o (v ∷ cs)
filled_full c o v cs full =
    let fits : longest ≤ length c = omega arith in
    let long : longest < length (c ++ v ∷ cs) = simp length-append (omega arith) in
    let front : take longest (c ++ cs) ≡ take longest (c ++ v ∷ cs) = take-append-le longest c cs fits ∙ sym (take-append-le longest c (v ∷ cs) fits) in
    let over : true ≡ (o || ltb longest (length (c ++ v ∷ cs))) = sym (ap (λ t. o || t) (lt-ltb _ _ long) ∙ or-true o) in
    λ i. kept (front i) (over i) Whole

abbrev Following : Option (List ℕ) → List ℕ → Type 0
Following u rest = (c : List ℕ) (o : Bool) → length c ≤ longest → Leaves u c o (fold collect (kept c o Whole) rest)

one_more : (c : List ℕ) (o : Bool) (v : ℕ) (u : Option (List ℕ)) (rest : List ℕ) → length c ≤ longest → Following u rest → Leaves (before (Some v) u) c o (fold collect (added (kept c o Whole) v) rest)
one_more c o v None rest few more = grind (arith, nat_tests, length-append {A = ℕ}, more (c ++ v ∷ []) o, more c true few)
one_more c o v (Some cs) rest few more =
    grind (arith, nat_tests, length-append {A = ℕ}, more (c ++ v ∷ []) o, more c true few, filled_room c o v cs, filled_full c o v cs)

resolves : (s : Option ℕ) (c : List ℕ) (o : Bool) (u : Option (List ℕ)) (rest : List ℕ) → length c ≤ longest → Following u rest → Leaves (before s u) c o (fold collect (resolved (kept c o Half) s) rest)
resolves None c o u rest few more = bad_stays rest c o
resolves (Some v) c o u rest few more = one_more c o v u rest few more

nothing_more : (c : List ℕ) (o : Bool) → length c ≤ longest → kept c o Whole ≡ filled c o []
nothing_more c o few =
    let all : c ≡ take longest (c ++ []) = sym (take_all longest c few) ∙ ap (take longest) (sym (append-nil c)) in
    let within : length (c ++ []) ≤ longest = simp append-nil few in
    let over : o ≡ (o || ltb longest (length (c ++ []))) = sym (ap (λ t. o || t) (le-ltb longest (length (c ++ [])) within) ∙ or-false o) in
    λ i. kept (all i) (over i) Whole

last_byte : (t : Bool) (b : ℕ) (c : List ℕ) (o : Bool) → length c ≤ longest → Leaves (cond t None (Some (b ∷ []))) c o (cond t (kept c o Half) (added (kept c o Whole) b))
last_byte true b c o few = refl
last_byte false b c o few = one_more c o b (Some []) [] few (λ d p h. nothing_more d p h)

two_bytes : (t : Bool) (b e : ℕ) (u w : Option (List ℕ)) (raw : List ℕ) → Following u raw → Following w (e ∷ raw) → (c : List ℕ) (o : Bool) → length c ≤ longest → Leaves (cond t (before (stands_for e) u) (before (Some b) w)) c o (fold collect (cond t (kept c o Half) (added (kept c o Whole) b)) (e ∷ raw))
two_bytes true b e u w raw past next c o few = resolves (stands_for e) c o u raw few past
two_bytes false b e u w raw past next c o few = one_more c o b w (e ∷ raw) few next

pub collects : (raw : List ℕ) → Following (unescaped raw) raw
unfolding unescaped
collects [] c o few = nothing_more c o few
collects (b ∷ []) c o few = last_byte (eqb b escape_byte) b c o few
collects (b ∷ e ∷ raw) c o few = two_bytes (eqb b escape_byte) b e (unescaped raw) (unescaped (e ∷ raw)) raw (collects raw) (collects (e ∷ raw)) c o few
