-- The last record that passes a test: where the search finds it, and after one record more or one record changed. Assumes nothing.
use Rattle.std.proofs.Common.{◌≡◌, ℕ, zero, suc, ◌+◌, ◌<◌, Bool, true, false, cond, List, [], ◌∷◌, ◌++◌, length, get_or, set, Some, None, Option, refl, ap, ◌∙◌, arith}
use Rattle.std.specs.List.{AllWithin, slice_get}
use Rattle.std.specs.Option.{option_map, option_or}
use Rattle.std.specs.Bool.{then_some}
use Rattle.keyed.specs.Keys.{last_index, last_of}

-- no record from this index on passes
abbrev pub NoneFrom : {R : Type 0} → (R → Bool) → List R → ℕ → Type 0
NoneFrom passes records i = AllWithin (λ r. passes r ≡ false) records i (length records)

module _ {R : Type 0} (passes : R → Bool) where
  pub index_none : (records : List R) → NoneFrom passes records 0 → last_index passes records ≡ None
  unfolding last_index
  index_none [] none = refl
  index_none (r ∷ records) none =
      let here : passes r ≡ false = none 0 r (omega arith) (omega arith) in
      let rest = index_none records (λ k d low high. none (suc k) d (omega arith) (omega arith)) in
      (λ i. option_or (option_map suc (rest i)) (then_some (here i) 0))

  pub index_found : (records : List R) (i : ℕ) (d : R) → i < length records → passes (get_or records i d) ≡ true → NoneFrom passes records (i + 1) → last_index passes records ≡ Some i
  unfolding last_index
  index_found [] i d within is none = absurd (omega arith)
  index_found (r ∷ records) zero d within is none =
      let rest = index_none records (λ k d low high. none (suc k) d (omega arith) (omega arith)) in
      (λ i. option_or (option_map suc (rest i)) (then_some (is i) 0))
  index_found (r ∷ records) (suc i) d within is none =
      let rest = index_found records i d (omega arith) is (λ k d low high. none (suc k) d (omega arith) (omega arith)) in
      ap (λ o. option_or (option_map suc o) (then_some (passes r) 0)) rest

  pub last_none : (records : List R) → NoneFrom passes records 0 → last_of passes records ≡ None
  unfolding last_of
  last_none [] none = refl
  last_none (r ∷ records) none =
      let here : passes r ≡ false = none 0 r (omega arith) (omega arith) in
      let rest = last_none records (λ k d low high. none (suc k) d (omega arith) (omega arith)) in
      (λ i. option_or (rest i) (then_some (here i) r))

  pub last_found : (records : List R) (i : ℕ) (d : R) → i < length records → passes (get_or records i d) ≡ true → NoneFrom passes records (i + 1) → last_of passes records ≡ Some (get_or records i d)
  unfolding last_of
  last_found [] i d within is none = absurd (omega arith)
  last_found (r ∷ records) zero d within is none =
      let rest = last_none records (λ k d low high. none (suc k) d (omega arith) (omega arith)) in
      (λ i. option_or (rest i) (then_some (is i) r))
  last_found (r ∷ records) (suc i) d within is none =
      let rest = last_found records i d (omega arith) is (λ k d low high. none (suc k) d (omega arith) (omega arith)) in
      ap (λ o. option_or o (then_some (passes r) r)) rest

  index_here : (t : Bool) (r d : R) (records : List R) (i : ℕ) → passes r ≡ t → then_some t 0 ≡ Some i → (i < length (r ∷ records)) × (passes (get_or (r ∷ records) i d) ≡ true)
  index_here true r d records zero e is = (omega arith, e)
  index_here true r d records (suc i) e is = let first : 0 ≡ suc i = cc in absurd (omega arith)
  index_here false r d records i e is = cc

  index_either : (o : Option ℕ) (r d : R) (records : List R) (i : ℕ) → ((j : ℕ) → o ≡ Some j → (j < length records) × (passes (get_or records j d) ≡ true)) → option_or (option_map suc o) (then_some (passes r) 0) ≡ Some i → (i < length (r ∷ records)) × (passes (get_or (r ∷ records) i d) ≡ true)
  index_either None r d records i rest is = index_here (passes r) r d records i refl is
  index_either (Some j) r d records zero rest is = let later : suc j ≡ 0 = cc in absurd (omega arith)
  index_either (Some j) r d records (suc i) rest is =
      let there = rest i (let later : j ≡ i = cc in ap Some later) in
      (omega (arith, there.0), there.1)

  -- the record at the index that is found passes
  pub index_passes : (records : List R) (i : ℕ) (d : R) → last_index passes records ≡ Some i → (i < length records) × (passes (get_or records i d) ≡ true)
  unfolding last_index
  index_passes [] i d is = cc
  index_passes (r ∷ records) i d is = index_either (last_index passes records) r d records i (λ j e. index_passes records j d e) is

  or_assoc : (a b c : Option R) → option_or (option_or a b) c ≡ option_or a (option_or b c)
  or_assoc None b c = refl
  or_assoc (Some x) b c = refl

  or_none : (o : Option R) → option_or None o ≡ option_or o None
  or_none None = refl
  or_none (Some x) = refl

  before_last : (o : Option R) (t : Bool) (r : R) → option_or (then_some t r) o ≡ cond t (Some r) o
  before_last o true r = refl
  before_last o false r = refl

  pushed : (records : List R) (r : R) → last_of passes (records ++ r ∷ []) ≡ option_or (then_some (passes r) r) (last_of passes records)
  unfolding last_of
  pushed [] r = or_none (then_some (passes r) r)
  pushed (q ∷ records) r =
      ap (λ o. option_or o (then_some (passes q) q)) (pushed records r)
      ∙ or_assoc (then_some (passes r) r) (last_of passes records) (then_some (passes q) q)

  -- a record that comes last is the one, if it passes
  pub last_push : (records : List R) (r : R) → last_of passes (records ++ r ∷ []) ≡ cond (passes r) (Some r) (last_of passes records)
  last_push records r = pushed records r ∙ before_last (last_of passes records) (passes r) r

  -- a record that does not pass, in the place of one that does not, makes no difference
  pub last-set_other : (records : List R) (i : ℕ) (r d : R) → passes (get_or records i d) ≡ false → passes r ≡ false → last_of passes (set records i r) ≡ last_of passes records
  unfolding last_of
  last-set_other [] i r d was is = refl
  last-set_other (q ∷ records) zero r d was is = simp (was, is)
  last-set_other (q ∷ records) (suc i) r d was is = ap (λ o. option_or o (then_some (passes q) q)) (last-set_other records i r d was is)

  passes_own : (t : Bool) (r q : R) → passes r ≡ t → then_some t r ≡ Some q → passes q ≡ true
  passes_own true r q e is = let same : r ≡ q = cc in cc
  passes_own false r q e is = cc

  passes_either : (o p : Option R) (q : R) → (o ≡ Some q → passes q ≡ true) → (p ≡ Some q → passes q ≡ true) → option_or o p ≡ Some q → passes q ≡ true
  passes_either None p q a b is = b is
  passes_either (Some x) p q a b is = a is

  -- what is found passes
  pub last_passes : (records : List R) (q : R) → last_of passes records ≡ Some q → passes q ≡ true
  unfolding last_of
  last_passes [] q is = cc
  last_passes (r ∷ records) q is = passes_either (last_of passes records) (then_some (passes r) r) q (last_passes records q) (passes_own (passes r) r q refl) is

  stands_either : (o : Option R) (t : Bool) (r q : R) (records : List R) → (o ≡ Some q → (i : ℕ) × (slice_get records i ≡ Some q)) → option_or o (then_some t r) ≡ Some q → (i : ℕ) × (slice_get (r ∷ records) i ≡ Some q)
  stands_either None true r q records rest is = (0, is)
  stands_either None false r q records rest is = cc
  stands_either (Some x) t r q records rest is = let there = rest is in (suc there.0, there.1)

  -- and it stands in the row
  pub last_stands : (records : List R) (q : R) → last_of passes records ≡ Some q → (i : ℕ) × (slice_get records i ≡ Some q)
  unfolding last_of
  last_stands [] q is = cc
  last_stands (r ∷ records) q is = stands_either (last_of passes records) (passes r) r q records (last_stands records q) is
