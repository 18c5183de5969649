-- The places of any store that keeps values in rows of bytes: one read, one row more, no row at all. Assumes nothing.
use Rattle.std.proofs.Common.{◌≡◌, ℕ, ◌<◌, ◌≤◌, ◌≢◌, List, ◌++◌, length, get_or, take, drop, set, replicate, Some, None, Option, sym, ap, ◌∙◌, ⊎_elim, arith, length-set}
use Rattle.std.specs.Option.{option_map}
use Rattle.std.proofs.lemmas.List.{ext_get_or, get_or_past, get_or-set_same, get_or-set_other, get_or-replicate, length-replicate}
use Rattle.std.proofs.lemmas.Bool.{cases_eq, cases_lt}
use Rattle.settings.proofs.Tabulated.{value_front}
use Rattle.store.specs.Fits.{length_value, places_all, held-places_by}
use Rattle.store.specs.Places.{written, wiped, places_by}
use Rattle.settings.specs.Settings.{place_count, width}
use Rattle.settings.specs.Values.{value_in, laid}

-- a front copied over another row's front, as the two parts of a write to it stand
pub laid_front : (place : ℕ) (row old part : List ℕ) (n : ℕ) → width place ≤ length row → n ≡ width place → part ≡ take n row → part ++ drop n old ≡ laid (value_in place row) old
laid_front place row old part n long e is =
    let value : part ≡ value_in place row = is ∙ ap (λ k. take k row) e ∙ sym (value_front place row long) in
    let count : n ≡ length (value_in place row) = e ∙ sym (length_value place row) in
    λ i. value i ++ drop (count i) old

module _ (rows : ℕ → Option (List ℕ)) (place : ℕ) (within : place < place_count) where
  -- one place has another row, and every other place its old one
  pub places_by-written : (more : ℕ → Option (List ℕ)) (row : List ℕ) → more place ≡ Some row → ((other : ℕ) → other ≢ place → more other ≡ rows other) → places_by more ≡ written (places_by rows) place row
  places_by-written more row here elsewhere =
      let long = places_all rows in
      let same_length : length (places_by more) ≡ length (written (places_by rows) place row) = places_all more ∙ sym (length-set (places_by rows) place (Some (value_in place row)) ∙ long) in
      ext_get_or None (places_by more) (written (places_by rows) place row) same_length
      (λ k inside.
      let below : k < place_count = omega (arith, places_all more) in
      ⊎_elim
      (λ (same : k ≡ place).
      held-places_by more k below
      ∙ (λ i. option_map (value_in (same i)) (more (same i)))
      ∙ ap (option_map (value_in place)) here
      ∙ sym (ap (λ j. get_or (written (places_by rows) place row) j None) same ∙ get_or-set_same (places_by rows) place (Some (value_in place row)) None (omega (arith, long))))
      (λ (other : k ≢ place).
      held-places_by more k below
      ∙ ap (option_map (value_in k)) (elsewhere k other)
      ∙ sym (held-places_by rows k below)
      ∙ sym (get_or-set_other (places_by rows) place k (Some (value_in place row)) None other))
      (cases_eq k place))

pub places_by_same : (rows others : ℕ → Option (List ℕ)) → ((place : ℕ) → place < place_count → rows place ≡ others place) → places_by rows ≡ places_by others
places_by_same rows others same =
    ext_get_or None (places_by rows) (places_by others) (places_all rows ∙ sym (places_all others))
    (λ k inside.
    let below : k < place_count = omega (arith, places_all rows) in
    held-places_by rows k below ∙ ap (option_map (value_in k)) (same k below) ∙ sym (held-places_by others k below))

pub places_by-wiped : (rows : ℕ → Option (List ℕ)) → ((place : ℕ) → rows place ≡ None) → places_by rows ≡ wiped
places_by-wiped rows none =
    ext_get_or None (places_by rows) wiped (places_all rows)
    (λ k inside.
    let below : k < place_count = omega (arith, places_all rows) in
    held-places_by rows k below ∙ ap (option_map (value_in k)) (none k) ∙ sym (get_or-replicate place_count k None None below))

pub list_written : (rows : List (Option (List ℕ))) (place n : ℕ) (row : List ℕ) → place < place_count → length rows ≡ place_count → n ≡ place → places_by (λ p. get_or (set rows n (Some row)) p None) ≡ written (places_by (λ p. get_or rows p None)) place row
list_written rows place n row within long e =
    places_by-written (λ p. get_or rows p None) place within (λ p. get_or (set rows n (Some row)) p None) row
    (ap (λ k. get_or (set rows k (Some row)) place None) e ∙ get_or-set_same rows place (Some row) None (omega arith))
    (λ other apart. ap (λ k. get_or (set rows k (Some row)) other None) e ∙ get_or-set_other rows place other (Some row) None apart)

pub no_row : (n p : ℕ) → get_or {A = Option (List ℕ)} (replicate n None) p None ≡ None
no_row n p =
    ⊎_elim
    (λ (within : p < n). get_or-replicate n p None None within)
    (λ (past : n ≤ p). let long = length-replicate {A = Option (List ℕ)} n None in get_or_past (replicate n None) p None (omega arith))
    (cases_lt p n)

pub list_wiped : places_by (λ p. get_or {A = Option (List ℕ)} (replicate place_count None) p None) ≡ wiped
list_wiped = places_by-wiped (λ p. get_or {A = Option (List ℕ)} (replicate place_count None) p None) (no_row place_count)

-- what a read of a place leaves to show
pub ruleset reads = (held-places_by, length_value)
