-- The proof that what a store means fits the settings, which stands here since the impls of the trait hold it as their law: an impl imports nothing of its own crate's proofs. Assumes nothing.
use Rattle.std.specs.Prelude.{◌≡◌, ℕ, ◌<◌, ◌≤◌, List, length, Some, None, Option, IfSome, slice_index}
use Rattle.std.proofs.Common.{⊎_elim, arith}
use Rattle.std.specs.Option.{option_map}
use Rattle.std.proofs.lemmas.List.FromFn.{length-map-range_with_len, get_or-map-range_with_len}
use Rattle.std.proofs.lemmas.List.{get_or_past}
use Rattle.std.proofs.lemmas.Bool.{cases_lt}
use Rattle.settings.specs.Settings.{place_count, width}
use Rattle.settings.specs.Values.{value_in}
use Rattle.store.specs.Places.{FitsSettings, held, places_by}

pub length_value : (place : ℕ) (row : List ℕ) → length (value_in place row) ≡ width place
unfolding value_in
length_value place row = length-map-range_with_len (λ i. slice_index row i) 0 (width place)

row_wide : (place : ℕ) (row : Option (List ℕ)) → IfSome (option_map (value_in place) row) (λ value. length value ≡ width place)
row_wide place None = tt
row_wide place (Some row) = length_value place row

module _ (rows : ℕ → Option (List ℕ)) where
  pub places_all : length (places_by rows) ≡ place_count
  unfolding places_by
  places_all = length-map-range_with_len (λ place. option_map (value_in place) (rows place)) 0 place_count

  pub held-places_by : (place : ℕ) → place < place_count → held (places_by rows) place ≡ option_map (value_in place) (rows place)
  unfolding places_by
  held-places_by place within = get_or-map-range_with_len (λ place. option_map (value_in place) (rows place)) 0 place_count place place None within (omega arith)

  places_wide : (place : ℕ) → IfSome (held (places_by rows) place) (λ value. length value ≡ width place)
  places_wide place =
      ⊎_elim
      (λ (within : place < place_count). rw held-places_by (row_wide place (rows place)))
      (λ (past : place_count ≤ place). let long = places_all in rw (get_or_past (places_by rows) place None (omega arith)) tt)
      (cases_lt place place_count)

  pub places_fit : FitsSettings (places_by rows)
  places_fit = record { all = places_all; wide = places_wide }
