-- What a search for a key finds, by a test that tells keys apart. Assumes nothing.
use Rattle.std.proofs.Common.{◌≡◌, ℕ, ◌+◌, ◌<◌, Bool, true, false, List, [], ◌∷◌, length, get_or, Some, None, Option, sym, arith}
use Rattle.std.specs.Option.{IfSome, option_map}
use Rattle.std.proofs.lemmas.Bool.{false_from_ne_true}
use Rattle.keyed.specs.Equality.{TellsApart}
use Rattle.keyed.specs.Keys.{IsLast, FindsLast, last_index, last_of}
use Rattle.keyed.proofs.Latest.{NoneFrom, index_none, index_found, last_none, last_found}

module _ {R K : Type 0} (key : R → K) (equal : K → K → Bool) (tells : TellsApart equal) (wanted : K) where
  -- whether a record has the key
  abbrev has : R → Bool
  has r = equal (key r) wanted

  lacks : (r : R) → (key r ≡ wanted → ⊥) → has r ≡ false
  lacks r other = false_from_ne_true (has r) (λ e. other ((tells (key r) wanted).0 e))

  pub none_later : (records : List R) (i : ℕ) → IsLast key wanted records i → NoneFrom has records (i + 1)
  none_later records i last = λ k d low high. lacks (get_or records k d) (last.2 k d low high)

  pub has_there : (records : List R) (i : ℕ) (d : R) → IsLast key wanted records i → has (get_or records i d) ≡ true
  has_there records i d last = (tells (key (get_or records i d)) wanted).1 (last.1 d)

  pub found_index : (records : List R) (result : Option ℕ) → IfSome result (λ i. i < length records) → FindsLast key wanted records result → result ≡ last_index has records
  found_index records None within absent = sym (index_none has records (λ k d low high. lacks (get_or records k d) (absent k d high)))
  found_index [] (Some i) within last = absurd (omega arith)
  found_index (r ∷ records) (Some i) within last = sym (index_found has (r ∷ records) i r within (has_there (r ∷ records) i r last) (none_later (r ∷ records) i last))

  pub found_record : (records : List R) (result : Option ℕ) (d : R) → IfSome result (λ i. i < length records) → FindsLast key wanted records result → option_map (λ i. get_or records i d) result ≡ last_of has records
  found_record records None d within absent = sym (last_none has records (λ k d low high. lacks (get_or records k d) (absent k d high)))
  found_record records (Some i) d within last = sym (last_found has records i d within (has_there records i d last) (none_later records i last))
