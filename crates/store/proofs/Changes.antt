-- What a log's calls make of the row that it was lent: a record more, and one change after another. Assumes nothing.
use Rattle.std.proofs.Common.{◌≡◌, ℕ, cond, Some, None, ◌+◌, ◌<◌, ◌≤◌, List, [], ◌∷◌, ◌++◌, length, get_or, take, drop, set, refl, sym, ap, ◌∙◌, append_assoc, append-nil, subst, arith, length-append}
use Rattle.std.specs.List.{cons_option}
use Rattle.std.proofs.lemmas.Bool.{le-ltb}
use Rattle.std.proofs.lemmas.List.{drop_more, set_at, take-append-drop, take_all, length-take, drop_min, take_more_set, length_push}
use Rattle.std.proofs.lemmas.Slice.{drop-append-drop}
use Rattle.store.specs.declared.log.LogStore.{LogStore}
use Rattle.store.specs.declared.records.Record.{Record}
use Rattle.store.specs.Logs.{capacity, latest_of, latest_of_first, latest_each, records_of, with_room, ChangesTo}
use Rattle.store.proofs.Logged.{first_none, first_count, first_more}
use Rattle.settings.specs.Settings.{place_count}
use Rattle.settings.specs.Values.{laid}

-- one element more after those that were laid into a row
laid_push : {A : Type 0} (xs old : List A) (n : ℕ) (x : A) → n ≡ length xs → n < length old → set (laid xs old) n x ≡ laid (xs ++ x ∷ []) old
laid_push xs old n x e within =
    let rest : drop (length xs) old ≡ get_or old n x ∷ drop (n + 1) old = ap (λ k. drop k old) (sym e) ∙ drop_more old n x within in
    let long : length (xs ++ x ∷ []) ≡ n + 1 = simp length-append (omega arith) in
    ap (λ r. set (xs ++ r) n x) rest
    ∙ set_at xs (get_or old n x) (drop (n + 1) old) x n (sym e)
    ∙ sym (append_assoc xs (x ∷ []) (drop (n + 1) old))
    ∙ ap (λ k. (xs ++ x ∷ []) ++ drop k old) (sym long)

-- a row's own front laid into it is the row
laid_own : {A : Type 0} (n : ℕ) (row : List A) → laid (take n row) row ≡ row
laid_own n row = ap (λ k. take n row ++ drop k row) (length-take n row) ∙ ap (λ l. take n row ++ l) (drop_min n row) ∙ take-append-drop n row

-- one change, and another that leaves no fewer records
changes_then : (a b c : LogStore) (xs ys : List Record) → ChangesTo a b xs → ChangesTo b c ys → length xs ≤ length ys → ChangesTo a c ys
changes_then a b c xs ys first then longer = record {
  records = then.records;
  row = then.row ∙ ap (laid ys) first.row ∙ ap (λ l. ys ++ l) (drop-append-drop (length xs) a.row.now xs (length ys) longer refl);
  lent = then.lent ∙ first.lent;
}

-- one record more, at the index that is the number of records so far
pub pushed_record : (old new : LogStore) (r : Record) (count : ℕ) → count ≡ length (records_of old) → length (records_of old) < length old.row.now → new.count ≡ count + 1 → new.row.now ≡ set old.row.now count r → new.row.ghost_name ≡ old.row.ghost_name → ChangesTo old new (records_of old ++ r ∷ [])
pushed_record old new r count is room more row lent =
    let same : old.count ≡ count = omega (arith, length-take old.count old.row.now) in
    record {
      records = (λ i. take (more i) (row i)) ∙ take_more_set old.row.now count r (omega arith) ∙ ap (λ n. take n old.row.now ++ r ∷ []) (sym same);
      row = row ∙ ap (λ l. set l count r) (sym (laid_own old.count old.row.now)) ∙ laid_push (records_of old) old.row.now count r is (omega arith);
      lent = lent;
    }

-- one turn of the loop that keeps the last record of each place
module _ (a b : LogStore) (full : List Record) (place : ℕ) (before : ChangesTo a b (latest_of_first place full)) where
  pub turn_some : (c : LogStore) (r : Record) → latest_of full place ≡ Some r → ChangesTo b c (records_of b ++ r ∷ []) → ChangesTo a c (latest_of_first (place + 1) full)
  turn_some c r found pushed =
      let more : latest_of_first (place + 1) full ≡ latest_of_first place full ++ r ∷ [] = first_more place full ∙ ap (λ o. latest_of_first place full ++ cons_option o []) found in
      let then : ChangesTo b c (latest_of_first (place + 1) full) = subst (ChangesTo b c) (ap (λ l. l ++ r ∷ []) before.records ∙ sym more) pushed in
      changes_then a b c (latest_of_first place full) (latest_of_first (place + 1) full) before then (omega (arith, ap length more, length_push (latest_of_first place full) r))

  pub turn_none : latest_of full place ≡ None → ChangesTo a b (latest_of_first (place + 1) full)
  turn_none found =
      subst (ChangesTo a b) (sym (first_more place full ∙ ap (λ o. latest_of_first place full ++ cons_option o []) found ∙ append-nil (latest_of_first place full))) before

-- a full log that kept the last record of each place made room
pub made_room : (old new : LogStore) (n : ℕ) → n ≡ place_count → length old.row.now ≡ capacity → capacity ≤ length (records_of old) → ChangesTo old new (latest_of_first n old.row.now) → ChangesTo old new (with_room (records_of old))
made_room old new n all long full kept =
    let whole : records_of old ≡ old.row.now = take_all old.count old.row.now (omega (arith, length-take old.count old.row.now)) in
    subst (ChangesTo old new)
    (ap (λ k. latest_of_first k old.row.now) all
    ∙ ap latest_each (sym whole)
    ∙ sym (ap (λ t. cond t (records_of old) (latest_each (records_of old))) (le-ltb (length (records_of old)) capacity full)))
    kept

-- what the loop that makes room leaves to show at its start and its end
pub ruleset room = (first_none, first_count, made_room)
