-- What a log says of each place: after one record more, and after it gave up all but each place's last record. Assumes nothing.
use Rattle.std.proofs.Common.{◌≡◌, ℕ, zero, suc, ◌+◌, ◌<◌, ◌≤◌, ◌==◌, Bool, true, false, cond, ltb, ◌≢◌, List, [], ◌∷◌, ◌++◌, length, Some, None, Option, sym, refl, ap, ◌∙◌, ⊎_elim, append-nil, add-one, arith, length-append}
use Rattle.std.specs.List.{range_with_len, filter_map, cons_option}
use Rattle.std.specs.Option.{option_map}
use Rattle.std.proofs.lemmas.List.FromFn.{map-range_with_len_more}
use Rattle.std.proofs.lemmas.List.{map-id, length_push}
use Rattle.std.proofs.lemmas.List.Elements.{filter_map-append}
use Rattle.std.proofs.lemmas.Bool.{cases_eq, eq-eqb, ne_eqb, ltb-true, eqb-true}
use Rattle.keyed.specs.Keys.{last_of}
use Rattle.keyed.proofs.Latest.{last_push, last_passes}
use Rattle.store.specs.declared.records.Record.{Record}
use Rattle.store.specs.Laws.{LogLaws}
use Rattle.store.specs.Logs.{latest_of, latest_of_first, latest_each, with_room, appended, row_of, capacity}
use Rattle.store.specs.Places.{written, wiped, places_by}
use Rattle.settings.specs.Settings.{place_count}
use Rattle.store.proofs.Meaning.{places_by-written, places_by-wiped, places_by_same}

counting_push : (n : ℕ) → range_with_len 0 (n + 1) ≡ range_with_len 0 n ++ n ∷ []
counting_push n = sym (map-id (range_with_len 0 (n + 1))) ∙ map-range_with_len_more (λ x. x) 0 n n (omega arith) ∙ ap (λ l. l ++ n ∷ []) (map-id (range_with_len 0 n))

pub first_none : (records : List Record) → latest_of_first 0 records ≡ []
unfolding latest_of_first
first_none records = refl

-- one place more
pub first_more : (n : ℕ) (records : List Record) → latest_of_first (n + 1) records ≡ latest_of_first n records ++ cons_option (latest_of records n) []
unfolding latest_of_first
first_more n records = ap (filter_map (latest_of records)) (counting_push n) ∙ filter_map-append (latest_of records) (range_with_len 0 n) (n ∷ [])

at_most_one : (o : Option Record) → length (cons_option o []) ≤ 1
at_most_one None = omega arith
at_most_one (Some r) = omega arith

pub first_count : (n : ℕ) (records : List Record) → length (latest_of_first n records) ≤ n
first_count zero records = omega (arith, ap length (first_none records))
first_count (suc n) records =
    let more = ap (λ k. length (latest_of_first k records)) (sym (add-one n)) ∙ ap length (first_more n records) ∙ length-append (latest_of_first n records) (cons_option (latest_of records n) []) in
    omega (arith, more, first_count n records, at_most_one (latest_of records n))

-- after a record of another place, or none
pass_by : (records : List Record) (place n : ℕ) (o : Option Record) → ((r : Record) → o ≡ Some r → r.place ≡ n) → n ≢ place → latest_of (records ++ cons_option o []) place ≡ latest_of records place
pass_by records place n None is apart = ap (λ l. latest_of l place) (append-nil records)
pass_by records place n (Some r) is apart =
    last_push (λ (r : Record). r.place == place) records r
    ∙ ap (λ t. cond t (Some r) (latest_of records place)) (ne_eqb r.place place (λ e. apart (sym (is r refl) ∙ e)))

-- after a record of this place, or none where there was none
take_up : (records : List Record) (place : ℕ) (o : Option Record) → ((r : Record) → o ≡ Some r → r.place ≡ place) → latest_of records place ≡ None → latest_of (records ++ cons_option o []) place ≡ o
take_up records place None is none = ap (λ l. latest_of l place) (append-nil records) ∙ none
take_up records place (Some r) is none =
    last_push (λ (r : Record). r.place == place) records r
    ∙ ap (λ t. cond t (Some r) (latest_of records place)) (eq-eqb r.place place (is r refl))

own_place : (records : List Record) (n : ℕ) (r : Record) → latest_of records n ≡ Some r → r.place ≡ n
own_place records n r e = eqb-true r.place n (last_passes (λ (r : Record). r.place == n) records r e)

one_more : (n : ℕ) (records : List Record) → latest_of_first (suc n) records ≡ latest_of_first n records ++ cons_option (latest_of records n) []
one_more n records = ap (λ k. latest_of_first k records) (sym (add-one n)) ∙ first_more n records

-- of the places that are not among the first there is no record
not_first : (n : ℕ) (records : List Record) (place : ℕ) → n ≤ place → latest_of (latest_of_first n records) place ≡ None
unfolding last_of
not_first zero records place above = ap (λ l. latest_of l place) (first_none records)
not_first (suc n) records place above =
    ap (λ l. latest_of l place) (one_more n records)
    ∙ pass_by (latest_of_first n records) place n (latest_of records n) (own_place records n) (λ e. omega arith)
    ∙ not_first n records place (omega arith)

-- each of the first places keeps its last record
among_first : (n : ℕ) (records : List Record) (place : ℕ) → place < n → latest_of (latest_of_first n records) place ≡ latest_of records place
among_first zero records place below = absurd (omega arith)
among_first (suc n) records place below =
    ⊎_elim
    (λ (same : place ≡ n).
    ap (λ l. latest_of l place) (one_more n records)
    ∙ ap (latest_of (latest_of_first n records ++ cons_option (latest_of records n) [])) same
    ∙ take_up (latest_of_first n records) n (latest_of records n) (own_place records n) (not_first n records n (omega arith))
    ∙ ap (latest_of records) (sym same))
    (λ (apart : place ≢ n).
    ap (λ l. latest_of l place) (one_more n records)
    ∙ pass_by (latest_of_first n records) place n (latest_of records n) (own_place records n) (λ e. apart (sym e))
    ∙ among_first n records place (omega arith))
    (cases_eq place n)

-- a log that gives up all but each place's last record means what it meant
compacted : (records : List Record) → places_by (row_of (latest_each records)) ≡ places_by (row_of records)
compacted records = places_by_same (row_of (latest_each records)) (row_of records) (λ place within. ap (option_map (λ (r : Record). r.value)) (among_first place_count records place within))

-- one record more is a write
pushed : (records : List Record) (r : Record) → r.place < place_count → places_by (row_of (records ++ r ∷ [])) ≡ written (places_by (row_of records)) r.place r.value
pushed records r within =
    places_by-written (row_of records) r.place within (row_of (records ++ r ∷ [])) r.value
    (ap (option_map (λ (r : Record). r.value)) (last_push (λ (q : Record). q.place == r.place) records r ∙ ap (λ t. cond t (Some r) (latest_of records r.place)) (eq-eqb r.place r.place refl)))
    (λ other apart. ap (option_map (λ (r : Record). r.value)) (last_push (λ (q : Record). q.place == other) records r ∙ ap (λ t. cond t (Some r) (latest_of records other)) (ne_eqb r.place other (λ e. apart (sym e)))))

either_log : (room : Bool) (records : List Record) → places_by (row_of (cond room records (latest_each records))) ≡ places_by (row_of records)
either_log true records = refl
either_log false records = compacted records

-- a log that made room means what it meant
room_same : (records : List Record) → places_by (row_of (with_room records)) ≡ places_by (row_of records)
room_same records = either_log (ltb (length records) capacity) records

pub appended_writes : (records : List Record) (r : Record) → r.place < place_count → places_by (row_of (appended records r)) ≡ written (places_by (row_of records)) r.place r.value
appended_writes records r within =
    pushed (with_room records) r within
    ∙ ap (λ places. written places r.place r.value) (room_same records)

pub empty_log : places_by (row_of []) ≡ wiped
unfolding last_of
empty_log = places_by-wiped (row_of []) (λ place. refl)

stays_within : (room : Bool) (records : List Record) (r : Record) → ltb (length records) capacity ≡ room → length (cond room records (latest_each records) ++ r ∷ []) ≤ capacity
stays_within true records r e = omega (arith, ltb-true (length records) capacity e, length_push records r)
stays_within false records r e = omega (arith, first_count place_count records, length_push (latest_each records) r)

pub log_laws : LogLaws
log_laws = record {
  latest = among_first place_count;
  room = λ records. omega (arith, first_count place_count records);
  within = λ records r few. stays_within (ltb (length records) capacity) records r refl;
}
