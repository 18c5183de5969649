-- The services of every table are right, and accepting a value keeps them so. Assumes nothing.
use Rattle.std.proofs.Common.{◌≡◌, ℕ, ◌<◌, ◌≤◌, true, false, not, List, length, get_or, set, replicate, Some, None, Option, sym, refl, ap, ◌∙◌, ⊎_elim, arith}
use Rattle.std.specs.Option.{option_flatten}
use Rattle.std.proofs.lemmas.Grind.{common_steps}
use Rattle.std.proofs.lemmas.List.{length-set, get_or-replicate, length-replicate, get_or_past}
use Rattle.std.proofs.lemmas.Option.{get_or_from_slice_get, same_Some}
use Rattle.std.proofs.lemmas.Bool.{cases_eq, cases_lt, cond_both, eqb-false, not-false}
use Rattle.keyed.specs.Keys.{last_of}
use Rattle.keyed.proofs.Latest.{last_passes, last_stands}
use Rattle.service.specs.declared.value.Service.{Service}
use Rattle.service.specs.Rule.{ids, is_deletion, keeps_rule}
use Rattle.services.specs.Accepting.{is_full}
use Rattle.services.specs.Entries.{capacity, Holds}
use Rattle.services.specs.Laws.{Rightful, Right, TablesAreRight, AcceptingStaysRight}
use Rattle.services.specs.Services.{nothing_held, held, read_in}
use Rattle.services.proofs.Counting.{held-set, counted_sound}
use Rattle.services.proofs.Reading.{has, rule_id, length-services, get_or-services}

-- a service that is found was in the entry that was found
found_some : (o : Option (Option Service)) (s : Service) → option_flatten o ≡ Some s → o ≡ Some (Some s)
found_some None s is = cc
found_some (Some o) s is = ap Some is

-- what is read of an id stands in an entry, and has the id
read_stands : (es : List (Option Service)) (id : ℕ) (s : Service) → read_in es id ≡ Some s → ((i : ℕ) × Holds es i s) × (s.id ≡ id)
read_stands es id s reads =
    let found = found_some (last_of (has id) es) s reads in
    let there = last_stands (has id) es (Some s) found in
    let passes = last_passes (has id) es (Some s) found in
    ((there.0, get_or_from_slice_get es there.0 (Some s) None there.1), grind (arith, common_steps))

pub tables_right : TablesAreRight
tables_right t =
    let es = t.entries in
    record {
      all_ids = length-services es;
      few = let count = counted_sound es t.sound in omega arith;
      rightful = λ id s reads.
          let there = read_stands es id s (sym (get_or-services es id t.sound.lawful) ∙ reads) in
          let may = t.sound.lawful there.0.0 s there.0.1 in
          record { same_id = there.1; rule = grind (arith, common_steps); lasting = grind (arith, common_steps) };
    }

-- nothing stands at any place of a row of nones, or past it
none_anywhere : (n id : ℕ) → get_or {A = Option Service} (replicate n None) id None ≡ None
none_anywhere n id =
    ⊎_elim
    (λ (within : id < n). get_or-replicate n id None None within)
    (λ (past : n ≤ id). get_or_past (replicate n None) id None (simp length-replicate past))
    (cases_lt id n)

empty_right : Right nothing_held
unfolding nothing_held held
empty_right =
    record {
      all_ids = refl;
      few = omega arith;
      rightful = λ id s reads. let none = none_anywhere ids id in cc;
    }

-- right services with one id changed, to a rightful value or to none
right-set : (ss : List (Option Service)) (s : Service) (v : Option Service) → Right ss → s.id < ids → held (set ss s.id v) ≤ capacity → ((t : Service) → v ≡ Some t → Rightful s.id t) → Right (set ss s.id v)
right-set ss s v right is_id few value =
    record {
      all_ids = length-set ss s.id v ∙ right.all_ids;
      few = few;
      rightful = λ q t reads. grind (arith, common_steps, value t, right.rightful q t, cases_eq q s.id);
    }

-- a value for which there is room, taken
taken : (ss : List (Option Service)) (s : Service) → Right ss → keeps_rule s ≡ true → is_deletion s ≡ false → is_full ss s ≡ false → Right (set ss s.id (Some s))
taken ss s right rule lasts room =
    let is_id = rule_id s rule in
    let within : s.id < length ss = let all = right.all_ids in omega arith in
    let without = held-set ss s.id None within in
    let with = held-set ss s.id (Some s) within in
    let others = eqb-false (held (set ss s.id None)) capacity room in
    let few = right.few in
    let own : Rightful s.id s = record { same_id = refl; rule = rule; lasting = eqb-false s.time 0 lasts } in
    right-set ss s (Some s) right is_id (omega (arith, others)) (λ t is. rw (sym (same_Some s t is)) own)

-- an id taken out
gone : (ss : List (Option Service)) (s : Service) → Right ss → keeps_rule s ≡ true → Right (set ss s.id None)
gone ss s right rule =
    let is_id = rule_id s rule in
    let without = held-set ss s.id None (let all = right.all_ids in omega arith) in
    right-set ss s None right is_id (let few = right.few in omega arith) (λ t none. cc)

pub stays_right : AcceptingStaysRight
stays_right = (
  empty_right,
  λ ss s right.
      cond_both (not (keeps_rule s)) ss _ Right (λ breaks. right) (λ keeps.
      let rule = not-false (keeps_rule s) keeps in
      cond_both (is_deletion s) _ _ Right (λ deletes. gone ss s right rule) (λ lasts.
      cond_both (is_full ss s) ss _ Right (λ full. right) (λ room. taken ss s right rule lasts room))),
)
