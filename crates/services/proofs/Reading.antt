-- What the services of a table say of an id, by the entry that holds it. Assumes nothing.
use Rattle.std.proofs.Common.{◌≡◌, ◌≢◌, ℕ, ◌<◌, ◌≤◌, Bool, true, false, List, length, get_or, Some, None, Option, nat_eq, sym, refl, ap, ◌∙◌, ⊎_elim, arith}
use Rattle.std.specs.Option.{IfSome, option_eq, option_flatten, option_map}
use Rattle.std.proofs.lemmas.Bool.{cases_lt, ne_eqb, eq-eqb}
use Rattle.std.proofs.lemmas.Grind.{common_steps}
use Rattle.std.proofs.lemmas.List.{get_or_default, get_or_past}
use Rattle.std.proofs.lemmas.List.FromFn.{length-map-range_with_len, get_or-map-range_with_len}
use Rattle.keyed.specs.Equality.{numbers, options}
use Rattle.keyed.specs.Keys.{FindsLast}
use Rattle.keyed.proofs.Found.{found_record}
use Rattle.keyed.proofs.Latest.{last_none, last_found}
use Rattle.service.specs.declared.value.Service.{Service}
use Rattle.service.specs.Rule.{ids, keeps_rule}
use Rattle.services.specs.Entries.{key_in, may_be_held, Holds, IsPlaceFor, Lawful}
use Rattle.services.specs.Services.{read_in, services_in}

-- whether an entry has an id
abbrev pub has : ℕ → Option Service → Bool
has id e = option_eq nat_eq (key_in e) (Some id)

-- an entry that does not hold a service with this id
pub lacks : (e : Option Service) (id : ℕ) → ((s : Service) → e ≡ Some s → s.id ≢ id) → has id e ≡ false
lacks None id other = refl
lacks (Some s) id other = ne_eqb s.id id (other s refl)

-- the same at an index, read with any default
lacks_at : (es : List (Option Service)) (id k : ℕ) (d : Option Service) → k < length es → ((s : Service) → Holds es k s → s.id ≢ id) → has id (get_or es k d) ≡ false
lacks_at es id k d within other = rw (get_or_default es k d None within) (lacks (get_or es k None) id other)

-- no entry holds a service with this id
abbrev pub Nowhere : List (Option Service) → ℕ → Type 0
Nowhere es id = (i : ℕ) (s : Service) → Holds es i s → s.id ≢ id

-- a service is held within the entries
pub held_within : (es : List (Option Service)) (i : ℕ) (s : Service) → Holds es i s → i < length es
held_within es i s here = grind (arith, get_or_past es i None)

-- what is read of an id that stands in one entry alone, and of one that stands in none
pub read_only : (es : List (Option Service)) (id at : ℕ) (s : Service) → IsPlaceFor es id at → Holds es at s → read_in es id ≡ Some s
read_only es id at s place here =
    ap option_flatten (last_found (has id) es at None place.within (ap (has id) here ∙ eq-eqb s.id id (place.own s here)) (λ k d low high. lacks_at es id k d high (λ t there same. let at_k = place.only k t there same in omega arith)) ∙ ap Some here)

pub read_none : (es : List (Option Service)) (id : ℕ) → Nowhere es id → read_in es id ≡ None
read_none es id nowhere = ap option_flatten (last_none (has id) es (λ k d low high. lacks_at es id k d high (nowhere k)))

-- a value that keeps the rule has an id
pub rule_id : (s : Service) → keeps_rule s ≡ true → s.id < ids
rule_id s rule = grind (arith, common_steps)

pub held_id : (s : Service) → may_be_held s ≡ true → s.id < ids
held_id s may = grind (arith, common_steps)

pub length-services : (es : List (Option Service)) → length (services_in es) ≡ ids
unfolding services_in
length-services es = length-map-range_with_len (read_in es) 0 ids

-- what the services say of any number, be it an id or not
pub get_or-services : (es : List (Option Service)) (id : ℕ) → Lawful es → get_or (services_in es) id None ≡ read_in es id
unfolding services_in
get_or-services es id lawful =
    ⊎_elim
    (λ (is_id : id < ids). get_or-map-range_with_len (read_in es) 0 ids id id None is_id (omega arith))
    (λ (past : ids ≤ id). get_or_past (services_in es) id None (let long = length-services es in omega arith) ∙ sym (read_none es id (λ i s here same. let is_id = held_id s (lawful i s here) in omega arith)))
    (cases_lt id ids)

-- the services by what the search for an id finds
pub services_found : (es : List (Option Service)) (id : ℕ) (at : Option ℕ) → Lawful es → IfSome at (λ i. i < length es) → FindsLast key_in (Some id) es at → get_or (services_in es) id None ≡ option_flatten (option_map (λ i. get_or es i None) at)
services_found es id at lawful within last =
    get_or-services es id lawful ∙ sym (ap option_flatten (found_record key_in (option_eq nat_eq) (options nat_eq numbers) (Some id) es at None within last))
