-- What one changed entry does to the services. Assumes nothing.
use Rattle.std.proofs.Common.{◌≡◌, ◌≢◌, ℕ, ◌<◌, List, length, get_or, set, Some, None, Option, sym, refl, ap, ◌∙◌, ◌⊎◌, inl, inr, ⊎_elim, arith}
use Rattle.std.specs.Option.{option_flatten, ForSome}
use Rattle.std.proofs.lemmas.Bool.{cases_eq}
use Rattle.std.proofs.lemmas.Grind.{get_or-set_at}
use Rattle.std.proofs.lemmas.List.{length-set, get_or-set_same, get_or-set_other, set-get_or}
use Rattle.std.proofs.lemmas.List.FromFn.{fill_by_all}
use Rattle.keyed.specs.Keys.{IsLast, IsAbsent}
use Rattle.keyed.proofs.Latest.{last-set_other}
use Rattle.service.specs.declared.value.Service.{Service}
use Rattle.service.specs.Rule.{ids}
use Rattle.services.specs.Entries.{key_in, Holds, Lawful, Sound, IsPlaceFor}
use Rattle.services.specs.Services.{read_in, services_in}
use Rattle.services.proofs.Reading.{has, held_within, read_only, read_none, lacks, Nowhere, length-services, get_or-services}

-- entries that say the same of every id but one
pub services_but : (es fs : List (Option Service)) (id : ℕ) (v : Option Service) → Lawful es → id < ids → read_in fs id ≡ v → ((q : ℕ) → q ≢ id → read_in fs q ≡ read_in es q) → services_in fs ≡ set (services_in es) id v
unfolding services_in
services_but es fs id v lawful is_id here elsewhere =
    let long = length-services es in
    sym (fill_by_all (read_in fs) (set (services_in es) id v) ids None (length-set (services_in es) id v ∙ long) (λ q q_id.
    grind (arith, cases_eq q id, get_or-set_at (services_in es) id q v None, get_or-set_other (services_in es) id q v None, get_or-services es q lawful, elsewhere q, here)))

-- what the entries hold once one is changed
pub holds-set : (es : List (Option Service)) (at i : ℕ) (e : Option Service) (t : Service) → Holds (set es at e) i t → ((i ≡ at) × (e ≡ Some t)) ⊎ ((i ≢ at) × Holds es i t)
holds-set es at i e t here =
    ⊎_elim
    (λ (same : i ≡ at). inl (same, sym (rw same (get_or-set_same es at e None (let inside = held_within (set es at e) i t here in omega (arith, length-set es at e)))) ∙ here))
    (λ (other : i ≢ at). inr (other, sym (get_or-set_other es at i e None other) ∙ here))
    (cases_eq i at)

-- the place of an id stays its place, whether the entry is free or holds the id
place-set : (es : List (Option Service)) (id at : ℕ) (e : Option Service) → IsPlaceFor es id at → ForSome e (λ s. s.id ≡ id) → IsPlaceFor (set es at e) id at
place-set es id at e place own = record {
  within = let inside = place.within in omega (arith, length-set es at e);
  own = λ s here. own s (sym (get_or-set_same es at e None place.within) ∙ here);
  only = λ i s here same. grind (arith, holds-set es at i e s here, place.only);
}

-- what is read of an id once its entry is changed
read_changed : (es : List (Option Service)) (id at : ℕ) (e : Option Service) → IsPlaceFor es id at → ForSome e (λ s. s.id ≡ id) → read_in (set es at e) id ≡ e
read_changed es id at None place own =
    read_none (set es at None) id (λ i t here same. grind (arith, holds-set es at i None t here, place.only))
read_changed es id at (Some s) place own =
    read_only (set es at (Some s)) id at s (place-set es id at (Some s) place own) (get_or-set_same es at (Some s) None place.within)

-- the entry of an id changed, to a service with the id or to a free one
pub changed : (es : List (Option Service)) (id at : ℕ) (e : Option Service) → Sound es → id < ids → IsPlaceFor es id at → ForSome e (λ s. s.id ≡ id) → services_in (set es at e) ≡ set (services_in es) id e
changed es id at e sound is_id place own =
    services_but es (set es at e) id e sound.lawful is_id (read_changed es id at e place own) (λ q other.
    ap option_flatten (last-set_other (has q) es at e None (lacks (get_or es at None) q (λ s here same. other (sym same ∙ place.own s here))) (lacks e q (λ s is same. other (sym same ∙ own s is)))))

-- an entry whose key is an id holds a service with it
pub some_held : (e : Option Service) (id : ℕ) → key_in e ≡ Some id → (s : Service) × (e ≡ Some s) × (s.id ≡ id)
some_held None id key = cc
some_held (Some s) id key = (s, refl, cc)

-- the entry that has an id is its place
pub place_known : (es : List (Option Service)) (id at : ℕ) → Sound es → at < length es → IsLast key_in (Some id) es at → IsPlaceFor es id at
place_known es id at sound within last = record {
  within = within;
  own = λ s here. grind (arith, last.1 None);
  only = λ i s here same. grind (arith, last.1 None, some_held (get_or es at None) id (last.1 None), sound.distinct);
}

-- the entry that has an id, freed
pub freed : (es : List (Option Service)) (id at : ℕ) → Sound es → id < ids → at < length es → IsLast key_in (Some id) es at → services_in (set es at None) ≡ set (services_in es) id None
freed es id at sound is_id within last = changed es id at None sound is_id (place_known es id at sound within last) (λ s is. cc)

-- an id that no entry has
pub nowhere : (es : List (Option Service)) (id : ℕ) → IsAbsent key_in (Some id) es → Nowhere es id
nowhere es id absent i s here same = absent i None (held_within es i s here) (ap key_in here ∙ ap Some same)

-- what does not stand in any entry is not held, so that taking it out changes nothing
pub not_held : (es : List (Option Service)) (id : ℕ) → Lawful es → IsAbsent key_in (Some id) es → services_in es ≡ set (services_in es) id None
not_held es id lawful absent =
    let none : read_in es id ≡ None = read_none es id (nowhere es id absent) in
    sym (ap (λ v. set (services_in es) id v) (sym (get_or-services es id lawful ∙ none)) ∙ set-get_or (services_in es) id None)
