-- The free entries and the ids held are together as many as the entries. Assumes nothing.
use Rattle.std.proofs.Common.{◌≡◌, ℕ, suc, ◌+◌, ◌<◌, false, cond, List, [], ◌∷◌, length, get_or, set, map, is_some, is_none, Some, None, count_by, Option, sym, refl, ap, ◌∙◌, arith}
use Rattle.std.specs.List.{range_with_len}
use Rattle.std.specs.Option.{option_flatten, option_or}
use Rattle.std.proofs.lemmas.List.Sums.{sum_by-cons, sum_by-set, length-filter}
use Rattle.std.proofs.lemmas.Bool.{ne_eqb}
use Rattle.std.proofs.lemmas.List.Filters.{length-filter_both}
use Rattle.keyed.specs.Keys.{last_of}
use Rattle.service.specs.declared.value.Service.{Service}
use Rattle.service.specs.Rule.{ids}
use Rattle.services.specs.Entries.{capacity, Distinct, Lawful, Sound, IsPlaceFor}
use Rattle.services.specs.Services.{read_in, services_in, held}
use Rattle.services.proofs.Changing.{services_but}
use Rattle.services.proofs.Reading.{has, held_id, read_only, read_none, length-services, get_or-services}

-- what an id counts for: one where a service is held
abbrev pub one_if_held : Option Service → ℕ
one_if_held o = cond (is_some o) 1 0

-- the number of ids held, as one of them changes
pub held-set : (ss : List (Option Service)) (id : ℕ) (v : Option Service) → id < length ss → held (set ss id v) + one_if_held (get_or ss id None) ≡ held ss + one_if_held v
unfolding held
held-set ss id v within = sum_by-set one_if_held ss id v None within

-- one of the two that is none makes no difference
or_none : (o : Option (Option Service)) → option_or o None ≡ o
or_none None = refl
or_none (Some e) = refl

-- an entry without the id before the others makes no difference
read_before : (e : Option Service) (es : List (Option Service)) (q : ℕ) → has q e ≡ false → read_in (e ∷ es) q ≡ read_in es q
unfolding last_of
read_before e es q other = rw other (ap option_flatten (or_none (last_of (has q) es)))

free_before : (es : List (Option Service)) → services_in (None ∷ es) ≡ services_in es
unfolding services_in
free_before es = λ i. map (λ q. read_before None es q refl i) (range_with_len 0 ids)

-- an entry more before the others holds one id more, or is free
held_before : (e : Option Service) (es : List (Option Service)) → Distinct (e ∷ es) → Lawful (e ∷ es) → held (services_in (e ∷ es)) ≡ one_if_held e + held (services_in es)
held_before None es distinct lawful = let same = ap held (free_before es) in omega arith
held_before (Some s) es distinct lawful =
    let is_id = held_id s (lawful 0 s refl) in
    let rest : Lawful es = λ i t here. lawful (suc i) t here in
    let place : IsPlaceFor (Some s ∷ es) s.id 0 = record {
      within = omega arith;
      own = λ t here. grind arith;
      only = λ i t here same. distinct i 0 t s here refl same;
    } in
    let now = services_but es (Some s ∷ es) s.id (Some s) rest is_id (read_only (Some s ∷ es) s.id 0 s place refl) (λ q other. read_before (Some s) es q (ne_eqb s.id q (λ same. other (sym same)))) in
    let none = read_none es s.id (λ i t here same. let next = distinct (suc i) 0 t s here refl same in omega arith) in
    let more = held-set (services_in es) s.id (Some s) (let long = length-services es in omega arith) in
    ap held now ∙ grind (arith, more, none, get_or-services es s.id rest)

-- of no entries
none_held : held (services_in []) ≡ 0
unfolding held services_in last_of
none_held = refl

-- as many ids are held as entries hold a service
counted : (es : List (Option Service)) → Distinct es → Lawful es → held (services_in es) ≡ count_by is_some es
counted [] distinct lawful = none_held
counted (e ∷ es) distinct lawful =
    let rest = counted es (λ i j s t a b same. let next = distinct (suc i) (suc j) s t a b same in omega arith) (λ i s here. lawful (suc i) s here) in
    let this = held_before e es distinct lawful in
    let more = sum_by-cons one_if_held e es in
    omega arith

-- and the free ones are the rest
pub counted_sound : (es : List (Option Service)) → Sound es → count_by is_none es + held (services_in es) ≡ capacity
counted_sound es sound =
    let each = counted es sound.distinct sound.lawful in
    let all = length-filter_both is_some is_none (λ e. refl) es in
    let whole = sound.all in
    omega (arith, length-filter is_some es, length-filter is_none es)
