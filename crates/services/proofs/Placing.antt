-- The place for a value, and whether there is room for it, by what the two searches for an entry find. Assumes nothing.
use Rattle.std.proofs.Common.{◌≡◌, ◌≢◌, ℕ, ◌+◌, ◌<◌, true, List, length, get_or, set, is_none, Some, None, count_by, Option, cond, refl, ap, ◌∙◌, arith}
use Rattle.std.specs.Option.{IfSome, IsNone, MatchOption}
use Rattle.std.specs.Prelude.{◌↔◌}
use Rattle.std.proofs.lemmas.List.{length-set}
use Rattle.std.proofs.lemmas.List.Sums.{get_or-le-sum_by, sum_by-le}
use Rattle.keyed.specs.Keys.{IsLast, IsAbsent, FindsLast}
use Rattle.service.specs.declared.value.Service.{Service}
use Rattle.service.specs.Rule.{ids}
use Rattle.services.specs.Entries.{capacity, key_in, may_be_held, Sound, IsPlaceFor}
use Rattle.services.specs.Services.{read_in, services_in, held}
use Rattle.services.proofs.Changing.{holds-set, nowhere, some_held, place_known}
use Rattle.services.proofs.Counting.{one_if_held, held-set, counted_sound}
use Rattle.services.proofs.Reading.{read_only, read_none, get_or-services, length-services}

-- a free entry is the place for an id that no entry has
pub place_free : (es : List (Option Service)) (id at : ℕ) → Sound es → at < length es → IsAbsent key_in (Some id) es → IsLast key_in None es at → IsPlaceFor es id at
place_free es id at sound within absent free = record {
  within = within;
  own = λ s here. grind (arith, free.1 None);
  only = λ i s here same. absurd (nowhere es id absent i s here same);
}

-- a value that may be held, put in its place
pub sound_placed : (es : List (Option Service)) (at : ℕ) (s : Service) → Sound es → may_be_held s ≡ true → IsPlaceFor es s.id at → Sound (set es at (Some s))
sound_placed es at s sound may place = record {
  all = length-set es at (Some s) ∙ sound.all;
  distinct = λ i j t u a b same. grind (arith, holds-set es at i (Some s) t a, holds-set es at j (Some s) u b, place.only, sound.distinct);
  lawful = λ i t here. grind (arith, holds-set es at i (Some s) t here, sound.lawful);
}

-- ---- whether there is room

-- the free entries and the other ids held are as many as the entries, less one if the id is held
room : (es : List (Option Service)) (id : ℕ) → Sound es → id < ids → count_by is_none es + held (set (services_in es) id None) + one_if_held (read_in es id) ≡ capacity
room es id sound is_id =
    let all = counted_sound es sound in
    let less = held-set (services_in es) id None (let long = length-services es in omega arith) in
    let here = ap one_if_held (get_or-services es id sound.lawful) in
    omega arith

-- the id held: at most seven others are
room_known : (es : List (Option Service)) (id at : ℕ) → Sound es → id < ids → at < length es → IsLast key_in (Some id) es at → held (set (services_in es) id None) ≢ capacity
room_known es id at sound is_id within last full =
    let entry = some_held (get_or es at None) id (last.1 None) in
    grind (arith, room es id sound is_id, read_only es id at entry.0 (place_known es id at sound within last) entry.1)

-- an entry free: at most seven ids are held
room_free : (es : List (Option Service)) (id at : ℕ) → Sound es → id < ids → at < length es → IsLast key_in None es at → held (set (services_in es) id None) ≢ capacity
room_free es id at sound is_id within free full =
    grind (arith, room es id sound is_id, free.1 None, get_or-le-sum_by (λ e. cond (is_none e) 1 0) es at None within)

-- the id in no entry, and none free: eight others are held
no_room : (es : List (Option Service)) (id : ℕ) → Sound es → id < ids → IsAbsent key_in (Some id) es → IsAbsent key_in None es → held (set (services_in es) id None) ≡ capacity
no_room es id sound is_id absent none_free =
    let none_counts = sum_by-le (λ e. cond (is_none e) 1 0) 0 es (λ k d within. grind (arith, none_free k d within)) in
    grind (arith, room es id sound is_id, read_none es id (nowhere es id absent), none_counts)

-- ---- the place, by what the search for the id finds, and where that is none, the search for a free entry

-- what a search answers
abbrev pub Answers : List (Option Service) → Option ℕ → Option ℕ → Type 0
Answers es key r = IfSome r (λ i. i < length es) × FindsLast key_in key es r

-- so the two searches answer the place, and none exactly where eight other ids are held
pub searched : (es : List (Option Service)) (id : ℕ) (known r : Option ℕ) → Sound es → id < ids → Answers es (Some id) known → (known ≡ None → Answers es None r) → ((i : ℕ) → known ≡ Some i → r ≡ Some i) → MatchOption r (IsAbsent key_in (Some id) es) (IsPlaceFor es id) × (IsNone r ↔ (held (set (services_in es) id None) ≡ capacity))
searched es id (Some i) r sound is_id found free same =
    rw (same i refl) (place_known es id i sound found.0 found.1, (λ none. cc, λ full. absurd (room_known es id i sound is_id found.0 found.1 full)))
searched es id None None sound is_id found free same =
    (found.1, (λ none. no_room es id sound is_id found.1 (free refl).1, λ full. refl))
searched es id None (Some i) sound is_id found free same =
    (place_free es id i sound (free refl).0 found.1 (free refl).1, (λ none. cc, λ full. absurd (room_free es id i sound is_id (free refl).0 (free refl).1 full)))
