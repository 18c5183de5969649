-- The laws of the table, computed once over all its rows and carried to each place; and the value in a row. Assumes nothing.
use Rattle.std.proofs.Common.{◌≡◌, ℕ, ◌<◌, true, false, ◌&&◌, ◌==◌, leb, map, get_or, take, Some, None, sym, refl, ap, ◌∙◌, arith}
use Rattle.std.specs.List.{range_with_len}
use Rattle.std.proofs.lemmas.List.FromFn.{get_or-map-range_with_len, fill_by_all}
use Rattle.std.proofs.lemmas.List.{get_or-take, length-take-le}
use Rattle.std.proofs.lemmas.Bool.{and_parts, leb-true, eqb-true}
use Rattle.keyed.specs.Keys.{last_index}
use Rattle.keyed.proofs.Latest.{index_passes}
use Rattle.settings.specs.declared.table.Rule.TheVariants.{Any}
use Rattle.settings.specs.declared.table.Setting.{Setting}
use Rattle.settings.specs.Laws.{EachPlaceHasItsOwnIdentifier, AnIdentifierNamesItsSetting, FactoryValuesAreAllowed, ValuesFitARow, AValueIsTheFrontOfItsRow, SettingsLaws}
use Rattle.settings.specs.Settings.{setting, settings, place_count, setting_at, widest, width, place_of, allowed, factory}
use Rattle.settings.specs.Values.{value_in}

-- what is computed for every place holds of each
at_place : {X : Type 0} (f g : ℕ → X) (d : X) → map f (range_with_len 0 place_count) ≡ map g (range_with_len 0 place_count) → (place : ℕ) → place < place_count → f place ≡ g place
at_place f g d all place within =
    sym (get_or-map-range_with_len f 0 place_count place place d within (omega arith))
    ∙ ap (λ l. get_or l place d) all
    ∙ get_or-map-range_with_len g 0 place_count place place d within (omega arith)

own : EachPlaceHasItsOwnIdentifier
unfolding last_index
own = at_place (λ place. place_of (setting_at place).identifier) Some None refl

names : AnIdentifierNamesItsSetting
names identifier place is =
    let found = index_passes (λ (s : Setting). s.identifier == identifier) settings place (setting 0 0 Any 0) is in
    (found.0, eqb-true (setting_at place).identifier identifier found.1)

allows : FactoryValuesAreAllowed
allows = at_place (λ place. allowed place (factory place)) (λ place. true) false refl

pub fits : ValuesFitARow
fits place within =
    let both = and_parts (leb 1 (width place)) (leb (width place) widest) (at_place (λ place. leb 1 (width place) && leb (width place) widest) (λ place. true) false refl place within) in
    (leb-true 1 (width place) both.0, leb-true (width place) widest both.1)

pub value_front : AValueIsTheFrontOfItsRow
unfolding value_in
value_front place row long =
    sym (fill_by_all (λ i. get_or row i 0) (take (width place) row) (width place) 0 (length-take-le (width place) row long) (λ k within. get_or-take (width place) row k 0 within))

pub settings_laws : SettingsLaws
settings_laws = record { own = own; names = names; allows = allows; fits = fits; front = value_front }
