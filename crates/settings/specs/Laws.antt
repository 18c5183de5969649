-- What is promised of the table of settings as a whole. Assumes nothing.
use Rattle.std.specs.Prelude.{◌≡◌, ℕ, ◌<◌, ◌≤◌, true, List, length, take, Some}
use Rattle.settings.specs.Settings.{place_count, setting_at, widest, width, place_of, allowed, factory}
use Rattle.settings.specs.Values.{value_in}

-- no two settings have one identifier
abbrev pub EachPlaceHasItsOwnIdentifier : Type 0
EachPlaceHasItsOwnIdentifier = (place : ℕ) → place < place_count → place_of (setting_at place).identifier ≡ Some place

-- an identifier is answered only with a place whose setting has it
abbrev pub AnIdentifierNamesItsSetting : Type 0
AnIdentifierNamesItsSetting = (identifier place : ℕ) → place_of identifier ≡ Some place → (place < place_count) × ((setting_at place).identifier ≡ identifier)

-- a mote could be sent its own factory values
abbrev pub FactoryValuesAreAllowed : Type 0
FactoryValuesAreAllowed = (place : ℕ) → place < place_count → allowed place (factory place) ≡ true

-- a value has at least one byte, and no more than a row has room for
abbrev pub ValuesFitARow : Type 0
ValuesFitARow = (place : ℕ) → place < place_count → (1 ≤ width place) × (width place ≤ widest)

-- in a row that has room for it, the value of a place is the row's first bytes
abbrev pub AValueIsTheFrontOfItsRow : Type 0
AValueIsTheFrontOfItsRow = (place : ℕ) (row : List ℕ) → width place ≤ length row → value_in place row ≡ take (width place) row

-- the laws of the table
pub record SettingsLaws : Type 0 where
  pub own : EachPlaceHasItsOwnIdentifier
  pub names : AnIdentifierNamesItsSetting
  pub allows : FactoryValuesAreAllowed
  pub fits : ValuesFitARow
  pub front : AValueIsTheFrontOfItsRow
