-- The settings, as one table: a row for each, in the order of the places. Assumes nothing.
use Rattle.std.specs.Prelude.{ℕ, ◌-◌, max, Bool, true, not, ◌&&◌, List, [], ◌∷◌, ◌++◌, length, replicate, fold, Option, ◌==◌, nat_le, slice_index, slice_index_or}
use Rattle.keyed.specs.Keys.{last_index}
use Rattle.settings.specs.declared.table.Rule.{Rule}
use Rattle.settings.specs.declared.table.Rule.TheVariants.{Any, AtMost, NotZero}
use Rattle.settings.specs.declared.table.Setting.{Setting}

-- a row of the table: identifier, width in bytes, rule, and the last byte of the factory value
abbrev pub setting : ℕ → ℕ → Rule → ℕ → Setting
setting identifier bytes rule last = record { identifier = identifier; width = bytes; rule = rule; factory = last }

-- the table
abbrev pub settings : List Setting
settings =
    setting 0x01 8 Any 0  -- macAddress
    ∷ setting 0x03 2 Any 0  -- networkId
    ∷ setting 0x04 1 Any 8  -- txPower, a signed byte
    ∷ setting 0x05 11 (AtMost 2) 0  -- powerInfo: source, 1 byte; current, 2; discharge time, 4; recover time, 4
    ∷ setting 0x15 1 (AtMost 1) 0  -- OTAPlockout
    ∷ setting 0x18 1 (AtMost 1) 0  -- autojoin
    ∷ setting 0x1B 1 (AtMost 1) 0  -- euCompliantMode
    ∷ setting 0x13 1 NotZero 127  -- ttl
    ∷ []

-- there is a place for each setting
abbrev pub place_count : ℕ
place_count = length settings

-- the width of the widest setting: a row of this length has room for any value
abbrev pub widest : ℕ
widest = fold (λ most s. max most s.width) 0 settings

-- the setting of a place; beyond the last place one without a byte
abbrev pub setting_at : ℕ → Setting
setting_at place = slice_index_or settings place (setting 0 0 Any 0)

-- how many bytes a value of a place has
abbrev pub width : ℕ → ℕ
width place = (setting_at place).width

-- the place of the setting with an identifier; none where no setting has it
abbrev pub place_of : ℕ → Option ℕ
place_of identifier = last_index (λ s. s.identifier == identifier) settings

-- whether a value keeps a rule, which speaks of its first byte
abbrev pub keeps : Rule → ℕ → Bool
keeps Any first = true
keeps (AtMost most) first = nat_le first most
keeps NotZero first = not (first == 0)

-- whether bytes are a value of a place: as many as its setting has, and within its rule
abbrev pub allowed : ℕ → List ℕ → Bool
allowed place value = length value == width place && keeps (setting_at place).rule (slice_index value 0)

-- the factory value of a place: zeros, and the byte of the table last
abbrev pub factory : ℕ → List ℕ
factory place = replicate (width place - 1) 0 ++ (setting_at place).factory ∷ []
