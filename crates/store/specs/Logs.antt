-- A log of records, and what the log store means by it. Assumes nothing.
use Rattle.std.specs.Prelude.{◌≡◌, ℕ, ◌==◌, if◌then◌else◌, List, [], ◌∷◌, ◌++◌, length, take, Option, nat_lt}
use Rattle.std.specs.List.{range_with_len, filter_map}
use Rattle.std.specs.Option.{option_map}
use Rattle.keyed.specs.Keys.{last_of}
use Rattle.store.specs.declared.log.LogStore.{LogStore}
use Rattle.store.specs.declared.records.Record.{Record}
use Rattle.store.specs.Places.{Values, places_by}
use Rattle.settings.specs.Settings.{place_count}
use Rattle.settings.specs.Values.{laid}

-- a row has room for this many records
abbrev pub capacity : ℕ
capacity = 16

-- a place, by its number, and the row in which its value stands
abbrev pub record_of : ℕ → List ℕ → Record
record_of place row = record { place = place; value = row }

-- the last record of a place, or none
abbrev pub latest_of : List Record → ℕ → Option Record
latest_of records place = last_of (λ r. r.place == place) records

-- the last record of each of the first places, in their order
unfoldable pub latest_of_first : ℕ → List Record → List Record
latest_of_first n records = filter_map (latest_of records) (range_with_len 0 n)

-- the last record of each place, in the order of the places
abbrev pub latest_each : List Record → List Record
latest_each records = latest_of_first place_count records

-- the records, with room for one more: a full log gives up all but each place's last record
abbrev pub with_room : List Record → List Record
with_room records = if nat_lt (length records) capacity then records else latest_each records

-- one record more, after room was made for it
abbrev pub appended : List Record → Record → List Record
appended records r = with_room records ++ r ∷ []

-- the row in which a place's value stands: that of its last record
abbrev pub row_of : List Record → ℕ → Option (List ℕ)
row_of records place = option_map (λ (r : Record). r.value) (latest_of records place)

-- the records in use
abbrev pub records_of : LogStore → List Record
records_of s = take s.count s.row.now

-- each place by its last record
abbrev pub log_places : LogStore → Values
log_places s = places_by (row_of (records_of s))

-- the log has these records now, in the row that it was lent: they stand at the row's start, and what lies past them is as it was
pub record ChangesTo (old new : LogStore) (these : List Record) : Type 0 where
  pub records : records_of new ≡ these
  pub row : new.row.now ≡ laid these old.row.now
  pub lent : new.row.ghost_name ≡ old.row.ghost_name
