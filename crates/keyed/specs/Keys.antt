-- Records by their keys: what a search for the last record with a key answers, and which record that is. Assumes nothing.
use Rattle.std.specs.Prelude.{◌≡◌, ◌≢◌, ℕ, suc, ◌+◌, ◌<◌, Bool, List, [], ◌∷◌, length, None, Option, All, MatchOption}
use Rattle.std.specs.Bool.{then_some}
use Rattle.std.specs.List.{HoldsAt, AllWithin}
use Rattle.std.specs.Option.{option_map, option_or}

-- no record has the key
abbrev pub IsAbsent : {R K : Type 0} → (R → K) → K → List R → Type 0
IsAbsent key wanted records = All (λ r. key r ≢ wanted) records

-- there is a record at this index, it has the key, and no later one has it
abbrev pub IsLast : {R K : Type 0} → (R → K) → K → List R → ℕ → Type 0
IsLast key wanted records i =
    (i < length records) × HoldsAt (λ r. key r ≡ wanted) records i × AllWithin (λ r. key r ≢ wanted) records (i + 1) (length records)

-- an index is answered only for the last record with the key, and none only where no record has it
abbrev pub FindsLast : {R K : Type 0} → (R → K) → K → List R → Option ℕ → Type 0
FindsLast key wanted records result = MatchOption result (IsAbsent key wanted records) (IsLast key wanted records)

-- the index of the last record that passes a test, or none
unfoldable pub last_index : {R : Type 0} → (R → Bool) → List R → Option ℕ
last_index passes [] = None
last_index passes (r ∷ records) = option_or (option_map suc (last_index passes records)) (then_some (passes r) 0)

-- the last record that passes a test, or none: what a row of records says about a key
unfoldable pub last_of : {R : Type 0} → (R → Bool) → List R → Option R
last_of passes [] = None
last_of passes (r ∷ records) = option_or (last_of passes records) (then_some (passes r) r)
