-- What a table of services means: for each id the service that is held, or none. Assumes nothing.
use Rattle.std.specs.Prelude.{ℕ, List, map, replicate, is_some, Some, None, count_by, Option, nat_eq}
use Rattle.std.specs.List.{range_with_len}
use Rattle.std.specs.Option.{option_eq, option_flatten}
use Rattle.keyed.specs.Keys.{last_of}
use Rattle.services.specs.declared.table.Table.{Table}
use Rattle.service.specs.declared.value.Service.{Service}
use Rattle.services.specs.Entries.{key_in}
use Rattle.service.specs.Rule.{ids}

-- what entries say of an id: the service in the last of them that has it, or none
abbrev pub read_in : List (Option Service) → ℕ → Option Service
read_in es id = option_flatten (last_of (λ e. option_eq nat_eq (key_in e) (Some id)) es)

-- what entries say of each id in turn
unfoldable pub services_in : List (Option Service) → List (Option Service)
services_in es = map (read_in es) (range_with_len 0 ids)

-- what a table says of each id in turn
abbrev pub services : Table → List (Option Service)
services t = services_in t.entries

-- no service is held at any id
unfoldable pub nothing_held : List (Option Service)
nothing_held = replicate ids None

-- the number of ids held
unfoldable pub held : List (Option Service) → ℕ
held ss = count_by is_some ss
