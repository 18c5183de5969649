-- The rule of a service value. Assumes nothing.
use Rattle.std.specs.Prelude.{ℕ, Bool, true, false, ◌==◌, nat_le, if◌then◌else◌}
use Rattle.std.specs.Option.{option_map_or}
use Rattle.service.specs.Domains.{domain_of, flags_fit}
use Rattle.service.specs.declared.value.Service.{Service}

-- an id is below this number
abbrev pub ids : ℕ
ids = 128

-- a time of 0 asks for deletion
abbrev pub is_deletion : Service → Bool
is_deletion s = s.time == 0

-- the id is one that there is; a deletion asks no more, and any other value has a domain that there is and flags that fit it
abbrev pub keeps_rule : Service → Bool
keeps_rule s =
    if nat_le ids s.id then false
    else if is_deletion s then true
    else option_map_or (λ domain. flags_fit domain s.flags) (domain_of s.domain) false
