-- The domains that a service may belong to, and their numbers. Assumes nothing.
use Rattle.std.specs.Prelude.{◌≡◌, ℕ, Bool, Some, None, Option, Result, MatchResult, ◌==◌, nat_le, if◌then◌else◌}
use Rattle.service.specs.declared.domain.Domain.{Domain}
use Rattle.service.specs.declared.domain.Domain.TheVariants.{Publish, Event, BlockTransfer}
use Rattle.service.specs.declared.domain.UnknownDomain.{UnknownDomain}

-- the domain that has this number, or none
abbrev pub domain_of : ℕ → Option Domain
domain_of number =
    if number == 0 then Some Publish
    else if number == 1 then Some Event
    else if number == 3 then Some BlockTransfer
    else None

-- the result is the domain with this number, or where there is none an error with the number
abbrev pub Reads : ℕ → Result Domain UnknownDomain → Type 0
Reads number result =
    MatchResult result (λ domain. domain_of number ≡ Some domain) (λ unknown. (domain_of number ≡ None) × (unknown.0 ≡ number))

-- whether the flags fit the domain: a publishing service is a source (1), one for events an intermittent source (5), and a block transfer has flags 0 to 3
abbrev pub flags_fit : Domain → ℕ → Bool
flags_fit Publish flags = flags == 1
flags_fit Event flags = flags == 5
flags_fit BlockTransfer flags = nat_le flags 3
