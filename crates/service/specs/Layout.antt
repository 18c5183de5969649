-- A service on the line: nine bytes, of every number the most significant byte first. Assumes nothing.
use Rattle.std.specs.Prelude.{ℕ, zero, suc, ◌+◌, ◌*◌, ◌/◌, ◌%◌, List, [], ◌∷◌, ◌++◌, slice_index}
use Rattle.service.specs.declared.value.Service.{Service}

-- a service has so many bytes
abbrev pub byte_count : ℕ
byte_count = 9

-- the bytes of a number, so many of them, the most significant first
abbrev pub big_endian : ℕ → ℕ → List ℕ
big_endian zero n = []
big_endian (suc count) n = big_endian count (n / 256) ++ n % 256 ∷ []

-- the number that so many bytes make from a place on, the most significant first
abbrev pub number_at : List ℕ → ℕ → ℕ → ℕ
number_at bytes place zero = 0
number_at bytes place (suc count) = number_at bytes place count * 256 + slice_index bytes (place + count)

-- the bytes of a service: one each for id, flags and domain, two for the destination, four for the time
abbrev pub bytes_of : Service → List ℕ
bytes_of s = s.id ∷ s.flags ∷ s.domain ∷ (big_endian 2 s.destination ++ big_endian 4 s.time)

-- the service that nine bytes stand for
abbrev pub service_of : List ℕ → Service
service_of bytes =
    record {
      id = slice_index bytes 0;
      flags = slice_index bytes 1;
      domain = slice_index bytes 2;
      destination = number_at bytes 3 2;
      time = number_at bytes 5 4;
    }
