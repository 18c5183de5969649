-- What is promised of a service and its bytes, beside what each call does. Assumes nothing.
use Rattle.std.specs.Prelude.{◌≡◌, ℕ, ◌^◌, ◌<◌, List, length, All}
use Rattle.service.specs.declared.value.Service.{Service}
use Rattle.service.specs.Layout.{byte_count, bytes_of, service_of}

-- each field is within its bytes
pub record Fits (s : Service) : Type 0 where
  pub id_fits : s.id < 2 ^ 8
  pub flags_fit : s.flags < 2 ^ 8
  pub domain_fits : s.domain < 2 ^ 8
  pub destination_fits : s.destination < 2 ^ 16
  pub time_fits : s.time < 2 ^ 32

-- a service that was written is read back as it was
abbrev pub ReadingUndoesWriting : Type 0
ReadingUndoesWriting = (s : Service) → Fits s → service_of (bytes_of s) ≡ s

-- nine bytes that were read are written back as they were
abbrev pub WritingUndoesReading : Type 0
WritingUndoesReading = (bytes : List ℕ) → length bytes ≡ byte_count → All (λ b. b < 2 ^ 8) bytes → bytes_of (service_of bytes) ≡ bytes
