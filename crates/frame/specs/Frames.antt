-- A frame as it goes over the line. Assumes nothing.
use Rattle.std.specs.Prelude.{ℕ, List, [], ◌∷◌, ◌++◌}
use Rattle.fcs.specs.Sum.{check_bytes}
use Rattle.frame.specs.Escapes.{flag, escaped}

-- a message with its check bytes is a content, as a receiver collects it
abbrev pub checked : List ℕ → List ℕ
checked message = message ++ check_bytes message

-- what stands between the two flags
unfoldable pub body_of : List ℕ → List ℕ
body_of message = escaped (checked message)

-- a flag, the message with its check bytes, all escaped, and a flag
unfoldable pub frame_of : List ℕ → List ℕ
frame_of message = flag ∷ (body_of message ++ flag ∷ [])
