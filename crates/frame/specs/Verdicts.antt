-- The verdict on a piece, from its raw bytes. Assumes nothing.
use Rattle.std.specs.Prelude.{ℕ, ◌+◌, ◌-◌, ◌*◌, ◌^◌, Bool, not, List, [], ◌∷◌, length, take, is_some, ◌==◌, nat_lt, slice_index}
use Rattle.std.specs.Option.{unwrap_or}
use Rattle.fcs.specs.Sum.{fcs}
use Rattle.frame.specs.declared.verdict.Verdict.{Verdict}
use Rattle.frame.specs.declared.verdict.Verdict.TheVariants.{Empty, Escape, Long, Short, Check, Good}
use Rattle.frame.specs.Escapes.{unescaped}
use Rattle.frame.specs.First.{first_of, ◌⇒◌}

-- a content is at most this long
abbrev pub longest : ℕ
longest = 125

-- a content is at least this long: command, length, flags and the two check bytes
abbrev pub shortest : ℕ
shortest = 5

-- the content of a piece whose escapes are right
abbrev pub content_of : List ℕ → List ℕ
content_of raw = unwrap_or (unescaped raw) []

-- the check sequence that a content carries in its last two bytes, the low byte first
abbrev pub carried : List ℕ → ℕ
carried content = slice_index content (length content - 2) + slice_index content (length content - 1) * 2 ^ 8

-- the check sequence that a content should carry: that of all its bytes but the last two
abbrev pub due : List ℕ → ℕ
due content = fcs (take (length content - 2) content)

-- the first verdict that fits, by whether there is no byte, whether an escape is bad, whether the content is too long, and the content itself
abbrev pub verdict_by : Bool → Bool → Bool → List ℕ → Verdict
verdict_by none bad over content =
    first_of
    ((none ⇒ Empty)
    ∷ (bad ⇒ Escape)
    ∷ (over ⇒ Long)
    ∷ (nat_lt (length content) shortest ⇒ Short)
    ∷ (not (due content == carried content) ⇒ Check)
    ∷ [])
    Good

-- the verdict on a piece
unfoldable pub verdict_of : List ℕ → Verdict
verdict_of raw = verdict_by (length raw == 0) (not (is_some (unescaped raw))) (nat_lt longest (length (content_of raw))) (content_of raw)
