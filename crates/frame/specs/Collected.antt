-- What a collector keeps of the bytes since a flag, and what follows from that alone. Assumes nothing.
use Rattle.std.specs.Prelude.{◌≡◌, ℕ, Bool, true, false, List, [], ◌∷◌, ◌++◌, length, Some, None, fold, Option, ◌==◌, nat_lt, if◌then◌else◌}
use Rattle.frame.specs.declared.collector.Collector.{Collector}
use Rattle.frame.specs.declared.collector.Escapes.{Escapes}
use Rattle.frame.specs.declared.collector.Escapes.TheVariants.{Whole, Half, Bad}
use Rattle.frame.specs.declared.verdict.Verdict.{Verdict}
use Rattle.frame.specs.declared.verdict.Verdict.TheVariants.{Escape}
use Rattle.frame.specs.Contents.{bytes_of}
use Rattle.frame.specs.Escapes.{escape_byte, stands_for}
use Rattle.frame.specs.Verdicts.{longest, verdict_by}

-- the content so far, at most its first 125 bytes; whether there was more; how the escapes stand
pub record Kept : Type 0 where
  pub content : List ℕ
  pub over : Bool
  pub escapes : Escapes

-- these three together
abbrev pub kept : List ℕ → Bool → Escapes → Kept
kept content over escapes = record { content = content; over = over; escapes = escapes }

-- what a collector keeps
abbrev pub kept_by : Collector → Kept
kept_by c = kept (bytes_of c.content) c.over c.escapes

-- nothing came yet
abbrev pub nothing : Kept
nothing = kept [] false Whole

-- one byte more of the content: it is kept, or where 125 are kept already it is only noted
abbrev pub added : Kept → ℕ → Kept
added k b = if nat_lt (length k.content) longest then kept (k.content ++ b ∷ []) k.over Whole else kept k.content true Whole

-- the byte that an escape stands for is added; a bad escape is noted
abbrev pub resolved : Kept → Option ℕ → Kept
resolved k None = kept k.content k.over Bad
resolved k (Some b) = added k b

-- one byte more from the line, by how the escapes stand
abbrev pub after : Escapes → Kept → ℕ → Kept
after Whole k b = if b == escape_byte then kept k.content k.over Half else added k b
after Half k b = resolved k (stands_for b)
after Bad k b = k

-- one byte more from the line
abbrev pub collect : Kept → ℕ → Kept
collect k b = after k.escapes k b

-- what is kept after the bytes of a piece
unfoldable pub kept_of : List ℕ → Kept
kept_of raw = fold collect nothing raw

-- every escape so far is right, and none is half read
abbrev pub is_whole : Escapes → Bool
is_whole Whole = true
is_whole Half = false
is_whole Bad = false

-- the verdict, from what is kept: no byte came where the escapes are right and there is no content
abbrev pub judged : Kept → Verdict
judged k = if is_whole k.escapes then verdict_by (length k.content == 0) false k.over k.content else Escape

-- the collector is one that these bytes since a flag leave
abbrev pub Collected : List ℕ → Collector → Type 0
Collected raw c = kept_by c ≡ kept_of raw
