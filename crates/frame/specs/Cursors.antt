-- What a call on a cursor asks for, and what it leaves. Assumes nothing.
use Rattle.std.specs.Prelude.{◌≡◌, ℕ, ◌+◌, ◌≤◌, List, length}
use Rattle.frame.specs.declared.cursor.Cursor.{Cursor}
use Rattle.frame.specs.Written.{written}

-- the bytes fit between the cursor's place and the buffer's end
abbrev pub HasRoom : Cursor → List ℕ → Type 0
HasRoom c bytes = c.at + length bytes ≤ length c.out.now

-- the bytes stand at the place, the place is past them, all else in the buffer is as it was, and it is the same buffer
pub record Puts (old new : Cursor) (bytes : List ℕ) : Type 0 where
  pub buffer : new.out.now ≡ written old.out.now old.at bytes
  pub place : new.at ≡ old.at + length bytes
  pub lent : new.out.ghost_name ≡ old.out.ghost_name
