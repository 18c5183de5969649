-- One call on a cursor after another. Assumes nothing.
use Rattle.std.proofs.Common.{ℕ, ◌+◌, ◌<◌, ◌≤◌, List, [], ◌++◌, length, get_or, take, sym, refl, ap, ◌∙◌, subst, add-zero, arith, length-append}
use Rattle.std.proofs.lemmas.List.Folds.{length-flat_map-take}
use Rattle.frame.specs.declared.cursor.Cursor.{Cursor}
use Rattle.frame.specs.Cursors.{Puts}
use Rattle.frame.specs.Escapes.{escaped_byte, escaped}
use Rattle.frame.specs.Written.{written}
use Rattle.frame.proofs.Escaping.{escaped_more}
use Rattle.frame.proofs.Writes.{written_nothing, written_more, length-written}

pub puts_nothing : (c : Cursor) → Puts c c []
puts_nothing c = record { buffer = sym (written_nothing c.out.now c.at); place = sym (add-zero c.at); lent = refl }

-- what is put after other bytes is put with them
pub puts_more : {a b c : Cursor} {xs ys : List ℕ} → Puts a b xs → Puts b c ys → a.at ≤ length a.out.now → Puts a c (xs ++ ys)
puts_more {a} {b} {c} {xs} {ys} p q within = record {
  buffer = q.buffer ∙ (λ i. written (p.buffer i) (p.place i) ys) ∙ written_more a.out.now a.at xs ys within;
  place = simp length-append (omega (arith, p.place, q.place));
  lent = q.lent ∙ p.lent;
}

-- bytes that fit after others still do when those are put
pub room_after : {a b : Cursor} {xs : List ℕ} (n : ℕ) → Puts a b xs → a.at + (length xs + n) ≤ length a.out.now → b.at + n ≤ length b.out.now
room_after {a} {b} {xs} n p room = omega (arith, p.place, ap length p.buffer, length-written a.out.now a.at xs (omega arith))

module _ {a b : Cursor} (bytes : List ℕ) (i : ℕ) (within : i < length bytes) (front : Puts a b (escaped (take i bytes))) where
  -- one byte more of a row, escaped, and the room that it finds
  pub puts_byte : {c : Cursor} → Puts b c (escaped_byte (get_or bytes i 0)) → a.at ≤ length a.out.now → Puts a c (escaped (take (i + 1) bytes))
  puts_byte {c} next fits = subst (Puts a c) (sym (escaped_more bytes i within)) (puts_more front next fits)

  pub room_for_byte : a.at + length (escaped bytes) ≤ length a.out.now → b.at + length (escaped_byte (get_or bytes i 0)) ≤ length b.out.now
  room_for_byte room = room_after (length (escaped_byte (get_or bytes i 0))) front (omega (arith, length-flat_map-take escaped_byte bytes i 0 within))
