-- Escaping, byte by byte and part by part, and back. Assumes nothing.
use Rattle.std.proofs.Common.{◌≡◌, ℕ, ◌+◌, ◌*◌, ◌<◌, sum_by, ◌≤◌, false, cond, eqb, List, [], ◌∷◌, ◌++◌, length, get_or, take, Some, None, refl, ap, ◌∙◌, arith}
use Rattle.std.proofs.lemmas.List.Elements.{All-append, All-nil}
use Rattle.std.proofs.lemmas.Grind.{common_steps}
use Rattle.std.proofs.lemmas.List.Sums.{sum_by-le}
use Rattle.std.proofs.lemmas.Bool.Decides.{nat_tests}
use Rattle.frame.specs.Escapes.{flag, escape_byte, escaped_byte, escaped, stands_for, before, unescaped}
use Rattle.frame.specs.Laws.{FlagFree, UnescapingUndoesEscaping, EscapedHoldsNoFlag}

pub escaped_more : (bytes : List ℕ) (i : ℕ) → i < length bytes → escaped (take (i + 1) bytes) ≡ escaped (take i bytes) ++ escaped_byte (get_or bytes i 0)
escaped_more bytes i within = grind (arith, common_steps)

byte_at_most_two : (b : ℕ) → length (escaped_byte b) ≤ 2
byte_at_most_two b = grind (arith, nat_tests)

-- so the length of a slice on the line fits into a machine's word
pub at_most_two : (bytes : List ℕ) → sum_by (λ x. length (escaped_byte x)) bytes ≤ length bytes * 2
at_most_two bytes = sum_by-le (λ x. length (escaped_byte x)) 2 bytes (λ k d h. byte_at_most_two (get_or bytes k d))

-- a byte that begins no escape stands for itself
plain_first : (b : ℕ) (raw : List ℕ) → eqb b escape_byte ≡ false → unescaped (b ∷ raw) ≡ before (Some b) (unescaped raw)
unfolding unescaped
plain_first b [] e = ap (λ t. cond t None (Some (b ∷ []))) e
plain_first b (r ∷ raw) e = ap (λ t. cond t (before (stands_for r) (unescaped raw)) (before (Some b) (unescaped (r ∷ raw)))) e

pair_first : (e v : ℕ) (raw : List ℕ) → stands_for e ≡ Some v → unescaped (escape_byte ∷ e ∷ raw) ≡ before (Some v) (unescaped raw)
unfolding unescaped
pair_first e v raw h = ap (λ s. before s (unescaped raw)) h

byte_back : (b : ℕ) (raw : List ℕ) → unescaped (escaped_byte b ++ raw) ≡ before (Some b) (unescaped raw)
byte_back b raw = grind (arith, nat_tests, pair_first 0x5E flag raw refl, pair_first 0x5D escape_byte raw refl, plain_first b raw)

pub undone : UnescapingUndoesEscaping
unfolding unescaped
undone [] = refl
undone (b ∷ content) = byte_back b (escaped content) ∙ ap (before (Some b)) (undone content)

byte_free : (b : ℕ) → FlagFree (escaped_byte b)
byte_free b = grind (arith, nat_tests)

pub flag_free : EscapedHoldsNoFlag
flag_free [] = All-nil (λ x. x ≡ flag → ⊥)
flag_free (b ∷ content) = All-append (λ x. x ≡ flag → ⊥) (escaped_byte b) (escaped content) (byte_free b) (flag_free content)
