-- The register's steps are linear, so that its high byte and its low byte may be taken one by one. Assumes nothing.
use Rattle.std.proofs.Common.{◌≡◌, ℕ, ◌-◌, ◌*◌, ◌/◌, ◌%◌, ◌^◌, ◌<◌, cond, eqb, sym, ap, ◌∙◌, arith}
use Rattle.std.specs.Int.Bits.{bit_and, bit_xor, and_comm, and_mask, xor_add_and, xor_shr, xor_mod, xor_assoc, xor_comm, xor_zero_r, xor_shifted}
use Rattle.std.proofs.Math.Nat.{div-eq_of_lt, mod-eq_of_lt}
use Rattle.std.proofs.lemmas.Nat.{mod_below, shr_split}
use Rattle.fcs.specs.Sum.{polynomial, bit_step, eight_steps, step}

-- what one bit feeds back into the register
abbrev fed : ℕ → ℕ
fed bit = cond (eqb bit 1) polynomial 0

fed-xor : (p q : ℕ) → p < 2 → q < 2 → fed (bit_xor p q) ≡ bit_xor (fed p) (fed q)
fed-xor p q hp hq = grind arith

pub xor_swap : (a b c d : ℕ) → bit_xor (bit_xor a b) (bit_xor c d) ≡ bit_xor (bit_xor a c) (bit_xor b d)
xor_swap a b c d = cc (xor_assoc a b (bit_xor c d), xor_assoc b c d, xor_comm b c, xor_assoc c b d, xor_assoc a c (bit_xor b d))

bit_step-xor : (x y : ℕ) → bit_step (bit_xor x y) ≡ bit_xor (bit_step x) (bit_step y)
unfolding bit_step
bit_step-xor x y =
    let half = xor_shr x y 1 in
    let low = ap fed (xor_mod x y 1) ∙ fed-xor (x % 2) (y % 2) (mod_below x 2 (omega arith)) (mod_below y 2 (omega arith)) in
    (λ i. bit_xor (half i) (low i)) ∙ xor_swap (x / 2) (y / 2) (fed (x % 2)) (fed (y % 2))

eight_steps-xor : (x y : ℕ) → eight_steps (bit_xor x y) ≡ bit_xor (eight_steps x) (eight_steps y)
unfolding eight_steps
eight_steps-xor x y = simp bit_step-xor

-- a zero at the low end is shifted out and feeds nothing back
bit_step_even : (x : ℕ) → bit_step (x * 2) ≡ x
unfolding bit_step
bit_step_even x =
    let half : x * 2 / 2 ≡ x = omega arith in
    let low : x * 2 % 2 ≡ 0 = omega arith in
    (λ i. bit_xor (half i) (fed (low i))) ∙ xor_zero_r x

eight_steps_high : (x : ℕ) → eight_steps (x * 2 ^ 8) ≡ x
unfolding eight_steps
eight_steps_high x =
    let spread : x * 2 ^ 8 ≡ x * 2 * 2 * 2 * 2 * 2 * 2 * 2 * 2 = omega arith in
    rw spread (simp bit_step_even)

-- the high bits come down by eight places, and the low byte alone decides what is fed back
pub eight_steps_split : (x : ℕ) → eight_steps x ≡ bit_xor (x / 2 ^ 8) (eight_steps (x % 2 ^ 8))
eight_steps_split x =
    let parts = xor_shifted (x / 2 ^ 8) 8 (x % 2 ^ 8) (mod_below x 256 (omega arith)) ∙ shr_split x 8 in
    ap eight_steps (sym parts) ∙ eight_steps-xor (x / 2 ^ 8 * 2 ^ 8) (x % 2 ^ 8) ∙ ap (λ n. bit_xor n (eight_steps (x % 2 ^ 8))) (eight_steps_high (x / 2 ^ 8))

-- a step through the table is a step bit by bit
pub step_table : (register byte entry : ℕ) → byte < 2 ^ 8 → entry ≡ eight_steps (bit_xor register byte % 2 ^ 8) → bit_xor (register / 2 ^ 8) entry ≡ step register byte
unfolding step
step_table register byte entry small read =
    let high : bit_xor register byte / 2 ^ 8 ≡ register / 2 ^ 8 =
    xor_shr register byte 8 ∙ ap (bit_xor (register / 2 ^ 8)) (div-eq_of_lt small) ∙ xor_zero_r (register / 2 ^ 8) in
    sym (eight_steps_split (bit_xor register byte) ∙ (λ i. bit_xor (high i) (sym read i)))

-- the complement as the machine has it
pub complement : (n : ℕ) → n < 2 ^ 16 → 0xFFFF - n ≡ bit_xor 0xFFFF n
complement n small =
    let mask : bit_and 0xFFFF n ≡ n = and_comm 0xFFFF n ∙ and_mask n 16 ∙ mod-eq_of_lt small in
    let sum = xor_add_and 0xFFFF n in
    omega arith
