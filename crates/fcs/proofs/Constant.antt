-- Bytes with their own check bytes leave one constant, whatever the bytes. Assumes nothing.
use Rattle.std.proofs.Common.{◌≡◌, ℕ, ◌/◌, ◌%◌, ◌^◌, [], ◌∷◌, ◌++◌, sym, refl, ap, ◌∙◌, append_assoc, arith}
use Rattle.std.specs.Int.Bits.{bit_xor, xor_shr, xor_mod, xor_assoc, xor_comm, xor_self, xor_zero_l, xor_zero_r}
use Rattle.std.proofs.Math.Nat.{div-eq_of_lt, mod-mod}
use Rattle.std.proofs.lemmas.Nat.{mod_below}
use Rattle.std.proofs.lemmas.List.Sums.{fold_push}
use Rattle.fcs.specs.Laws.{NineDigits, OwnCheckLeavesConstant}
use Rattle.fcs.specs.Sum.{bit_step, eight_steps, step, register_of, fcs}
use Rattle.fcs.proofs.Linear.{eight_steps_split, xor_swap}

pub nine_digits : NineDigits
unfolding bit_step eight_steps step register_of fcs
nine_digits = refl

-- what was put in comes out again
xor_back : (a b : ℕ) → bit_xor a (bit_xor b a) ≡ b
xor_back a b = cc (xor_comm b a, xor_assoc a a b, xor_self a, xor_zero_l b)

constant : eight_steps (bit_xor (eight_steps 0xFF) 0xFF) ≡ 0xF0B8
unfolding bit_step eight_steps
constant = refl

-- the low check byte sets the register's low byte, whatever it was, to ones
after_low : (r : ℕ) → step r (bit_xor 0xFFFF r % 2 ^ 8) ≡ bit_xor (r / 2 ^ 8) (eight_steps 0xFF)
unfolding step
after_low r =
    let check = bit_xor 0xFFFF r % 2 ^ 8 in
    let small = mod_below (bit_xor 0xFFFF r) 256 (omega arith) in
    let high : bit_xor r check / 2 ^ 8 ≡ r / 2 ^ 8 =
    xor_shr r check 8 ∙ ap (bit_xor (r / 2 ^ 8)) (div-eq_of_lt small) ∙ xor_zero_r (r / 2 ^ 8) in
    let inside : check % 2 ^ 8 ≡ bit_xor 0xFF (r % 2 ^ 8) = mod-mod (bit_xor 0xFFFF r) 256 ∙ xor_mod 0xFFFF r 8 in
    let low : bit_xor r check % 2 ^ 8 ≡ 0xFF = xor_mod r check 8 ∙ ap (bit_xor (r % 2 ^ 8)) inside ∙ xor_back (r % 2 ^ 8) 0xFF in
    eight_steps_split (bit_xor r check) ∙ (λ i. bit_xor (high i) (eight_steps (low i)))

-- the high check byte then meets the register's own high byte, and both cancel
after_high : (r : ℕ) → step (bit_xor (r / 2 ^ 8) (eight_steps 0xFF)) (bit_xor 0xFFFF r / 2 ^ 8) ≡ 0xF0B8
unfolding step
after_high r =
    let a = r / 2 ^ 8 in
    let e = eight_steps 0xFF in
    let check : bit_xor 0xFFFF r / 2 ^ 8 ≡ bit_xor a 0xFF = xor_shr 0xFFFF r 8 ∙ xor_comm 0xFF a in
    ap (λ n. eight_steps (bit_xor (bit_xor a e) n)) check
    ∙ ap eight_steps (xor_swap a e a 0xFF ∙ ap (λ n. bit_xor n (bit_xor e 0xFF)) (xor_self a))
    ∙ constant

pub own_check : OwnCheckLeavesConstant
unfolding register_of fcs
own_check bytes =
    let r = register_of bytes in
    let low = fcs bytes % 2 ^ 8 in
    let high = fcs bytes / 2 ^ 8 in
    ap register_of (sym (append_assoc bytes (low ∷ []) (high ∷ [])))
    ∙ fold_push step 0xFFFF (bytes ++ low ∷ []) high
    ∙ ap (λ n. step n high) (fold_push step 0xFFFF bytes low ∙ after_low r)
    ∙ after_high r
