-- What a buffer's front is after one read more. Assumes nothing.
use Rattle.std.proofs.Common.{◌≡◌, ℕ, ◌+◌, ◌≤◌, List, ◌++◌, length, take, ap, ◌∙◌, le_refl, drop_at, length-take-le}
use Rattle.std.proofs.lemmas.Slice.{take-put_mid_below}
use borrow.Rule.Slice.PartMut.{put_mid, post_of}
use lib.Seq.{take-add, take-append-le}

-- a read into the room after `a` bytes gave `n` bytes more
pub front_more : (a room n : ℕ) (old given : List ℕ) → a ≤ length old → n ≤ length given → take (a + n) (put_mid a room old given) ≡ take a old ++ take n given
front_more a room n old given within fits =
    let after = post_of a room old in
    let front = take-put_mid_below a room old given a (le_refl a) within in
    let rest = ap (take n) (drop_at (take a old) (given ++ after) a (length-take-le a old within)) ∙ take-append-le n given after fits in
    take-add a n (put_mid a room old given) ∙ (λ i. front i ++ rest i)
