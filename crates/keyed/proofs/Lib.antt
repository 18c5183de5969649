-- The lemmas that several proofs share of `keyed`.
pub mod Latest
pub mod Found
