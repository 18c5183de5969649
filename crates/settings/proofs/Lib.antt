-- The lemmas that several proofs share of `settings`.
pub mod Tabulated
