-- The lemmas that several proofs share of `recording`.
pub mod Covers
pub mod Fields
pub mod Runs
