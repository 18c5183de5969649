-- The lemmas that several proofs share of `store`.
pub mod Meaning
pub mod Logged
pub mod Changes
pub mod Runs
