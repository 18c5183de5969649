-- The lemmas that several proofs share of `pieces`.
pub mod Filling
pub mod Lists
pub mod Worked
