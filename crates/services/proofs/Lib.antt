-- The lemmas that several proofs share of `services`.
pub mod Changing
pub mod Counting
pub mod Placing
pub mod Reading
pub mod Rights
