-- The lemmas that several proofs share of `fcs`.
pub mod Constant
pub mod Linear
pub mod Rule
