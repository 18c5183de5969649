-- The definitions that the contracts cite of `fcs`.
pub mod Laws
pub mod Sum
