-- The definitions that the contracts cite of `keyed`.
pub mod Equality
pub mod Keys
