-- The definitions that the contracts cite of `settings`.
pub mod Laws
pub mod Settings
pub mod Values
