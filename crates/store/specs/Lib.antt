-- The definitions that the contracts cite of `store`.
pub mod Places
pub mod Fits
pub mod Slots
pub mod Logs
pub mod Operations
pub mod Laws
