-- The definitions that the contracts cite of `pieces`.
pub mod Cases
pub mod Listing
