-- The definitions that the contracts cite of `recording`.
pub mod Laws
pub mod Listing
pub mod Pieces
pub mod Statuses
