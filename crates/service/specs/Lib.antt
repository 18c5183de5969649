-- The definitions that the contracts cite of `service`.
pub mod Domains
pub mod Laws
pub mod Layout
pub mod Rule
