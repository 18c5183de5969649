-- The definitions that the contracts cite of `services`.
pub mod Accepting
pub mod Entries
pub mod Laws
pub mod Refusing
pub mod Services
