-- The definitions that the contracts cite of `frame`.
pub mod Collected
pub mod Contents
pub mod Cursors
pub mod Escapes
pub mod First
pub mod Frames
pub mod Laws
pub mod Lines
pub mod Verdicts
pub mod Written
