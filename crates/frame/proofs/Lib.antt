-- The lemmas that several proofs share of `frame`.
pub mod Collects
pub mod Cursors
pub mod Escaping
pub mod Following
pub mod Framing
pub mod Judges
pub mod Pieces
pub mod Writes
