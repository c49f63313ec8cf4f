-- Definitions that only proofs and contracts inside this crate use.
pub mod Calls
pub mod Saving
pub mod Sides
pub mod Spreading
pub mod Turns
