-- Definitions that only proofs and contracts inside this crate use.
pub mod Owned
pub mod Known
pub mod Judged
pub mod Engines
