-- Definitions that only proofs and contracts inside this crate use.
pub mod Counting
pub mod Finding
pub mod Hints
pub mod Reading
pub mod Soundness
