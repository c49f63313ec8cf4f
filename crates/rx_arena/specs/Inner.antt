-- Definitions that only proofs and contracts inside this crate use.
pub mod Block
pub mod Blocks
pub mod Heads
pub mod Held
pub mod Links
pub mod Node
pub mod Numbers
pub mod Ownership
pub mod Pool
pub mod Real
pub mod Tables
