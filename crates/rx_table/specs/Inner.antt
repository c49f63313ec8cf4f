-- Definitions that only proofs and contracts inside this crate use.
pub mod Pages
pub mod Walk
pub mod Shared
pub mod Made
pub mod Reading
pub mod Faults
pub mod Elements
