-- Definitions that only proofs and contracts inside this crate use.
pub mod Answered
pub mod Building
pub mod Compiled
pub mod Copied
pub mod Drafted
pub mod Given
pub mod Heap
pub mod Made
pub mod Pace
pub mod Shared
pub mod Started
pub mod Turned
pub mod Visits
pub mod Written
