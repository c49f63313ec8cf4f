-- Definitions that only proofs and contracts inside this crate use.
pub mod Asking
pub mod Built
pub mod Chains
pub mod Growing
pub mod Held
pub mod Marking
pub mod Paths
pub mod Running
pub mod Shares
pub mod Starting
pub mod Tasks
pub mod Walking
