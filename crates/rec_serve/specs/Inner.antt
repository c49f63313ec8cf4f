-- Definitions for the proofs of this crate: no public contract cites them.
pub mod Asked
pub mod Banks
pub mod Causes
pub mod Heard
pub mod Reading
pub mod Reasons
pub mod Replying
pub mod Steps
pub mod Values
