-- Definitions for the proofs inside this crate. No public contract cites them.
pub mod Cursors
pub mod Heads
pub mod Tables
pub mod Values
