-- Definitions for the proofs inside this crate. No public contract cites them.
pub mod Allowances
pub mod Grounds
pub mod Inside
pub mod Rewriters
pub mod Trials
