-- Definitions for the proofs of this crate: no public contract cites them.
pub mod Due
pub mod Pages
pub mod Telling
