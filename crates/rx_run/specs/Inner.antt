-- Definitions that only proofs and contracts inside this crate use.
pub mod PatternAnswers
pub mod TermReadings
