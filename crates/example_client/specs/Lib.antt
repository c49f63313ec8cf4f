pub mod Step
pub mod Evaluated
pub mod Kept
