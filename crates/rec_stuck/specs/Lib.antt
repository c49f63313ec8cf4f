pub mod Stuck
pub mod Inner
