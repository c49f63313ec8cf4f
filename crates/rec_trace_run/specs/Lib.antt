pub mod Picks
pub mod Traces
pub mod Inner
