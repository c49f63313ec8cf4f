pub mod Laws
pub mod Lines
pub mod Runs
pub mod Spots
pub mod Uses
pub mod Inner
