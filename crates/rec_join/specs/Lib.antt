pub mod Join
pub mod Inner
