pub mod Table
pub mod Opened
pub mod Errors
pub mod Laws
pub mod Inner
