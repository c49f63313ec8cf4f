pub mod Laid
pub mod Law
pub mod Layout
pub mod Graph
pub mod Drawing
pub mod Due
