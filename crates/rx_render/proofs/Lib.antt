pub mod CutLemmas
pub mod LaidLemmas
pub mod LayoutLemmas
pub mod FaultLemmas
pub mod OrderLemmas
pub mod GraphLemmas
pub mod DrawingLemmas
pub mod PartLemmas
pub mod RunLemmas
mod LaidRows
mod GraphRows
