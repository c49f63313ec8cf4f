pub mod PlaceLemmas
pub mod NameLemmas
pub mod RenamingLemmas
