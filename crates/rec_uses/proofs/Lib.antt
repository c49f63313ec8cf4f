pub mod GrammarLemmas
pub mod HeadLemmas
pub mod LineLemmas
pub mod OrderLemmas
pub mod RunLemmas
pub mod SpotLemmas
pub mod TableLemmas
pub mod UseLemmas
