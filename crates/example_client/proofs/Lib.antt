pub mod KeptLemmas
pub mod StepLemmas
pub mod SameLemmas
pub mod NotedLemmas
pub mod ValuedLemmas
pub mod RequestLemmas
pub mod RootLemmas
