pub mod OneDueLemmas
pub mod LineEndLemmas
pub mod SpecLineLemmas
pub mod WholeRunLemmas
pub mod RunEndLemmas
pub mod GivenDueLemmas
pub mod GivenLemmas
pub mod GivenListLemmas
pub mod ChoiceLemmas
pub mod EvaluatedLemmas
mod DueOfTextLemmas
mod OutputRows
mod RefusalRows
pub mod FaultLemmas
pub mod DepthLemmas
mod TermRows
mod DueRows
mod GivenRows
mod ChoiceRows
pub mod ReadsLemmas
mod PlacedLemmas
mod RefusedItemLemmas
pub mod ReportLemmas
pub mod ToldLemmas
pub mod LimitLineLemmas
pub mod PrintedLemmas
