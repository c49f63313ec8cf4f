pub mod CountedPartLemmas
pub mod ErrorLemmas
pub mod FaultLemmas
pub mod LineFrontLemmas
mod MatchedLemmas
pub mod NewlineLemmas
pub mod PatternDueLemmas
mod PatternLineLemmas
mod PatternRows
mod PatternTermLemmas
pub mod ReadDueLemmas
mod ReadLemmas
pub mod RefusedItemLemmas
pub mod ReportLemmas
mod TableLineLemmas
pub mod TermDueLemmas
mod TermLineLemmas
mod TermRunRows
pub mod WholeRunLemmas
