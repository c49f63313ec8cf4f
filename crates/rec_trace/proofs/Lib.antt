pub mod TraceLemmas
pub mod StateLemmas
pub mod LineLemmas
pub mod ListLemmas
pub mod RowLemmas
pub mod SavedLemmas
pub mod SideLemmas
pub mod TopLemmas
pub mod PushLemmas
pub mod RunLemmas
pub mod TurnLemmas
pub mod SpreadLemmas
pub mod ConditionLemmas
pub mod FindLemmas
pub mod BoundLemmas
pub mod FireLemmas
pub mod EventLemmas
pub mod StepLemmas
pub mod BeginLemmas
pub mod WholeLemmas
pub mod SpotLemmas
pub mod RewriteLemmas
mod TraceRows
mod LineRows
