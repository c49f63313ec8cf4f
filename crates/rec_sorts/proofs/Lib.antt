mod SpecRows
mod NextRows
mod StepRows
mod LetterRows
pub mod SteadyLemmas
pub mod EquationLemmas
pub mod RuleLemmas
pub mod DerivationLemmas
pub mod MachineLemmas
pub mod RewritingLemmas
pub mod KeptLemmas
pub mod BindingLemmas
pub mod BuiltLemmas
pub mod LeastPlaceLemmas
pub mod TableLemmas
pub mod SubtermLemmas
pub mod StackLemmas
pub mod MeaningLemmas
pub mod TurnLemmas
pub mod AdditionLemmas
pub mod KeptNameLemmas
pub mod AgreementLemmas
pub mod BoundLemmas
pub mod ConclusionLemmas
pub mod RulePartLemmas
pub mod LetteringLemmas
pub mod DeclaringLemmas
pub mod NamesThereLemmas
pub mod ExaminingLemmas
pub mod WalkedLemmas
pub mod VisitLemmas
pub mod GivenRuleLemmas
pub mod FirstBrokenLemmas
pub mod GivenLetterLemmas
pub mod DifferingLemmas
pub mod LinkLemmas
