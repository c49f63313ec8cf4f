pub mod JoinLemmas
pub mod TermLemmas
