-- Definitions that only proofs and contracts inside this crate use.
pub mod Machine
pub mod Reader
pub mod SyntaxView
pub mod TermCode
