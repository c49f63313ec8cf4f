mod ApplicationLemmas
mod VisitLemmas
mod FittingLemmas
mod CallLemmas
mod TextLemmas
mod AddLemmas
