pub mod UnrootedLemmas
