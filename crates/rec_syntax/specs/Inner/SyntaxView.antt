-- The value of a specification in contracts, and its invariant.
use Rattle.std.specs.Prelude.{◌≤◌, length}
use Rattle.rec_syntax.specs.Syntax.{Sourced}
use Rattle.rec_syntax.specs.Length.{longest}
use Rattle.rec_syntax.specs.Parts.{spec_of, AreSections}
use Rattle.rec_syntax.specs.declared.spec.Syntax.TheInside.{Inside}

-- sourced_of: the text and the syntax tree
abbrev pub sourced_of : Inside → Sourced
sourced_of a = record { source = a.source.items; spec = spec_of a.source.items a.sections }

-- IsSourced: the text is not too long, and each part lies within it
pub record IsSourced (a : Inside) : Type 0 where
  pub short : length a.source.items ≤ longest
  pub sections : AreSections a.source.items a.sections
