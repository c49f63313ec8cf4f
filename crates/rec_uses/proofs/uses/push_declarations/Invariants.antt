use Rattle.std.proofs.Common.{◌≡◌, ◌++◌, take, map}
use Rattle.std.specs.Prelude.{flat_map}
use Rattle.rec_syntax.specs.Parts.{declaration_of}
use Rattle.rec_uses.specs.Inner.Values.{as_uses}
use Rattle.rec_uses.specs.Uses.{declaration_uses}
use Rattle.rec_uses.proofs.uses.push_declarations.Given as goal

abbrev pub invariant-loop-declaration : goal.invariant-loop-declaration
invariant-loop-declaration l = as_uses l.uses.items ≡ as_uses l.initial.uses.items
    ++ flat_map declaration_uses (map (declaration_of l.syntax.source) (take l.declaration-index l.declarations))
