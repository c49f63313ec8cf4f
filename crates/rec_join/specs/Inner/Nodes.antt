-- The values that contracts inside this crate speak of.
use Rattle.std.specs.Prelude.{List, map}
use Rattle.rec_syntax.specs.Nodes.{Node}
use Rattle.rec_syntax.specs.Syntax.{Sourced, Spec}
use Rattle.rec_join.specs.Join.{unplaced}

-- a node without the offset of its name
abbrev pub unplaced_node : Node → Node
unplaced_node n = record { word = unplaced n.word; count = n.count }

-- specs_of syntaxes: their specifications
abbrev pub specs_of : List Sourced → List Spec
specs_of syntaxes = map (λ (s : Sourced). s.spec) syntaxes
