-- Small graphs.
use Rattle.std.proofs.Common.{◌≡◌, true, false, [], refl, pos}
use Rattle.std.specs.Prelude.{◌++◌, codes}
use Rattle.std.specs.Fmt.{digits}
use Rattle.rx_term.specs.Tree.{Tree, none, more, Int, Appl, Hole}
use Rattle.rx_render.specs.Graph.{graph_text, label}

abbrev a : Tree
a = Appl (codes "a") false none none

-- `f(a,a)`
abbrev twice : Tree
twice = Appl (codes "f") false (more a (more a none)) none

whole : graph_text 5 twice ≡ codes "digraph term {\n  node [shape=box, fontname=\"monospace\"];\n  n0 [label=\"f\"];\n"
    ++ codes "  n0 -> n1 [label=\"args\"];\n  n1 [label=\".\"];\n  n1 -> n2 [label=\"head\"];\n"
    ++ codes "  n1 -> n3 [label=\"tail\"];\n  n2 [label=\"a\"];\n  n2 -> n4 [label=\"args\"];\n"
    ++ codes "  n3 [label=\".\"];\n  n3 -> n2 [label=\"head\"];\n  n3 -> n4 [label=\"tail\"];\n"
    ++ codes "  n4 [label=\"[]\"];\n}\n"
unfolding digits
whole = refl

-- two of its five nodes
cut : graph_text 2 twice ≡ codes "digraph term {\n  node [shape=box, fontname=\"monospace\"];\n  n0 [label=\"f\"];\n"
    ++ codes "  n0 -> n1 [label=\"args\"];\n  n1 [label=\".\"];\n  rest [label=\"3 more\", style=dashed];\n}\n"
unfolding digits
cut = refl

-- `<7>{7}`
noted : graph_text 9 (Hole (Int (pos 7) none) (more (Int (pos 7) none) none))
    ≡ codes "digraph term {\n  node [shape=box, fontname=\"monospace\"];\n  n0 [label=\"<>\"];\n"
    ++ codes "  n0 -> n1 [label=\"inner\"];\n  n0 -> n2 [label=\"annotations\"];\n  n1 [label=\"7\"];\n"
    ++ codes "  n2 [label=\".\"];\n  n2 -> n1 [label=\"head\"];\n  n2 -> n3 [label=\"tail\"];\n"
    ++ codes "  n3 [label=\"[]\"];\n}\n"
unfolding digits
noted = refl

-- marks in names
quoted : label (Appl (codes "a\"\\&\n") true none none) ≡ codes "\\\"a\\\\\\\"\\\\\\\\&amp;\\\\n\\\""
quoted = refl

tuple : label (Appl [] false (more a none) none) ≡ codes "()"
tuple = refl
