-- The shared graph of a term as a text for Graphviz: a node for each different part, and an edge
-- from it to each of its own parts.
use Rattle.std.specs.Prelude.{ℕ, zero, suc, ◌-◌, ◌==◌, ◌||◌, min, nat_lt, if◌then◌else◌, List, []}
use Rattle.std.specs.Prelude.{◌∷◌, ◌++◌, Option, None, Some, codes, decimal, flat_map, slice_get}
use Rattle.std.specs.Fmt.{signed_decimal}
use Rattle.std.specs.List.{position_or_len}
use Rattle.indexmap.specs.IndexSet.{insert_all}
use Rattle.rx_term.specs.Tree.{Tree, Trees, none, more, Int, Appl, Items, Hole, annotations}
use Rattle.rx_term.specs.Tree.{list_of, tree_eq}
use Rattle.rx_term.specs.Parts.{own_parts, part_count}
use Rattle.rx_text.specs.Canon.{name_text, no_arguments}

-- ---- edges

-- Link: an own part of a tree, and the name of the edge to it
pub record Link : Type 0 where
  pub name : List ℕ
  pub part : Tree

-- link_to name part: the edge with this name
abbrev pub link_to : List ℕ → Tree → Link
link_to name part = record { name = name; part = part }

-- inside_links t: the edges to the arguments, items or inner term of a tree
abbrev pub inside_links : Tree → List Link
inside_links (Int z anns) = []
inside_links (Appl name quoted args anns) = link_to (codes "args") (list_of args) ∷ []
inside_links (Items none anns) = []
inside_links (Items (more t ts) anns) = link_to (codes "head") t
    ∷ link_to (codes "tail") (list_of ts) ∷ []
inside_links (Hole inner anns) = link_to (codes "inner") inner ∷ []

-- annotation_links anns: the edge to the annotations, if there are some
abbrev pub annotation_links : Trees → List Link
annotation_links none = []
annotation_links (more t ts) = link_to (codes "annotations") (list_of (more t ts)) ∷ []

-- links t: all edges of a tree
abbrev pub links : Tree → List Link
links t = inside_links t ++ annotation_links (annotations t)

-- ---- the order of the nodes

-- with_own ts t: the trees, followed by those own parts of `t` that are not among them
abbrev pub with_own : List Tree → Option Tree → List Tree
with_own ts None = ts
with_own ts (Some t) = insert_all tree_eq ts (own_parts t)

-- found t n: the parts that are discovered after visiting `n` of them, breadth-first from `t`
abbrev pub found : Tree → ℕ → List Tree
found t zero = t ∷ []
found t (suc n) = with_own (found t n) (slice_get (found t n) n)

-- order t: all parts in the order of discovery
abbrev pub order : Tree → List Tree
order t = found t (part_count t)

-- number_in ts t: the number of a part
abbrev pub number_in : List Tree → Tree → ℕ
number_in ts t = position_or_len (tree_eq t) ts

-- ---- the text

-- label_byte b: a byte of a label; a quote, a backslash and an ampersand are escaped
abbrev pub label_byte : ℕ → List ℕ
label_byte b = if b == 34 || b == 92 then 92 ∷ b ∷ [] else (
    if b == 38 then codes "&amp;" else b ∷ [])

-- label t: the label of a node
abbrev pub label : Tree → List ℕ
label (Int z anns) = signed_decimal z
label (Appl name quoted args anns) =
    flat_map label_byte (name_text name quoted ++ no_arguments name quoted)
label (Items none anns) = codes "[]"
label (Items (more t ts) anns) = codes "."
label (Hole inner anns) = codes "<>"

-- node_line n t: the line of the node with this number
abbrev pub node_line : ℕ → Tree → List ℕ
node_line n t = codes "  n" ++ decimal n ++ codes " [label=\"" ++ label t ++ codes "\"];\n"

-- edge_line n m name: the line of the edge between the nodes with these numbers
abbrev pub edge_line : ℕ → ℕ → List ℕ → List ℕ
edge_line n m name = codes "  n" ++ decimal n ++ codes " -> n" ++ decimal m
    ++ codes " [label=\"" ++ name ++ codes "\"];\n"

-- link_line k ts n l: the line of an edge, if its end is one of the first `k` parts
abbrev pub link_line : ℕ → List Tree → ℕ → Link → List ℕ
link_line k ts n l = let m = number_in ts l.part in
    if nat_lt m k then edge_line n m l.name else []

-- link_lines k ts n ls: the lines of some edges from part `n`
abbrev pub link_lines : ℕ → List Tree → ℕ → List Link → List ℕ
link_lines k ts n [] = []
link_lines k ts n (l ∷ ls) = link_line k ts n l ++ link_lines k ts n ls

-- part_lines k ts n t: the lines of a part: its node and the edges from it
abbrev pub part_lines : ℕ → List Tree → ℕ → Option Tree → List ℕ
part_lines k ts n None = []
part_lines k ts n (Some t) = node_line n t ++ link_lines k ts n (links t)

-- first_lines k ts n: the lines of the first `n` parts
abbrev pub first_lines : ℕ → List Tree → ℕ → List ℕ
first_lines k ts zero = []
first_lines k ts (suc n) = first_lines k ts n ++ part_lines k ts n (slice_get ts n)

-- rest_line n: the line with the number of nodes that are left out, if there are some
abbrev pub rest_line : ℕ → List ℕ
rest_line zero = []
rest_line (suc n) = codes "  rest [label=\"" ++ decimal (suc n) ++ codes " more\", style=dashed];\n"

-- graph_text k t: the graph with its first `k` nodes
abbrev pub graph_text : ℕ → Tree → List ℕ
graph_text k t = codes "digraph term {\n  node [shape=box, fontname=\"monospace\"];\n"
    ++ first_lines k (order t) (min k (part_count t)) ++ rest_line (part_count t - k)
    ++ codes "}\n"
