-- The state of a term store in contracts: the tree of each reference, the signature of each symbol,
-- and the number of protections of each reference.
use Rattle.std.specs.Prelude.{ℕ, ◌==◌, Bool, List, Option, Some, None, if◌then◌else◌}
use Rattle.std.specs.Ordering.{nat_cmp}
use Rattle.std.specs.Option.{option_and_then}
use Rattle.std.specs.FinMap as map
use Rattle.rx_term.specs.Name.{Signature}
use Rattle.rx_term.specs.Tree.{Tree, Appl, Items, Hole, Trees, none, more, count_of, annotated}
use Rattle.rx_term.specs.Tree.{annotations, list_of}
use Rattle.rx_term.specs.declared.Term.{Term}
use Rattle.rx_term.specs.declared.Symbol.{Symbol}

-- the state of a store
pub record Store : Type 0 where
  pub content : map.FinMap nat_cmp Tree
  pub symbols : map.FinMap nat_cmp Signature
  pub roots : ℕ → ℕ
  pub cap : ℕ
  pub spare : ℕ

-- tree_at w t: the tree of a reference
abbrev pub tree_at : Store → Term → Option Tree
tree_at w t = map.get w.content t.0

-- signature_of w s: the signature of a symbol
abbrev pub signature_of : Store → Symbol → Option Signature
signature_of w s = map.get w.symbols s.0

-- cells w: the number of references
abbrev pub cells : Store → ℕ
cells w = map.len w.content

-- list_unless_empty ts: the list of these trees, if there are any
abbrev pub list_unless_empty : Trees → Option Tree
list_unless_empty none = None
list_unless_empty (more t ts) = Some (list_of (more t ts))

-- head_of t: the first item of a list
abbrev pub head_of : Tree → Option Tree
head_of (Items (more x xs) anns) = Some x
head_of t = None

-- tail_of t: the rest of a list, as a list without annotations
abbrev pub tail_of : Tree → Option Tree
tail_of (Items (more x xs) anns) = Some (list_of xs)
tail_of t = None

-- args_of t: the arguments of an application, as a list
abbrev pub args_of : Tree → Option Tree
args_of (Appl name quoted args anns) = Some (list_of args)
args_of t = None

-- inner_of t: the tree inside a placeholder
abbrev pub inner_of : Tree → Option Tree
inner_of (Hole inner anns) = Some inner
inner_of t = None

-- anns_of t: the tree's own annotations, as a list, if there are any
abbrev pub anns_of : Tree → Option Tree
anns_of t = list_unless_empty (annotations t)

-- part_at of w t: one of these five parts of the tree of a reference
abbrev pub part_at : (Tree → Option Tree) → Store → Term → Option Tree
part_at of w t = option_and_then of (tree_at w t)

-- longer x xs: the list with one more item in front, if `xs` is a list without annotations
abbrev pub longer : Option Tree → Option Tree → Option Tree
longer (Some x) (Some (Items xs none)) = Some (list_of (more x xs))
longer x xs = None

-- applied s args: the application of a symbol to a list without annotations that has as many items
-- as the symbol takes
abbrev pub applied : Option Signature → Option Tree → Option Tree
applied (Some s) (Some (Items args none)) =
    if count_of args == s.arity then Some (Appl s.name s.quoted args none) else None
applied s args = None

-- held_open t: the placeholder of a tree
abbrev pub held_open : Option Tree → Option Tree
held_open (Some t) = Some (Hole t none)
held_open None = None

-- noted t anns: the tree with the items of a list without annotations in place of its annotations
abbrev pub noted : Option Tree → Option Tree → Option Tree
noted (Some t) (Some (Items anns none)) = Some (annotated t anns)
noted t anns = None

-- name_at w s: the name of a symbol
abbrev pub name_at : Store → Symbol → Option (List ℕ)
name_at w s = option_and_then (λ g. Some g.name) (signature_of w s)

-- quoted_at w s: whether the name of a symbol is quoted
abbrev pub quoted_at : Store → Symbol → Option Bool
quoted_at w s = option_and_then (λ g. Some g.quoted) (signature_of w s)

-- arity_at w s: the number of arguments of a symbol
abbrev pub arity_at : Store → Symbol → Option ℕ
arity_at w s = option_and_then (λ g. Some g.arity) (signature_of w s)
