-- The kinds of references, by their trees.
use Rattle.std.specs.Prelude.{◌≡◌, ℕ, Bool, ℤ, List, Option, Some, None, IsSome}
use Rattle.rx_term.specs.Tree.{Tree, Int, Appl, Items, Hole, Trees, none, more, count_of}
use Rattle.rx_term.specs.Store.{Store, tree_at, signature_of, part_at, anns_of}
use Rattle.rx_term.specs.declared.Term.{Term}
use Rattle.rx_term.specs.declared.Symbol.{Symbol}
use Rattle.rx_term.specs.declared.Kind.{Kind}
use Rattle.rx_term.specs.declared.Kind.TheVariants as kind

-- HasInt w t z: the tree of `t` is the integer `z`
pub record HasInt (w : Store) (t : Term) (z : ℤ) : Type 0 where
  pub anns : Trees
  pub here : tree_at w t ≡ Some (Int z anns)

-- HasNil w t: the tree of `t` is the empty list
pub record HasNil (w : Store) (t : Term) : Type 0 where
  pub anns : Trees
  pub here : tree_at w t ≡ Some (Items none anns)

-- HasCons w t: the tree of `t` is a list with a first item
pub record HasCons (w : Store) (t : Term) : Type 0 where
  pub first : Tree
  pub rest : Trees
  pub anns : Trees
  pub here : tree_at w t ≡ Some (Items (more first rest) anns)

-- HasAppl w t s: the tree of `t` applies `s` to as many arguments as `s` takes
pub record HasAppl (w : Store) (t : Term) (s : Symbol) : Type 0 where
  pub name : List ℕ
  pub quoted : Bool
  pub args : Trees
  pub anns : Trees
  pub symbol : signature_of w s
      ≡ Some (record { name = name; quoted = quoted; arity = count_of args })
  pub here : tree_at w t ≡ Some (Appl name quoted args anns)

-- HasHole w t: the tree of `t` is a placeholder
pub record HasHole (w : Store) (t : Term) : Type 0 where
  pub inside : Tree
  pub anns : Trees
  pub here : tree_at w t ≡ Some (Hole inside anns)

-- HasKind w t kind: the tree of `t` has this kind
abbrev pub HasKind : Store → Term → Kind → Type 0
HasKind w t (kind.Int z) = HasInt w t z
HasKind w t kind.Nil = HasNil w t
HasKind w t kind.Cons = HasCons w t
HasKind w t (kind.Appl s) = HasAppl w t s
HasKind w t kind.Hole = HasHole w t

-- HasAnns w t r: `r` is a reference of the annotation list of `t`, or none if it has no annotations
abbrev pub HasAnns : Store → Term → Option Term → Type 0
HasAnns w t None = part_at anns_of w t ≡ None
HasAnns w t (Some a) = IsSome (part_at anns_of w t) × (tree_at w a ≡ part_at anns_of w t)
