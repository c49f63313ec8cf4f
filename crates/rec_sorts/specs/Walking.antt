-- Walks over the subterms of terms: the order of a walk, and the trees that it finds.
use Rattle.std.specs.Prelude.{◌≡◌, ℕ, Bool, List, [], ◌∷◌, ◌++◌, map, nat_eq}
use Rattle.std.specs.List.{IsDistinct, list_any}
use Rattle.rx_term.specs.Tree.{Tree, Trees, Appl, none, more}
use Rattle.rx_term.specs.declared.Term.{Term}

abbrev mutual
  -- backwards t: the term before its arguments, which come from right to left
  pub backwards : Tree → List Tree
  backwards (Appl name quoted args anns) = Appl name quoted args anns ∷ backwards_all args
  backwards t = t ∷ []

  pub backwards_all : Trees → List Tree
  backwards_all none = []
  backwards_all (more t ts) = backwards_all ts ++ backwards t

-- unstacked ts: the subterms of the terms on a stack, whose last one is on top
abbrev pub unstacked : List Tree → List Tree
unstacked [] = []
unstacked (t ∷ ts) = unstacked ts ++ backwards t

-- SameTrees ts us: the two lists have the same trees: a test passes at one of `ts` exactly if it
-- passes at one of `us`
abbrev pub SameTrees : List Tree → List Tree → Type 0
SameTrees ts us = (p : Tree → Bool) → list_any p ts ≡ list_any p us

-- numbers rs: the numbers of references
abbrev pub numbers : List Term → List ℕ
numbers rs = map (λ r. r.0) rs

-- AreDifferent rs: no reference occurs twice
abbrev pub AreDifferent : List Term → Type 0
AreDifferent rs = IsDistinct nat_eq (numbers rs)
