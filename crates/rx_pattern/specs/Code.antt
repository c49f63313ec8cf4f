-- A pattern as a list of steps, which determines it. `code` lists the steps of a tree; `pieces` are
-- the trees and lists that steps spell; `tree_of_steps` is the one tree that they spell.
use Rattle.std.specs.Prelude.{ℕ, Bool, false, ℤ, List, [], ◌∷◌, codes, Option, Some, if◌then◌else◌}
use Rattle.rx_term.specs.Tree.{Tree, Trees, none, more, Int, Appl, Items, Hole}
use Rattle.rx_pattern.specs.Pattern.{PlaceholderKind, AnyTerm, AnyInt, AnyStr, AnyAppl}
use Rattle.rx_pattern.specs.Pattern.{AnyPlaceholder, AnyList, kind_of, is_rest}

-- an integer, a name, a list or a placeholder; or, inside a list, its end, one more item, or the
-- rest of it
pub data Step : Type 0 where
  Number : ℤ → Step
  Named : List ℕ → Bool → Step
  Listing : Step
  Holding : Option PlaceholderKind → Step
  End : Step
  Item : Step
  Rest : Step

abbrev mutual
  -- the node, then the steps of items or arguments, then those of annotations
  pub code : Tree → List Step → List Step
  code (Int z anns) rest = Number z ∷ code_of_all anns rest
  code (Appl name quoted args anns) rest = Named name quoted
      ∷ code_of_all args (code_of_all anns rest)
  code (Items items anns) rest = Listing ∷ code_of_all items (code_of_all anns rest)
  code (Hole inner anns) rest = Holding (kind_of inner) ∷ rest

  -- `Item` before each tree, and an `End`; a last `<list>` is a `Rest`
  pub code_of_all : Trees → List Step → List Step
  code_of_all none rest = End ∷ rest
  code_of_all (more p ps) rest =
      if is_rest p ps then Rest ∷ rest else Item ∷ code p (code_of_all ps rest)

-- a tree, or the trees of a list
pub data Piece : Type 0 where
  One : Tree → Piece
  Several : Trees → Piece

-- word_of kind: the name inside a placeholder
abbrev pub word_of : PlaceholderKind → List ℕ
word_of AnyTerm = codes "term"
word_of AnyInt = codes "int"
word_of AnyStr = codes "str"
word_of AnyAppl = codes "appl"
word_of AnyPlaceholder = codes "placeholder"
word_of AnyList = codes "list"

-- placeholder kind: the placeholder of a kind
abbrev pub placeholder : PlaceholderKind → Tree
placeholder kind = Hole (Appl (word_of kind) false none none) none

-- assembled s ps: the pieces after step `s` has used those that it needs
abbrev pub assembled : Step → List Piece → List Piece
assembled (Number z) (Several anns ∷ ps) = One (Int z anns) ∷ ps
assembled (Named name quoted) (Several args ∷ Several anns ∷ ps) = One (Appl name quoted args anns)
    ∷ ps
assembled Listing (Several items ∷ Several anns ∷ ps) = One (Items items anns) ∷ ps
assembled (Holding (Some kind)) ps = One (placeholder kind) ∷ ps
assembled End ps = Several none ∷ ps
assembled Item (One t ∷ Several ts ∷ ps) = Several (more t ts) ∷ ps
assembled Rest ps = Several (more (placeholder AnyList) none) ∷ ps
assembled _ ps = []

-- pieces steps: the pieces that these steps spell
abbrev pub pieces : List Step → List Piece
pieces [] = []
pieces (s ∷ steps) = assembled s (pieces steps)

-- only_tree ps: the tree, if there is exactly one piece
abbrev pub only_tree : List Piece → Tree
only_tree (One t ∷ []) = t
only_tree _ = Items none none

-- tree_of_steps steps: the tree that these steps spell
abbrev pub tree_of_steps : List Step → Tree
tree_of_steps steps = only_tree (pieces steps)
