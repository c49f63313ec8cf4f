-- Trees as they are printed: as they are, or with numbers in place of some of them, as in the
-- elements of a table.
use Rattle.std.specs.Prelude.{ℕ, Bool, true, false, Option, Some, None, pos}
use Rattle.rx_term.specs.Tree.{Tree, Trees, Int, Appl, Items, Hole, none, more, list_of}

-- Style: trees are printed as they are, or with the numbers that some of them have
pub data Style : Type 0 where
  Plain : Style
  Numbered : (Tree → Option ℕ) → Style

-- is_numbered s: whether some trees have numbers
abbrev pub is_numbered : Style → Bool
is_numbered Plain = false
is_numbered (Numbered number) = true

-- number_in s t: the number of a tree, if it has one
abbrev pub number_in : Style → Tree → Option ℕ
number_in Plain t = None
number_in (Numbered number) t = number t

-- reference n: a number in a placeholder
abbrev pub reference : ℕ → Tree
reference n = Hole (Int (pos n) none) none

-- numbered n t: a reference to the number, or the tree if there is none
abbrev pub numbered : Option ℕ → Tree → Tree
numbered None t = t
numbered (Some n) t = reference n

-- content_in s t: the tree in a placeholder; if trees have numbers it is put in a list, so that no
-- integer is taken for a number
abbrev pub content_in : Style → Tree → Tree
content_in Plain t = t
content_in (Numbered number) t = list_of (more t none)

abbrev mutual
  -- entry s t: a tree as it is printed without its own number
  pub entry : Style → Tree → Tree
  entry s (Int z anns) = Int z (written_all s anns)
  entry s (Appl name quoted args anns) =
      Appl name quoted (written_all s args) (written_all s anns)
  entry s (Items items anns) = Items (written_all s items) (written_all s anns)
  entry s (Hole inner anns) =
      Hole (content_in s (numbered (number_in s inner) (entry s inner))) (written_all s anns)

  -- written_all s ts: trees as they are printed
  pub written_all : Style → Trees → Trees
  written_all s none = none
  written_all s (more t ts) = more (numbered (number_in s t) (entry s t)) (written_all s ts)

-- written s t: a tree as it is printed
abbrev pub written : Style → Tree → Tree
written s t = numbered (number_in s t) (entry s t)
