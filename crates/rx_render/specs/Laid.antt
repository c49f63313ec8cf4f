-- The text of a tree over several lines. It is the printed form with line breaks: a line feed and
-- the blanks of each level follow each opening mark and each comma, and precede each closing mark.
-- An empty list and a name without arguments are printed as usual. With a width, a tree that fits
-- on its line is not broken.
use Rattle.std.specs.Prelude.{ℕ, ◌+◌, Bool, false, if◌then◌else◌, nat_le, List, [], ◌∷◌, ◌++◌}
use Rattle.std.specs.Prelude.{Option, Some, None, codes, length, replicate}
use Rattle.std.specs.Fmt.{signed_decimal}
use Rattle.rx_term.specs.Tree.{Tree, Trees, none, more, Int, Appl, Items, Hole}
use Rattle.rx_text.specs.Canon.{canon, name_text, no_arguments}
use Rattle.rx_render.specs.declared.layout.Indentation.{Indentation}

-- new_line m: a line feed and `m` blanks
abbrev pub new_line : ℕ → List ℕ
new_line m = 10 ∷ replicate m 32

-- between n m left text right: a text on lines of its own between two marks; the second mark
-- follows `m` blanks
abbrev pub between : ℕ → ℕ → ℕ → List ℕ → ℕ → List ℕ
between n m left text right = left ∷ new_line (m + n) ++ text ++ new_line m ++ right ∷ []

-- block n m left ts text right empty: the text between two marks, or `empty` if there are no trees
abbrev pub block : ℕ → ℕ → ℕ → Trees → List ℕ → ℕ → List ℕ → List ℕ
block n m left none text right empty = empty
block n m left (more t ts) text right empty = between n m left text right

-- fits width m t: whether `m` blanks and the printed form of a tree have at most `width` bytes; no
-- tree fits if there is no width
abbrev pub fits : Option ℕ → ℕ → Tree → Bool
fits None m t = false
fits (Some width) m t = nat_le (m + length (canon t)) width

-- unless_fits l m t text: the printed form of a tree if it fits after `m` blanks, otherwise `text`
abbrev pub unless_fits : Indentation → ℕ → Tree → List ℕ → List ℕ
unless_fits l m t text = if fits l.width m t then canon t else text

abbrev mutual
  -- laid_at l m t: a tree whose lines start with `m` blanks
  pub laid_at : Indentation → ℕ → Tree → List ℕ
  laid_at l m (Int z anns) = unless_fits l m (Int z anns) (signed_decimal z
      ++ block l.indent m 123 anns (laid_all l (m + l.indent) anns) 125 [])
  laid_at l m (Appl name quoted args anns) = unless_fits l m (Appl name quoted args anns)
      (name_text name quoted
      ++ block l.indent m 40 args (laid_all l (m + l.indent) args) 41 (no_arguments name quoted)
      ++ block l.indent m 123 anns (laid_all l (m + l.indent) anns) 125 [])
  laid_at l m (Items items anns) = unless_fits l m (Items items anns)
      (block l.indent m 91 items (laid_all l (m + l.indent) items) 93 (codes "[]")
      ++ block l.indent m 123 anns (laid_all l (m + l.indent) anns) 125 [])
  laid_at l m (Hole inner anns) = unless_fits l m (Hole inner anns)
      (between l.indent m 60 (laid_at l (m + l.indent) inner) 62
      ++ block l.indent m 123 anns (laid_all l (m + l.indent) anns) 125 [])

  -- laid_all l m ts: some trees, separated by commas
  pub laid_all : Indentation → ℕ → Trees → List ℕ
  laid_all l m none = []
  laid_all l m (more t ts) = laid_at l m t ++ laid_others l m ts

  -- laid_others l m ts: some trees, each after a comma on a line of its own
  pub laid_others : Indentation → ℕ → Trees → List ℕ
  laid_others l m none = []
  laid_others l m (more t ts) = 44 ∷ new_line m ++ laid_at l m t ++ laid_others l m ts

-- laid l t: a tree whose lines start in the first column
abbrev pub laid : Indentation → Tree → List ℕ
laid l t = laid_at l 0 t
