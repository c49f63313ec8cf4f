-- Terms in postfix form: the nodes of the arguments from left to right, then the term's own node.
use Rattle.std.specs.Prelude.{ℕ, zero, suc, ◌+◌, List, [], ◌∷◌, ◌++◌, drop}
use Rattle.rec_syntax.specs.Tokens.{Word}
use Rattle.rec_syntax.specs.Syntax.{Term, Terms, Apply, none, more, nameless}

-- a name with the number of its arguments
pub record Node : Type 0 where
  pub word : Word
  pub count : ℕ

-- the number of terms
abbrev pub term_count : Terms → ℕ
term_count none = 0
term_count (more t ts) = term_count ts + 1

abbrev mutual
  -- flat t: the nodes of a term
  pub flat : Term → List Node
  flat (Apply w ts) = flat_all ts ++ record { word = w; count = term_count ts } ∷ []

  -- flat_all ts: the nodes of terms, one after another
  pub flat_all : Terms → List Node
  flat_all none = []
  flat_all (more t ts) = flat t ++ flat_all ts

-- newest count made ts: the last `count` of the terms made so far (the newest is first), before
-- `ts`
abbrev pub newest : ℕ → List Term → Terms → Terms
newest zero made ts = ts
newest (suc count) [] ts = ts
newest (suc count) (t ∷ made) ts = newest count made (more t ts)

-- assembled n made: the newest terms become the arguments of node `n`
abbrev pub assembled : Node → List Term → List Term
assembled n made = Apply n.word (newest n.count made none) ∷ drop n.count made

-- made_by made nodes: the terms that the nodes make, the newest first
abbrev pub made_by : List Term → List Node → List Term
made_by made [] = made
made_by made (n ∷ nodes) = made_by (assembled n made) nodes

-- the newest term
abbrev pub newest_term : List Term → Term
newest_term [] = Apply nameless none
newest_term (t ∷ made) = t

-- spelled_by nodes: the term that the nodes spell
abbrev pub spelled_by : List Node → Term
spelled_by nodes = newest_term (made_by [] nodes)
