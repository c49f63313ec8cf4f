-- Rules without conditions that rewrite a term whose variables are read as constants.
--     rewrites y r t          the rule has no conditions, and its left-hand side matches the term
--     rewritten_by y rs t     the first word of the first of these rules that rewrites the term
use Rattle.std.specs.Prelude.{ℕ, ◌≡◌, Bool, false, List, [], ◌∷◌, ◌++◌, Option, Some, None}
use Rattle.std.specs.Prelude.{if◌then◌else◌, is_some, slice_get}
use Rattle.rec_syntax.specs.Tokens.{Word}
use Rattle.rec_syntax.specs.Syntax.{Term, Terms, Apply, none, more, Rule, Spec, head}
use Rattle.rec_sorts.specs.Binding.{binds, tree_of}

-- rewrites y r t: the rule has no conditions, and its left-hand side matches the term
abbrev pub rewrites : Spec → Rule → Term → Bool
rewrites y r t = elim r.conditions [ [] ↦ is_some (binds y r.left (tree_of t)) | c ∷ cs ↦ false ]

-- rewritten_by y rs t: the first word of the first of these rules that rewrites the term
abbrev pub rewritten_by : Spec → List Rule → Term → Option Word
rewritten_by y [] t = None
rewritten_by y (r ∷ rs) t = if rewrites y r t then Some (head r.left) else rewritten_by y rs t

-- IsFirstWord y i o: the first word of the rule with this number; none if no rule was found
abbrev pub IsFirstWord : Spec → Option ℕ → Option Word → Type 0
IsFirstWord y None o = o ≡ None
IsFirstWord y (Some i) o = (r : Rule) × (slice_get y.rules i ≡ Some r) × (o ≡ Some (head r.left))

-- a term with all its subterms, in postorder
abbrev mutual
  pub postorder : Term → List Term
  postorder (Apply w ts) = postorder_all ts ++ Apply w ts ∷ []

  pub postorder_all : Terms → List Term
  postorder_all none = []
  postorder_all (more t ts) = postorder t ++ postorder_all ts
