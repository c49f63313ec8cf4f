-- The specified output of runs with a pattern.
use Rattle.std.specs.Prelude.{ℕ, ◌≡◌, List, ◌++◌, Option, Some, None, Result, Ok, Err, codes}
use Rattle.std.specs.Prelude.{Bool, false, IfSome, flat_map, is_some}
use Rattle.rx_term.specs.Tree.{Tree, Items, none, to_list}
use Rattle.rx_text.specs.Verdict.{Verdict, TooLong, Outside, Spelt, IsVerdict}
use Rattle.rx_pattern.specs.Pattern.{Unfit, Unknown, Annotated, unfit}
use Rattle.rx_pattern.specs.Matching.{matching}
use Rattle.rx_pattern.specs.Filling.{Fault, Count, Kinds, filling}
use Rattle.rx_run.specs.Due.{Due, done, refused}
use Rattle.rx_run.specs.TermRuns.{due_of, term_line}
use Rattle.rx_run.specs.declared.ending.Source.{Source}
use Rattle.rx_run.specs.declared.ending.Source.TheVariants as source
use Rattle.rx_run.specs.declared.ending.Named.TheVariants as named
use Rattle.rx_run.specs.declared.ending.Place.{Place}

-- elements t: the elements of a tree, if it is a list without annotations
abbrev pub elements : Tree → Option (List Tree)
elements (Items items none) = Some (to_list items)
elements t = None

-- outside_at text at: the location of a syntax error in the text of a term
abbrev pub outside_at : Source → ℕ → Option Place
outside_at text at = Some (record { text = text; rule = named.A; at = at })

-- unless_unfit u next: the error `P1` or `P2` if the tree is not a pattern, otherwise `next`
abbrev pub unless_unfit : Option Unfit → Due → Due
unless_unfit (Some Unknown) next = refused (codes "!pattern ") (codes "P1") None
unless_unfit (Some Annotated) next = refused (codes "!pattern ") (codes "P2") None
unless_unfit None next = next

-- due_of_pattern next v: the error of the pattern's text, or `next` of the pattern that it spells
abbrev pub due_of_pattern : (Tree → Due) → Verdict → Due
due_of_pattern next TooLong = refused (codes "!pattern ") (codes "L1") None
due_of_pattern next (Outside at) = refused (codes "!pattern ") (codes "A")
    (outside_at source.Pattern at)
due_of_pattern next (Spelt p) = unless_unfit (unfit p) (next p)

-- match_lines found: `yes` and a line for each binding, or `no`
abbrev pub match_lines : Option (List Tree) → List ℕ
match_lines (Some bs) = codes "yes\n" ++ flat_map term_line bs
match_lines None = codes "no\n"

-- match_due pattern input: the specified result of a match, by the verdicts on both texts
abbrev pub match_due : Verdict → Verdict → Due
match_due pattern input = due_of_pattern (λ p. due_of (λ t. match_lines (matching p t)) input)
    pattern

-- made_due r: the line of the tree that was made, or the error `M1` or `M2`
abbrev pub made_due : Result Tree Fault → Due
made_due (Ok t) = done (term_line t)
made_due (Err Count) = refused (codes "!args ") (codes "M1") None
made_due (Err (Kinds at)) = refused (codes "!args ") (codes "M2") None

-- filled_due p found: the error `T1` if the arguments are not a list without annotations, otherwise
-- the result of filling `p`
abbrev pub filled_due : Tree → Option (List Tree) → Due
filled_due p (Some ts) = made_due (filling p ts)
filled_due p None = refused (codes "!args ") (codes "T1") None

-- due_of_args p v: the error of the text of the arguments, or the result of filling `p` with them
abbrev pub due_of_args : Tree → Verdict → Due
due_of_args p TooLong = refused (codes "!args ") (codes "L1") None
due_of_args p (Outside at) = refused (codes "!args ") (codes "A") (outside_at source.Args at)
due_of_args p (Spelt t) = filled_due p (elements t)

-- make_due pattern args: the specified result of filling a pattern, by the verdicts on both texts
abbrev pub make_due : Verdict → Verdict → Due
make_due pattern args = due_of_pattern (λ p. due_of_args p args) pattern

-- IsDueOfBoth due first second d: `d` is `due` of the verdicts on two texts
pub record IsDueOfBoth (due : Verdict → Verdict → Due) (first second : List ℕ) (d : Due)
    : Type 0 where
  pub on_first : Verdict
  pub on_second : Verdict
  pub first_is : IsVerdict first on_first
  pub second_is : IsVerdict second on_second
  pub due_is : d ≡ due on_first on_second

-- IsMatchDue pattern input d: the specified result of a match
abbrev pub IsMatchDue : List ℕ → List ℕ → Due → Type 0
IsMatchDue pattern input d = IsDueOfBoth match_due pattern input d

-- IsMakeDue pattern args d: the specified result of filling a pattern
abbrev pub IsMakeDue : List ℕ → List ℕ → Due → Type 0
IsMakeDue pattern args d = IsDueOfBoth make_due pattern args d

-- is_match u found: whether bindings were found, for a tree that is a pattern; false for other
-- trees
abbrev pub is_match : Option Unfit → Option (List Tree) → Bool
is_match (Some u) found = false
is_match None found = is_some found

-- matched_by pattern input: whether the pattern matches the term, by the verdicts on both texts
abbrev pub matched_by : Verdict → Verdict → Bool
matched_by (Spelt p) (Spelt t) = is_match (unfit p) (matching p t)
matched_by pattern input = false

-- IsMatched pattern input matched: `matched` is true exactly if the pattern of one text matches the
-- term of the other
pub record IsMatched (pattern input : List ℕ) (matched : Bool) : Type 0 where
  pub on_pattern : Verdict
  pub on_input : Verdict
  pub pattern_is : IsVerdict pattern on_pattern
  pub input_is : IsVerdict input on_input
  pub matched_is : matched ≡ matched_by on_pattern on_input

-- IsMatchedFor pattern known matched: this holds for the input of the run, if its bytes are known
abbrev pub IsMatchedFor : List ℕ → Option (List ℕ) → Bool → Type 0
IsMatchedFor pattern known matched = IfSome known (λ input. IsMatched pattern input matched)

-- SpellsPattern text p: the text spells this pattern
pub record SpellsPattern (text : List ℕ) (p : Tree) : Type 0 where
  pub spelt : IsVerdict text (Spelt p)
  pub fit : unfit p ≡ None

-- IsNoPattern text: the text spells no pattern
abbrev pub IsNoPattern : List ℕ → Type 0
IsNoPattern text = (p : Tree) → SpellsPattern text p → ⊥

-- OneDueOfBoth due: for any two texts exactly one result is specified
pub record OneDueOfBoth (due : Verdict → Verdict → Due) : Type 0 where
  pub some : (first second : List ℕ) → (d : Due) × IsDueOfBoth due first second d
  pub one : (first second : List ℕ) (d e : Due) → IsDueOfBoth due first second d
      → IsDueOfBoth due first second e → d ≡ e
