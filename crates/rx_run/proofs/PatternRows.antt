-- What is due for small patterns, by the trees that both texts spell.
use Rattle.std.proofs.Common.{◌≡◌, ℕ, false, List, Some, None, refl, pos}
use Rattle.std.specs.Prelude.{codes}
use Rattle.std.specs.Fmt.{digits}
use Rattle.rx_term.specs.Tree.{Tree, Trees, none, more, Int, Appl, Items, Hole}
use Rattle.rx_text.specs.Verdict.{TooLong, Outside, Spelt}
use Rattle.rx_run.specs.Due.{Due, done, refused}
use Rattle.rx_run.specs.PatternRuns.{match_due, make_due}
use Rattle.rx_run.specs.declared.ending.Named.TheVariants.{A}
use Rattle.rx_run.specs.declared.ending.Source.{Source}
use Rattle.rx_run.specs.declared.ending.Source.TheVariants as source

abbrev word : List ℕ → Tree
word name = Appl name false none none

abbrev hole : List ℕ → Tree
hole name = Hole (word name) none

abbrev int : ℕ → Tree
int n = Int (pos n) none

abbrev list : Trees → Tree
list items = Items items none

abbrev f : Trees → Tree
f args = Appl (codes "f") false args none

-- a refusal without a place, and one at a place
abbrev unplaced : List ℕ → List ℕ → Due
unplaced text name = refused text name None

abbrev outside : List ℕ → Source → ℕ → Due
outside word text at = refused word (codes "A") (Some (record { text = text; rule = A; at = at }))

-- f(<int>,<list>)
abbrev int_and_rest : Tree
int_and_rest = f (more (hole (codes "int")) (more (hole (codes "list")) none))

-- f(1,2,3); f(1); f(a)
binds_both : match_due (Spelt int_and_rest) (Spelt (f (more (int 1) (more (int 2) (more (int 3) none))))) ≡ done (codes "yes\n1\n[2,3]\n")
unfolding digits
binds_both = refl

binds_nothing_left : match_due (Spelt int_and_rest) (Spelt (f (more (int 1) none))) ≡ done (codes "yes\n1\n[]\n")
unfolding digits
binds_nothing_left = refl

no_match : match_due (Spelt int_and_rest) (Spelt (f (more (word (codes "a")) none))) ≡ done (codes "no\n")
no_match = refl

-- a{<list>} on a
binds_no_annotations : match_due (Spelt (Appl (codes "a") false none (more (hole (codes "list")) none))) (Spelt (word (codes "a"))) ≡ done (codes "yes\n[]\n")
binds_no_annotations = refl

-- the pattern is asked first: <foo>; <int>{a}; one that is too long; the empty text
unknown : match_due (Spelt (hole (codes "foo"))) (Outside 3) ≡ unplaced (codes "!pattern ") (codes "P1")
unknown = refl

annotated : match_due (Spelt (Hole (word (codes "int")) (more (word (codes "a")) none))) (Spelt (int 1)) ≡ unplaced (codes "!pattern ") (codes "P2")
annotated = refl

long_pattern : match_due TooLong TooLong ≡ unplaced (codes "!pattern ") (codes "L1")
long_pattern = refl

empty_pattern : match_due (Outside 0) (Outside 3) ≡ outside (codes "!pattern ") source.Pattern 0
empty_pattern = refl

-- f(a
unfinished_term : match_due (Spelt (word (codes "a"))) (Outside 3) ≡ outside (codes "!term ") source.Term 3
unfinished_term = refl

-- f(<int>,<list>) from [1,[2,3]]
makes_both : make_due (Spelt int_and_rest) (Spelt (list (more (int 1) (more (list (more (int 2) (more (int 3) none))) none)))) ≡ done (codes "f(1,2,3)\n")
unfolding digits
makes_both = refl

-- f(<int>) from []; from [a]
too_few : make_due (Spelt (f (more (hole (codes "int")) none))) (Spelt (list none)) ≡ unplaced (codes "!args ") (codes "M1")
too_few = refl

wrong_kind : make_due (Spelt (f (more (hole (codes "int")) none))) (Spelt (list (more (word (codes "a")) none))) ≡ unplaced (codes "!args ") (codes "M2")
wrong_kind = refl

-- a from b; from []{}; from []{b}; from [
no_list : make_due (Spelt (word (codes "a"))) (Spelt (word (codes "b"))) ≡ unplaced (codes "!args ") (codes "T1")
no_list = refl

from_nothing : make_due (Spelt (word (codes "a"))) (Spelt (list none)) ≡ done (codes "a\n")
from_nothing = refl

annotated_list : make_due (Spelt (word (codes "a"))) (Spelt (Items none (more (word (codes "b")) none))) ≡ unplaced (codes "!args ") (codes "T1")
annotated_list = refl

unfinished_args : make_due (Spelt (word (codes "a"))) (Outside 1) ≡ outside (codes "!args ") source.Args 1
unfinished_args = refl

-- <foo> from (
unknown_first : make_due (Spelt (hole (codes "foo"))) (Outside 1) ≡ unplaced (codes "!pattern ") (codes "P1")
unknown_first = refl
