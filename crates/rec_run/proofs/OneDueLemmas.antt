-- What is due for two texts is one thing at most.
use Rattle.std.proofs.Common.{◌≡◌, ℕ, List, Option, Some, None, refl, sym, ap, ◌∙◌, arith}
use Rattle.std.specs.Prelude.{[], if◌then◌else◌, nat_eq, unwrap_or}
use Rattle.rx_term.specs.Tree.{Tree}
use Rattle.rx_text.specs.Verdict as text
use Rattle.rx_text.specs.Verdict.{IsVerdict}
use Rattle.rx_table.specs.Opened.{broken_by_table, broken_element, tree_of_table}
use Rattle.rx_table.proofs.TableLemmas.{breaks-no-tree}
use Rattle.rec_syntax.specs.Syntax.{Spec}
use Rattle.rec_syntax.proofs.PlaceLemmas.{one_place, not_both}
use Rattle.rec_syntax.proofs.DecidingLemmas.{one_reading}
use Rattle.rec_sorts.specs.SpecRules.{Verdict, Long, Grammar, Breaks, Good, SpecVerdict, Fault, fault}
use Rattle.rec_sorts.specs.TermRules.{broken_by_terms, elements}
use Rattle.rx_run.specs.Due.{Due}
use Rattle.rx_run.specs.declared.term.reading.InputForm.{InputForm}
use Rattle.rx_run.specs.declared.term.reading.InputForm.TheVariants as form
use Rattle.rx_run.proofs.TermDueLemmas.{same_verdict}
use Rattle.rec_run.specs.Output.{Shown, IsDueAfter, due_of_terms, TermsVerdict, TooLong, Outside, NoTable, NoElement, BreaksTerms, GoodTerms}
use Rattle.rec_run.specs.Output.{IsGivenVerdict, IsTableVerdict, IsTermsVerdict}
use Rattle.rec_run.specs.Laws.{OneDue}

-- two answers to one question
same_broken : (o : Option Fault) (f g : Fault) → o ≡ Some f → o ≡ Some g → f ≡ g
same_broken o f g h k = cc

-- a text has one verdict at most
pub one_verdict : (bytes : List ℕ) (v w : Verdict) → SpecVerdict bytes v → SpecVerdict bytes w → v ≡ w
one_verdict bytes Long Long h k = refl
one_verdict bytes Long (Grammar b) h (fits, k) = absurd (omega (arith, h, fits))
one_verdict bytes Long (Breaks g) h (fits, k) = absurd (omega (arith, h, fits))
one_verdict bytes Long (Good z) h (fits, k, good) = absurd (omega (arith, h, fits))
one_verdict bytes (Grammar a) Long (fits, h) k = absurd (omega (arith, k, fits))
one_verdict bytes (Grammar a) (Grammar b) (fits, h) (again, k) = ap Grammar (one_place bytes a b h k)
one_verdict bytes (Grammar a) (Breaks g) (fits, h) (again, (z, text, broken)) = absurd (not_both bytes z a text h)
one_verdict bytes (Grammar a) (Good z) (fits, h) (again, text, good) = absurd (not_both bytes z a text h)
one_verdict bytes (Breaks f) Long (fits, h) k = absurd (omega (arith, k, fits))
one_verdict bytes (Breaks f) (Grammar b) (fits, (y, text, broken)) (again, k) = absurd (not_both bytes y b text k)
one_verdict bytes (Breaks f) (Breaks g) (fits, (y, text, broken)) (again, (z, other, spoilt)) =
    ap Breaks (same_broken (fault y) f g broken (ap fault (one_reading bytes y z text other) ∙ spoilt))
one_verdict bytes (Breaks f) (Good z) (fits, (y, text, broken)) (again, other, good) = absurd (cc (broken, ap fault (one_reading bytes y z text other), good))
one_verdict bytes (Good y) Long (fits, text, good) k = absurd (omega (arith, k, fits))
one_verdict bytes (Good y) (Grammar b) (fits, text, good) (again, k) = absurd (not_both bytes y b text k)
one_verdict bytes (Good y) (Breaks g) (fits, text, good) (again, (z, other, spoilt)) = absurd (cc (good, ap fault (one_reading bytes y z text other), spoilt))
one_verdict bytes (Good y) (Good z) (fits, text, good) (again, other, kept) = ap Good (one_reading bytes y z text other)

-- the verdict on the tree of input terms, from the rule that it violates and from its elements
abbrev tree_verdict : Option ℕ → Option (List Tree) → TermsVerdict
tree_verdict (Some number) o = BreaksTerms number
tree_verdict None o = GoodTerms (unwrap_or o [])

-- the verdict on a tree that is not a table, from the rule that it violates and the element that does not open
abbrev no_table_verdict : Option ℕ → Option ℕ → TermsVerdict
no_table_verdict None o = NoTable
no_table_verdict (Some rule) o = if nat_eq rule 1 then NoTable else NoElement (unwrap_or o 0)

-- the verdict on a table of input terms, from its tree
abbrev table_verdict : Spec → Tree → Option Tree → TermsVerdict
table_verdict y t (Some u) = tree_verdict (broken_by_terms y u) (elements u)
table_verdict y t None = no_table_verdict (broken_by_table t) (broken_element t)

-- the verdict on input terms, from the verdict on their text
abbrev given_verdict : InputForm → Spec → text.Verdict → TermsVerdict
given_verdict input y text.TooLong = TooLong
given_verdict input y (text.Outside at) = Outside at
given_verdict form.Term y (text.Spelt t) = tree_verdict (broken_by_terms y t) (elements t)
given_verdict form.Table y (text.Spelt t) = table_verdict y t (tree_of_table t)

-- Follows input y bytes v: the verdict `v` on input terms follows from a verdict on their text
abbrev Follows : InputForm → Spec → List ℕ → TermsVerdict → Type 0
Follows input y bytes v = (o : text.Verdict) × IsVerdict bytes o × (v ≡ given_verdict input y o)

text_follows : (y : Spec) (bytes : List ℕ) (v : TermsVerdict) → IsTermsVerdict y bytes v → Follows form.Term y bytes v
text_follows y bytes TooLong h = (text.TooLong, h, refl)
text_follows y bytes (Outside at) h = (text.Outside at, h, refl)
text_follows y bytes NoTable h = absurd h
text_follows y bytes (NoElement number) h = absurd h
text_follows y bytes (BreaksTerms number) (fits, (t, spelt, broken)) = (text.Spelt t, (fits, spelt), rw broken refl)
text_follows y bytes (GoodTerms ts) (fits, (t, spelt, kept, these)) = (text.Spelt t, (fits, spelt), rw (kept, these) refl)

table_follows : (y : Spec) (bytes : List ℕ) (v : TermsVerdict) → IsTableVerdict y bytes v → Follows form.Table y bytes v
table_follows y bytes TooLong h = (text.TooLong, h, refl)
table_follows y bytes (Outside at) h = (text.Outside at, h, refl)
table_follows y bytes NoTable (fits, (t, spelt, broken)) =
    (text.Spelt t, (fits, spelt), rw (breaks-no-tree t 1 broken, broken) refl)
table_follows y bytes (NoElement number) (fits, (t, spelt, broken, element)) =
    (text.Spelt t, (fits, spelt), rw (breaks-no-tree t 2 broken, broken, element) refl)
table_follows y bytes (BreaksTerms number) (fits, (t, u, spelt, opens, broken)) = (text.Spelt t, (fits, spelt), rw (opens, broken) refl)
table_follows y bytes (GoodTerms ts) (fits, (t, u, spelt, opens, kept, these)) = (text.Spelt t, (fits, spelt), rw (opens, kept, these) refl)

given_follows : (input : InputForm) (y : Spec) (bytes : List ℕ) (v : TermsVerdict) → IsGivenVerdict input y bytes v → Follows input y bytes v
given_follows form.Term y bytes v h = text_follows y bytes v h
given_follows form.Table y bytes v h = table_follows y bytes v h

-- input terms have at most one verdict
pub one_given_verdict : (input : InputForm) (y : Spec) (bytes : List ℕ) (v w : TermsVerdict) → IsGivenVerdict input y bytes v
    → IsGivenVerdict input y bytes w → v ≡ w
one_given_verdict input y bytes v w h k =
    let (a, is, e) = given_follows input y bytes v h in
    let (b, also, f) = given_follows input y bytes w k in
    e ∙ ap (given_verdict input y) (same_verdict bytes a b is also) ∙ sym f

-- after one verdict on the specification
one_after : (v : Verdict) (terms : Option (List ℕ)) (shown : Shown) (n : ℕ) (d e : Due) → IsDueAfter v terms shown n d → IsDueAfter v terms shown n e → d ≡ e
one_after (Good y) (Some terms) shown n d e (v, h, is) (w, k, same) = is ∙ ap (due_of_terms y shown n) (one_given_verdict shown.input y terms v w h k) ∙ sym same
one_after (Good y) None shown n d e h k = h ∙ sym k
one_after Long terms shown n d e h k = h ∙ sym k
one_after (Grammar at) terms shown n d e h k = h ∙ sym k
one_after (Breaks f) terms shown n d e h k = h ∙ sym k

pub one_due : OneDue
one_due spec terms shown n d e (v, h, is) (w, k, same) =
    let e1 = one_verdict spec v w h k in
    one_after w terms shown n d e (rw e1 at is) same
