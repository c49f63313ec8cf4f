-- What is due for a text, or for two, by the machines that read them and by the rules.
use Rattle.std.proofs.Common.{◌≡◌, ℕ, zero, suc, Bool, true, List, Option, Some, None, length, refl, subst}
use Rattle.std.specs.Prelude.{nat_le, option_map, [], ◌∷◌, ◌&&◌, map}
use Rattle.std.specs.Option.{option_and_then}
use Rattle.std.proofs.lemmas.Bool.{and_parts, leb-true}
use Rattle.rx_term.specs.Tree.{Tree}
use Rattle.rx_text.specs.Token.{tokens, kinds}
use Rattle.rx_text.specs.Grammar.{Spells}
use Rattle.rx_text.specs.Place.{IsFaultPlace}
use Rattle.rx_text.specs.Machine as machine
use Rattle.rx_text.proofs.MachineLemmas.{read_spelled}
use Rattle.rx_text.proofs.FaultLemmas.{is_fault_place}
use Rattle.rx_table.specs.Opened.{broken_by_table, broken_element, tree_of_table}
use Rattle.rec_syntax.specs.Syntax.{Spec}
use Rattle.rec_syntax.specs.Inner.Machine.{Outcome, Read, Fault, Unfinished}
use Rattle.rec_syntax.proofs.VerdictLemmas.{comes_of, read_spells, stops_at_place}
use Rattle.rec_sorts.specs.SpecRules as rules
use Rattle.rec_sorts.specs.SpecRules.{Verdict, Long, Grammar, Breaks, Good, SpecVerdict, fault, Fits}
use Rattle.rec_sorts.specs.TermRules.{broken_by_terms, elements}
use Rattle.rx_run.specs.Due.{Due}
use Rattle.rx_run.specs.declared.term.reading.InputForm.{InputForm}
use Rattle.rx_run.specs.declared.term.reading.InputForm.TheVariants as form
use Rattle.rec_run.specs.Output.{Shown, IsDue, IsDueAfter, due_of_spec, due_of_terms, TermsVerdict, Outside, NoTable, NoElement, BreaksTerms, GoodTerms}
use Rattle.rec_run.specs.Output.{IsGivenVerdict, IsTableVerdict, IsTermsVerdict}
use Rattle.rec_run.proofs.WholeRunLemmas.{after_spec}

-- the verdict on a specification that is read
abbrev pub verdict_by_rules : Spec → Option rules.Fault → Verdict
verdict_by_rules y None = Good y
verdict_by_rules y (Some f) = Breaks f

-- the verdict by what the machine answers
abbrev pub verdict_by : Outcome → Option Verdict
verdict_by (Read y) = Some (verdict_by_rules y (fault y))
verdict_by (Fault at) = Some (Grammar at)
verdict_by Unfinished = None

rules_verdict : (bytes : List ℕ) (y : Spec) (o : Option rules.Fault) → Fits bytes → comes_of bytes ≡ Read y → fault y ≡ o
    → SpecVerdict bytes (verdict_by_rules y o)
rules_verdict bytes y None fits e k = (fits, read_spells bytes y e, k)
rules_verdict bytes y (Some f) fits e k = (fits, (y, read_spells bytes y e, k))

machine_verdict : (bytes : List ℕ) (o : Outcome) (v : Verdict) → Fits bytes → comes_of bytes ≡ o → verdict_by o ≡ Some v → SpecVerdict bytes v
machine_verdict bytes (Read y) v fits e k = let same : verdict_by_rules y (fault y) ≡ v = cc in
    subst (SpecVerdict bytes) same (rules_verdict bytes y (fault y) fits e refl)
machine_verdict bytes (Fault at) v fits e k = let same : Grammar at ≡ v = cc in subst (SpecVerdict bytes) same (fits, stops_at_place bytes at e)
machine_verdict bytes Unfinished v fits e k = absurd (cc k)

due_by_verdict : (bytes : List ℕ) (shown : Shown) (n : ℕ) (d : Due) (o : Option Verdict) → ((v : Verdict) → o ≡ Some v → SpecVerdict bytes v)
    → option_map (due_of_spec shown n) o ≡ Some d → IsDue bytes None shown n d
due_by_verdict bytes shown n d None h e = absurd (cc e)
due_by_verdict bytes shown n d (Some v) h e = let same : due_of_spec shown n v ≡ d = cc in
    (v, h v refl, subst (IsDueAfter v None shown n) same (after_spec shown n v))

-- what is due for a text that is not too long: both premises are computed
pub due_of_text : (bytes : List ℕ) (shown : Shown) (n : ℕ) (d : Due) → nat_le (length bytes) 16777216 ≡ true
    → option_map (due_of_spec shown n) (verdict_by (comes_of bytes)) ≡ Some d
    → IsDue bytes None shown n d
due_of_text bytes shown n d fits e = due_by_verdict bytes shown n d (verdict_by (comes_of bytes)) (λ v.
    machine_verdict bytes (comes_of bytes) v (leb-true (length bytes) 16777216 fits) refl) e

-- the verdict on a tree by what the rules of given terms answer
abbrev pub terms_by_rules : Option ℕ → Option (List Tree) → Option TermsVerdict
terms_by_rules (Some number) o = Some (BreaksTerms number)
terms_by_rules None (Some ts) = Some (GoodTerms ts)
terms_by_rules None None = None

-- the verdict on a tree that is not a table, from the rule that it violates and the element that does not open
abbrev pub no_table_by : Option ℕ → Option ℕ → Option TermsVerdict
no_table_by (Some (suc zero)) o = Some NoTable
no_table_by (Some (suc (suc zero))) (Some number) = Some (NoElement number)
no_table_by rule o = None

-- the verdict on a table of input terms, from its tree, or from the rule that it violates as a table
abbrev pub table_by : Spec → Tree → Option Tree → Option TermsVerdict
table_by y t (Some u) = terms_by_rules (broken_by_terms y u) (elements u)
table_by y t None = no_table_by (broken_by_table t) (broken_element t)

-- the verdict on the tree of input terms that are read in this form
abbrev pub tree_by : InputForm → Spec → Tree → Option TermsVerdict
tree_by form.Term y t = terms_by_rules (broken_by_terms y t) (elements t)
tree_by form.Table y t = table_by y t (tree_of_table t)

-- the verdict by the tree that was read, or else by the place
abbrev pub terms_verdict_by : InputForm → Spec → Option Tree → Option ℕ → Option TermsVerdict
terms_verdict_by input y (Some t) place = tree_by input y t
terms_verdict_by input y None (Some at) = Some (Outside at)
terms_verdict_by input y None None = None

text_verdict : (y : Spec) (bytes : List ℕ) (t : Tree) → Fits bytes → Spells bytes t → (broken : Option ℕ) (o : Option (List Tree))
    → broken_by_terms y t ≡ broken → elements t ≡ o
    → (v : TermsVerdict) → terms_by_rules broken o ≡ Some v → IsTermsVerdict y bytes v
text_verdict y bytes t fits spelt (Some number) o b k v e = let same : BreaksTerms number ≡ v = cc in subst (IsTermsVerdict y bytes) same (fits, (t, spelt, b))
text_verdict y bytes t fits spelt None (Some ts) b k v e = let same : GoodTerms ts ≡ v = cc in subst (IsTermsVerdict y bytes) same (fits, (t, spelt, b, k))
text_verdict y bytes t fits spelt None None b k v e = absurd (cc e)

opened_verdict : (y : Spec) (bytes : List ℕ) (t u : Tree) → Fits bytes → Spells bytes t → tree_of_table t ≡ Some u
    → (broken : Option ℕ) (o : Option (List Tree)) → broken_by_terms y u ≡ broken → elements u ≡ o
    → (v : TermsVerdict) → terms_by_rules broken o ≡ Some v → IsTableVerdict y bytes v
opened_verdict y bytes t u fits spelt opens (Some number) o b k v e =
    let same : BreaksTerms number ≡ v = cc in subst (IsTableVerdict y bytes) same (fits, (t, u, spelt, opens, b))
opened_verdict y bytes t u fits spelt opens None (Some ts) b k v e =
    let same : GoodTerms ts ≡ v = cc in subst (IsTableVerdict y bytes) same (fits, (t, u, spelt, opens, b, k))
opened_verdict y bytes t u fits spelt opens None None b k v e = absurd (cc e)

broken_verdict : (y : Spec) (bytes : List ℕ) (t : Tree) → Fits bytes → Spells bytes t → (rule element : Option ℕ)
    → broken_by_table t ≡ rule → broken_element t ≡ element
    → (v : TermsVerdict) → no_table_by rule element ≡ Some v → IsTableVerdict y bytes v
broken_verdict y bytes t fits spelt None o b k v e = absurd (cc e)
broken_verdict y bytes t fits spelt (Some zero) o b k v e = absurd (cc e)
broken_verdict y bytes t fits spelt (Some (suc zero)) o b k v e = let same : NoTable ≡ v = cc in subst (IsTableVerdict y bytes) same (fits, (t, spelt, b))
broken_verdict y bytes t fits spelt (Some (suc (suc zero))) None b k v e = absurd (cc e)
broken_verdict y bytes t fits spelt (Some (suc (suc zero))) (Some number) b k v e =
    let same : NoElement number ≡ v = cc in subst (IsTableVerdict y bytes) same (fits, (t, spelt, b, k))
broken_verdict y bytes t fits spelt (Some (suc (suc (suc m)))) o b k v e = absurd (cc e)

table_verdict : (y : Spec) (bytes : List ℕ) (t : Tree) → Fits bytes → Spells bytes t → (o : Option Tree) → tree_of_table t ≡ o
    → (v : TermsVerdict) → table_by y t o ≡ Some v → IsTableVerdict y bytes v
table_verdict y bytes t fits spelt (Some u) opens v e = opened_verdict y bytes t u fits spelt opens (broken_by_terms y u) (elements u) refl refl v e
table_verdict y bytes t fits spelt None opens v e = broken_verdict y bytes t fits spelt (broken_by_table t) (broken_element t) refl refl v e

tree_verdict : (input : InputForm) (y : Spec) (bytes : List ℕ) (t : Tree) → Fits bytes → Spells bytes t
    → (v : TermsVerdict) → tree_by input y t ≡ Some v → IsGivenVerdict input y bytes v
tree_verdict form.Term y bytes t fits spelt v e = text_verdict y bytes t fits spelt (broken_by_terms y t) (elements t) refl refl v e
tree_verdict form.Table y bytes t fits spelt v e = table_verdict y bytes t fits spelt (tree_of_table t) refl v e

outside_verdict : (input : InputForm) (y : Spec) (bytes : List ℕ) (at : ℕ) → Fits bytes → IsFaultPlace bytes at → IsGivenVerdict input y bytes (Outside at)
outside_verdict form.Term y bytes at fits h = (fits, h)
outside_verdict form.Table y bytes at fits h = (fits, h)

terms_verdict : (input : InputForm) (y : Spec) (bytes : List ℕ) (o : Option Tree) (place : Option ℕ) → Fits bytes → machine.read (kinds bytes) ≡ o
    → machine.fault_at (tokens bytes) machine.AtTerm [] ≡ place
    → (v : TermsVerdict) → terms_verdict_by input y o place ≡ Some v → IsGivenVerdict input y bytes v
terms_verdict input y bytes (Some t) place fits r f v e = tree_verdict input y bytes t fits (read_spelled (kinds bytes) t r) v e
terms_verdict input y bytes None (Some at) fits r f v e =
    let same : Outside at ≡ v = cc in subst (IsGivenVerdict input y bytes) same (outside_verdict input y bytes at fits (is_fault_place bytes at f))
terms_verdict input y bytes None None fits r f v e = absurd (cc e)

-- what is due after the verdict on the specification
abbrev pub due_by : List ℕ → Shown → ℕ → Verdict → Option Due
due_by terms shown n (Good y) = option_map (due_of_terms y shown n)
    (terms_verdict_by shown.input y (machine.read (kinds terms)) (machine.fault_at (tokens terms) machine.AtTerm []))
due_by terms shown n v = Some (due_of_spec shown n v)

due_after : (terms : List ℕ) (shown : Shown) (n : ℕ) (d : Due) → Fits terms → (v : Verdict) → due_by terms shown n v ≡ Some d
    → IsDueAfter v (Some terms) shown n d
due_after terms shown n d fits (Good y) e =
    by_terms (terms_verdict_by shown.input y (machine.read (kinds terms)) (machine.fault_at (tokens terms) machine.AtTerm [])) refl e
  where
    by_terms : (o : Option TermsVerdict)
        → terms_verdict_by shown.input y (machine.read (kinds terms)) (machine.fault_at (tokens terms) machine.AtTerm []) ≡ o
        → option_map (due_of_terms y shown n) o ≡ Some d
        → (v : TermsVerdict) × IsGivenVerdict shown.input y terms v × (d ≡ due_of_terms y shown n v)
    by_terms None k e = absurd (cc e)
    by_terms (Some v) k e = let same : d ≡ due_of_terms y shown n v = cc in
        let read = machine.read (kinds terms) in
        (v, terms_verdict shown.input y terms read (machine.fault_at (tokens terms) machine.AtTerm []) fits refl refl v k, same)
due_after terms shown n d fits Long e = let same : d ≡ due_of_spec shown n Long = cc in same
due_after terms shown n d fits (Grammar at) e = let same : d ≡ due_of_spec shown n (Grammar at) = cc in same
due_after terms shown n d fits (Breaks f) e = let same : d ≡ due_of_spec shown n (Breaks f) = cc in same

-- what is due for two texts that are not too long: all premises are computed
pub due_of_texts : (spec terms : List ℕ) (shown : Shown) (n : ℕ) (d : Due) → nat_le (length spec) 16777216 ≡ true → nat_le (length terms) 16777216 ≡ true
    → option_and_then (due_by terms shown n) (verdict_by (comes_of spec)) ≡ Some d → IsDue spec (Some terms) shown n d
due_of_texts spec terms shown n d fits short e = by_verdict (verdict_by (comes_of spec)) (λ v.
    machine_verdict spec (comes_of spec) v (leb-true (length spec) 16777216 fits) refl) e
  where
    by_verdict : (o : Option Verdict) → ((v : Verdict) → o ≡ Some v → SpecVerdict spec v) → option_and_then (due_by terms shown n) o ≡ Some d
        → IsDue spec (Some terms) shown n d
    by_verdict None h e = absurd (cc e)
    by_verdict (Some v) h e = (v, h v refl, due_after terms shown n d (leb-true (length terms) 16777216 short) v e)

-- a worked run: its texts, how its lines look, how many a term may take, and what is due
pub record Row : Type 0 where
  pub spec : List ℕ
  pub terms : Option (List ℕ)
  pub shown : Shown
  pub steps : ℕ
  pub due : Due

-- each is due
abbrev pub AreDue : List Row → Type 0
AreDue [] = Unit {0}
AreDue (r ∷ rs) = IsDue r.spec r.terms r.shown r.steps r.due × AreDue rs

-- the texts are not too long
abbrev pub are_short : List ℕ → Option (List ℕ) → Bool
are_short spec None = nat_le (length spec) 16777216
are_short spec (Some terms) = nat_le (length spec) 16777216 && nat_le (length terms) 16777216

-- what is due for them
abbrev pub due_for : List ℕ → Option (List ℕ) → Shown → ℕ → Option Due
due_for spec None shown n = option_map (due_of_spec shown n) (verdict_by (comes_of spec))
due_for spec (Some terms) shown n = option_and_then (due_by terms shown n) (verdict_by (comes_of spec))

row_due : (spec : List ℕ) (terms : Option (List ℕ)) (shown : Shown) (n : ℕ) (d : Due) → are_short spec terms ≡ true
    → due_for spec terms shown n ≡ Some d → IsDue spec terms shown n d
row_due spec None shown n d fits e = due_of_text spec shown n d fits e
row_due spec (Some terms) shown n d fits e =
    let both = and_parts (nat_le (length spec) 16777216) (nat_le (length terms) 16777216) fits in
    due_of_texts spec terms shown n d both.0 both.1 e

-- so is each row that is computed to be
pub rows_due : (rs : List Row) → map (λ r. are_short r.spec r.terms) rs ≡ map (λ r. true) rs
    → map (λ r. due_for r.spec r.terms r.shown r.steps) rs ≡ map (λ r. Some r.due) rs → AreDue rs
rows_due [] fits e = tt
rows_due (r ∷ rs) fits e = (row_due r.spec r.terms r.shown r.steps r.due (cc fits) (cc e), rows_due rs (cc fits) (cc e))
