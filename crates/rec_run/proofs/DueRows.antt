-- What is due after each verdict, spelled out.
use Rattle.std.proofs.Common.{refl, arith}
use Rattle.std.specs.Prelude.{ℕ, length, List, [], ◌∷◌, codes, ◌≡◌, true, false, Option, Some, None}
use Rattle.std.specs.Fmt.{digits}
use Rattle.rx_term.specs.Tree.{Tree, Appl, none, more}
use Rattle.rec_syntax.specs.Syntax.{Spec}
use Rattle.rec_sorts.specs.SpecRules.{fault, Long, Grammar, Breaks, Good, Fits, SpecVerdict}
use Rattle.rec_sorts.specs.TermRules.{broken_by_terms, elements}
use Rattle.rec_sorts.specs.Evaluation.{Eval}
use Rattle.rx_run.specs.Due.{Due}
use Rattle.rec_run.specs.Output.{bare, due_of_spec, due_of_terms, TooLong, Outside, NoTable, NoElement, BreaksTerms, GoodTerms}
use Rattle.rec_run.specs.Output.{IsDueAfter, IsTableVerdict, IsTermsVerdict}
use Rattle.rx_run.specs.declared.ending.Finish.{Finish}
use Rattle.rx_run.specs.declared.ending.Finish.TheVariants.{Done, Refused}
use Rattle.rx_run.specs.declared.ending.Source.TheVariants as source
use Rattle.rx_run.specs.declared.ending.Named.TheVariants as named
use Rattle.rx_run.specs.declared.ending.Place.{Place}
use Rattle.rec_run.proofs.TermRows.{q}

abbrev due : Finish → List ℕ → Option Place → Due
due finish text place = record { finish = finish; text = text; place = place }

long_spec : due_of_spec (bare true) 7 Long ≡ due Refused (codes "!spec L1\n") None
long_spec = refl

spec_outside : due_of_spec (bare true) 7 (Grammar 17) ≡ due Refused (codes "!spec G\n") (Some (record { text = source.Spec; rule = named.G; at = 17 }))
spec_outside = refl

broken_spec : due_of_spec (bare true) 7 (Breaks (record { number = 10; at = 88 })) ≡ due Refused (codes "!spec S10\n")
    (Some (record { text = source.Spec; rule = named.S 10; at = 88 }))
unfolding digits
broken_spec = refl

good_spec : due_of_spec (bare false) 1 (Good q) ≡ due Done (codes "a\n") None
unfolding Eval
good_spec = refl

long_terms : due_of_terms q (bare true) 7 TooLong ≡ due Refused (codes "!terms L1\n") None
long_terms = refl

terms_outside : due_of_terms q (bare true) 7 (Outside 4) ≡ due Refused (codes "!terms A\n") (Some (record { text = source.Terms; rule = named.A; at = 4 }))
terms_outside = refl

no_table : due_of_terms q (bare true) 7 NoTable ≡ due Refused (codes "!terms R1\n") None
no_table = refl

broken_element : due_of_terms q (bare true) 7 (NoElement 2) ≡ due Refused (codes "!terms R2\n") None
broken_element = refl

broken_terms : due_of_terms q (bare true) 7 (BreaksTerms 2) ≡ due Refused (codes "!terms T2\n") None
unfolding digits
broken_terms = refl

abbrev a : Tree
a = Appl (codes "a") false none none

abbrev b : Tree
b = Appl (codes "b") false none none

abbrev f : Tree → Tree
f t = Appl (codes "f") false (more t none) none

good_terms : due_of_terms q (bare false) 1 (GoodTerms (b ∷ f (f a) ∷ [])) ≡ due Done (codes "a\nb\n!limit 1\n") None
unfolding Eval digits
good_terms = refl

-- the steps stand behind the annotations, and not behind a limit
good_terms-counted : due_of_terms q (bare true) 1 (GoodTerms (Appl (codes "f") false (more a none) (more b none) ∷ f (f a) ∷ [])) ≡ due Done
    (codes "a\t1\na{b}\t1\n!limit 1\n") None
unfolding Eval digits
good_terms-counted = refl

-- a refused specification is all that is told, whatever the terms are
terms_unread : (terms : List ℕ) (d : Due) → IsDueAfter (Grammar 17) (Some terms) (bare true) 7 d
    → d ≡ due Refused (codes "!spec G\n") (Some (record { text = source.Spec; rule = named.G; at = 17 }))
terms_unread terms d h = h

-- 16777216 bytes are not too many, and one more is
at_the_limit : (bytes : List ℕ) → length bytes ≡ 16777216 → Fits bytes
at_the_limit bytes e = omega (arith, e)

past_the_limit : (bytes : List ℕ) → length bytes ≡ 16777217 → Fits bytes → ⊥
past_the_limit bytes e h = omega (arith, e, h)

long_past_the_limit : (bytes : List ℕ) → length bytes ≡ 16777217 → SpecVerdict bytes Long
long_past_the_limit bytes e = omega (arith, e)

not_long_at_the_limit : (bytes : List ℕ) → length bytes ≡ 16777216 → SpecVerdict bytes Long → ⊥
not_long_at_the_limit bytes e h = omega (arith, e, h)

terms_long_past_the_limit : (y : Spec) (bytes : List ℕ) → length bytes ≡ 16777217 → IsTermsVerdict y bytes TooLong
terms_long_past_the_limit y bytes e = omega (arith, e)

table_long_past_the_limit : (y : Spec) (bytes : List ℕ) → length bytes ≡ 16777217 → IsTableVerdict y bytes TooLong
table_long_past_the_limit y bytes e = omega (arith, e)

terms_not_long_at_the_limit : (y : Spec) (bytes : List ℕ) → length bytes ≡ 16777216 → IsTermsVerdict y bytes TooLong → ⊥
terms_not_long_at_the_limit y bytes e h = omega (arith, e, h)

-- what is good keeps all rules
good_keeps_rules : (bytes : List ℕ) (y : Spec) → SpecVerdict bytes (Good y) → fault y ≡ None
good_keeps_rules bytes y h = h.2

good_terms_keep_rules : (y : Spec) (bytes : List ℕ) (ts : List Tree) → IsTermsVerdict y bytes (GoodTerms ts)
    → (t : Tree) × (broken_by_terms y t ≡ None) × (elements t ≡ Some ts)
good_terms_keep_rules y bytes ts h = (h.1.0, h.1.2, h.1.3)
