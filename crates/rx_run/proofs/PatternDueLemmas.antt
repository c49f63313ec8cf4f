-- From the verdicts on a pattern and on a second text to what is due.
use Rattle.std.proofs.Common.{◌≡◌, ℕ, List, [], Option, Some, None, IfSome, IfOk, Result, Ok, Err, refl, sym, ap, subst, ◌∙◌}
use Rattle.rx_term.specs.Tree.{Tree}
use Rattle.rx_term.specs.Store.{Store, tree_at}
use Rattle.rx_term.specs.declared.Term.{Term}
use Rattle.rx_text.specs.Verdict.{Verdict, TooLong, Outside, Spelt, IsVerdict}
use Rattle.rx_text.proofs.VerdictLemmas.{one_verdict}
use Rattle.rx_pattern.specs.Pattern.{unfit}
use Rattle.rx_run.specs.Due.{Due, done}
use Rattle.rx_run.specs.Refusals.{refusal_due, refused_text}
use Rattle.rx_run.specs.TermRuns.{IsReadingOf}
use Rattle.rx_run.specs.PatternRuns.{IsDueOfBoth, OneDueOfBoth, SpellsPattern, due_of_pattern, unless_unfit, due_of_args}
use Rattle.rx_run.specs.Inner.PatternAnswers.{IsPatternOf, IsPatternRead}
use Rattle.rx_run.specs.declared.ending.Finish.TheVariants as finish
use Rattle.rx_run.specs.declared.ending.Source.{Source}
use Rattle.rx_run.specs.declared.ending.Source.TheVariants as source
use Rattle.rx_run.specs.declared.refusal.Reading.{Reading}
use Rattle.rx_run.specs.declared.refusal.Reading.TheVariants.{Refused, Good}
use Rattle.rx_run.specs.declared.refusal.Refusal.{Refusal}
use Rattle.rx_run.proofs.TermDueLemmas.{same_verdict}
use Rattle.rx_run.proofs.WholeRunLemmas.{same_refusal}

-- of what a call gives
pub if_ok_map : {X E : Type 0} (r : Result X E) (P Q : X → Type 0) → ((x : X) → P x → Q x) → IfOk r P → IfOk r Q
if_ok_map (Ok x) P Q f h = f x h
if_ok_map (Err e) P Q f h = tt

module _ (due : Verdict → Verdict → Due) where
  pub same_due : (first second : List ℕ) (d e : Due) → IsDueOfBoth due first second d → IsDueOfBoth due first second e → d ≡ e
  same_due first second d e h k =
      h.due_is ∙ ap (λ v. due v h.on_second) (same_verdict first h.on_first k.on_first h.first_is k.first_is)
      ∙ ap (due k.on_first) (same_verdict second h.on_second k.on_second h.second_is k.second_is) ∙ sym k.due_is

  some_due : (first second : List ℕ) → (d : Due) × IsDueOfBoth due first second d
  some_due first second =
      let v = one_verdict first in let w = one_verdict second in
      (due v.0 w.0, record { on_first = v.0; on_second = w.0; first_is = v.1; second_is = w.1; due_is = refl })

  pub one_due_of_both : OneDueOfBoth due
  one_due_of_both = record { some = some_due; one = same_due }

-- what comes after a pattern, by the verdict on the second text
module _ (after : Tree → Verdict → Due) where
  abbrev both : Verdict → Verdict → Due
  both pattern second = due_of_pattern (λ p. after p second) pattern

  -- the pattern is refused, whatever the second text is
  pub refused_both : (known : Option (List ℕ)) (text : List ℕ) (r : Refusal) → IsPatternRead text (Refused r)
      → IfSome known (λ bytes. IsDueOfBoth both text bytes (refusal_due r))
  refused_both None text r h = tt
  refused_both (Some bytes) text r (v, (is, e)) =
      let w = one_verdict bytes in
      record { on_first = v; on_second = w.0; first_is = is; second_is = w.1; due_is = sym (e (λ p. after p w.0)) }

  -- the pattern is good
  pub good_both : (known : Option (List ℕ)) (text : List ℕ) (p : Tree) (a : Due) → SpellsPattern text p
      → IfSome known (λ bytes. (v : Verdict) × (IsVerdict bytes v × (a ≡ after p v))) → IfSome known (λ bytes. IsDueOfBoth both text bytes a)
  good_both None text p a s h = tt
  good_both (Some bytes) text p a s (v, (is, e)) =
      record { on_first = Spelt p; on_second = v; first_is = s.spelt; second_is = is; due_is = e ∙ sym (ap (λ o. unless_unfit o (after p v)) s.fit) }

-- a pattern's text that spells no tree
pub unspelt_pattern : (text : List ℕ) (r : Refusal) (v : Verdict) → refused_text source.Pattern v ≡ Some r → IsVerdict text v → IsPatternRead text (Refused r)
unspelt_pattern text r TooLong e h = (TooLong, (h, λ next. sym (ap refusal_due (same_refusal e))))
unspelt_pattern text r (Outside at) e h = (Outside at, (h, λ next. sym (ap refusal_due (same_refusal e))))
unspelt_pattern text r (Spelt t) e h = absurd (cc e)

-- a pattern's text that spells a tree
pub spelt_pattern : (from : Source) (w : Store) (text : List ℕ) (t : Term) (v : Verdict) (r : Reading Tree) → IsReadingOf from w (Good t) v
    → IsVerdict text v → ((u : Tree) → tree_at w t ≡ Some u → IsPatternOf u r) → IsPatternRead text r
spelt_pattern from w text t v (Refused r) (u, here, e) h of = (v, (h, λ next. ap (due_of_pattern next) e ∙ of u here (next u)))
spelt_pattern from w text t v (Good p) (u, here, e) h of =
    let k = of u here in
    record {
      spelt = subst (IsVerdict text) (e ∙ ap Spelt (sym k.0)) h;
      fit = ap unfit k.0 ∙ k.1;
    }

-- a text that spells a tree, by what is due after its verdict
pub spelt_due : (after : Verdict → Due) (from : Source) (w : Store) (t : Term) (v : Verdict) → IsReadingOf from w (Good t) v → (a : Due)
    → ((u : Tree) → tree_at w t ≡ Some u → a ≡ after (Spelt u)) → a ≡ after v
spelt_due after from w t v (u, here, e) a of = of u here ∙ sym (ap after e)

-- arguments that spell no tree
pub unspelt_args : (p : Tree) (r : Refusal) (v : Verdict) → refused_text source.Args v ≡ Some r → refusal_due r ≡ due_of_args p v
unspelt_args p r TooLong e = ap refusal_due (same_refusal e)
unspelt_args p r (Outside at) e = ap refusal_due (same_refusal e)
unspelt_args p r (Spelt t) e = absurd (cc e)

-- what is due by the verdict on what was read is so by that on the text
pub due_read : (known : Option (List ℕ)) (a : Due) (after : Verdict → Due) (v : Verdict) → IfSome known (λ bytes. IsVerdict bytes v) → a ≡ after v
    → IfSome known (λ bytes. (w : Verdict) × (IsVerdict bytes w × (a ≡ after w)))
due_read None a after v h e = tt
due_read (Some bytes) a after v h e = (v, (h, e))

-- a text that is refused as a pattern spells none
pub no_pattern : (text : List ℕ) (r : Refusal) → IsPatternRead text (Refused r) → (p : Tree) → SpellsPattern text p → ⊥
no_pattern text r (v, (is, due)) p spelt =
    let none : unless_unfit (unfit p) (done []) ≡ refusal_due r =
    subst (λ z. due_of_pattern (λ q. done []) z ≡ refusal_due r) (same_verdict text v (Spelt p) is spelt.spelt) (due (λ q. done [])) in
    let fit : unless_unfit None (done []) ≡ refusal_due r = subst (λ z. unless_unfit z (done []) ≡ refusal_due r) spelt.fit none in
    let ends : finish.Done ≡ finish.Refused = ap (λ (d : Due). d.finish) fit in
    cc
