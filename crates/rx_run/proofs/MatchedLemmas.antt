-- Whether a pattern matches, by what its run came to.
use Rattle.std.proofs.Common.{◌≡◌, ℕ, List, get_or, Option, Some, None, IfSome, false, ap, refl, sym, ◌∙◌, arith}
use Rattle.rx_term.specs.Tree.{Tree}
use Rattle.rx_term.specs.Store.{Store}
use Rattle.rx_text.specs.Verdict.{Verdict, TooLong, Outside, Spelt}
use Rattle.rx_pattern.specs.Pattern.{Unfit, Unknown, Annotated, unfit}
use Rattle.rx_pattern.specs.Matching.{matching}
use Rattle.rx_run.specs.Due.{Due, done}
use Rattle.rx_run.specs.PatternRuns.{IsMatchDue, IsMatchedFor, is_match, match_due, match_lines, matched_by, unless_unfit}
use Rattle.rx_run.specs.Inner.PatternAnswers.{answer_due, is_yes}
use Rattle.rx_run.specs.declared.ending.Finish.TheVariants as finish
use Rattle.rx_run.specs.declared.pattern.answer.Answer.{Answer}
use Rattle.rx_run.specs.declared.pattern.answer.Answer.TheVariants.{No, Yes}
use Rattle.rx_run.specs.declared.refusal.Reading.{Reading}
use Rattle.rx_run.specs.declared.refusal.Reading.TheVariants.{Refused, Good}

-- where a refusal is due, the pattern does not match
not_yes : (w : Store) (r : Reading Answer) (d : Due) → answer_due w r ≡ d → d.finish ≡ finish.Refused → is_yes r ≡ false
not_yes w (Refused q) d e f = refl
not_yes w (Good No) d e f = refl
not_yes w (Good (Yes bindings)) d e f = let no : finish.Done ≡ finish.Refused = ap (λ (x : Due). x.finish) e ∙ f in absurd (cc no)

refused_unfit : (o : Option Unfit) (d : Due) → d.finish ≡ finish.Refused → (unless_unfit o d).finish ≡ finish.Refused
refused_unfit (Some Unknown) d f = refl
refused_unfit (Some Annotated) d f = refl
refused_unfit None d f = f

apart : ◌≡◌ {A = ℕ} 110 121 → ⊥
apart e = omega (arith, e)

-- the first byte of what is due
abbrev first_of : Due → ℕ
first_of d = get_or d.text 0 0

-- where lines are due
matched_fit : (w : Store) (r : Reading Answer) (o : Option Unfit) (found : Option (List Tree)) → answer_due w r ≡ unless_unfit o (done (match_lines found))
    → is_yes r ≡ is_match o found
matched_fit w r (Some Unknown) found e = not_yes w r _ e refl
matched_fit w r (Some Annotated) found e = not_yes w r _ e refl
matched_fit w (Refused q) None found e = let no : finish.Refused ≡ finish.Done = ap (λ (x : Due). x.finish) e in absurd (cc no)
matched_fit w (Good No) None None e = refl
matched_fit w (Good No) None (Some ts) e = absurd (apart (ap first_of e))
matched_fit w (Good (Yes bindings)) None None e = absurd (apart (sym (ap first_of e)))
matched_fit w (Good (Yes bindings)) None (Some ts) e = refl

matched_due : (w : Store) (r : Reading Answer) (u v : Verdict) → answer_due w r ≡ match_due u v → is_yes r ≡ matched_by u v
matched_due w r TooLong v e = not_yes w r _ e refl
matched_due w r (Outside at) v e = not_yes w r _ e refl
matched_due w r (Spelt p) TooLong e = not_yes w r _ e (refused_unfit (unfit p) _ refl)
matched_due w r (Spelt p) (Outside at) e = not_yes w r _ e (refused_unfit (unfit p) _ refl)
matched_due w r (Spelt p) (Spelt t) e = matched_fit w r (unfit p) (matching p t) e

-- what both texts came to is whether the pattern matches
pub matched_both : (text : List ℕ) (w : Store) (r : Reading Answer) (known : Option (List ℕ)) → IfSome known (λ bytes. IsMatchDue text bytes (answer_due w r))
    → IsMatchedFor text known (is_yes r)
matched_both text w r None h = tt
matched_both text w r (Some bytes) h = record {
  on_pattern = h.on_first;
  on_input = h.on_second;
  pattern_is = h.first_is;
  input_is = h.second_is;
  matched_is = matched_due w r h.on_first h.on_second h.due_is;
}
