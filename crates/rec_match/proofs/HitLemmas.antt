-- What the trees of a symbol find is what the matcher finds.
use Rattle.std.proofs.Common.{refl, ap, subst, drop, length}
use Rattle.std.specs.Prelude.{ℕ, ◌≡◌, ◌-◌, List, [], Some, None, Option, Result, Ok, Err, IfOk}
use Rattle.rx_term.specs.Store.{Store}
use Rattle.rx_term.specs.declared.Term.{Term}
use Rattle.rec_match.specs.Forests.{Runs, RunsOn, GlancesOn, NoneBefore, values_among}
use Rattle.rec_match.specs.declared.forest.Glance.{Glance}
use Rattle.rec_match.specs.declared.forest.Glance.TheVariants.{Found, Left}
use Rattle.rec_match.specs.Matching.{CanFind, FindsOn, Glances, first_rule}
use Rattle.rec_match.specs.declared.forest.Hit.{Hit}
use Rattle.rec_match.specs.declared.matcher.Matcher.{Matcher}
use Rattle.rec_match.proofs.TreeAnswerLemmas.{FoundFor, trees-find, found-runs, found-all}

module _ (w : Store) (m : Matcher) (k n at least : ℕ) (old new : List Term) (first : ℕ) (can : CanFind w m k n at old) (ef : first ≡ length old - n)
    (change : (args bind : List Term) (found : Option ℕ) → Runs w m.forest k least args bind found → FoundFor w m k at args bind found) where
  -- what the trees of a symbol find
  rule-finds : (hit : Hit) → RunsOn w m.forest k least first old new (Some hit) → FindsOn w m first at old new (Some hit)
  rule-finds hit runs =
      let values : List Term = values_among m.forest first new hit.values in (
        runs.0,
        trees-find w m k n at old (drop first old) values (Some hit.rule) can (ap (λ j. drop j old) ef)
            (change (drop first old) values (Some hit.rule) runs.1),
        runs.2,
      )

  none-finds : Runs w m.forest k least (drop first old) [] None → new ≡ old → FindsOn w m first at old new None
  none-finds runs same =
      (trees-find w m k n at old (drop first old) [] None can (ap (λ j. drop j old) ef) (change (drop first old) [] None runs), same)

  finds-there : {E : Type 0} (r : Result (Option Hit) E) → IfOk r (RunsOn w m.forest k least first old new) → IfOk r (λ found. found ≡ None → new ≡ old)
      → IfOk r (FindsOn w m (length old - n) at old new)
  finds-there r runs same = subst (λ j. IfOk r (FindsOn w m j at old new)) ef (by r runs same)
    where
      by : {E : Type 0} (r : Result (Option Hit) E) → IfOk r (RunsOn w m.forest k least first old new) → IfOk r (λ found. found ≡ None → new ≡ old)
          → IfOk r (FindsOn w m first at old new)
      by (Err e) runs same = tt
      by (Ok None) runs same = none-finds runs (same refl)
      by (Ok (Some hit)) runs same = rule-finds hit runs

module _ (w : Store) (m : Matcher) (k n : ℕ) (old new : List Term) (first : ℕ) {E : Type 0} (r : Result (Option Hit) E) where
  pub run-finds : (at : ℕ) → CanFind w m k n at old → first ≡ length old - n → IfOk r (RunsOn w m.forest k at first old new)
      → IfOk r (λ found. found ≡ None → new ≡ old) → IfOk r (FindsOn w m (length old - n) at old new)
  run-finds at can ef runs same = finds-there w m k n at at old new first can ef (found-runs w m k at) r runs same

  pub all-finds : CanFind w m k n (first_rule m k) old → first ≡ length old - n → IfOk r (RunsOn w m.forest k 0 first old new)
      → IfOk r (λ found. found ≡ None → new ≡ old) → IfOk r (FindsOn w m (length old - n) (first_rule m k) old new)
  all-finds can ef runs same = finds-there w m k n (first_rule m k) 0 old new first can ef (found-all w m k) r runs same

-- what a look at the first tree finds
pub glance-finds : (w : Store) (m : Matcher) (k n : ℕ) (old new : List Term) (first : ℕ) {E : Type 0} (r : Result Glance E)
    → CanFind w m k n (first_rule m k) old → first ≡ length old - n → IfOk r (GlancesOn w m.forest k first old new) → IfOk r (Glances w m k n old new)
glance-finds w m k n old new first (Err e) can ef h = tt
glance-finds w m k n old new first (Ok (Found hit)) can ef h = subst (λ j. FindsOn w m j (first_rule m k) old new (Some hit)) ef
    (rule-finds w m k n (first_rule m k) 0 old new first can ef (found-all w m k) hit h)
glance-finds w m k n old new first (Ok (Left i)) can ef h = (subst (λ j. NoneBefore w m.forest k 0 (drop j old) i) ef h.0, h.1)
