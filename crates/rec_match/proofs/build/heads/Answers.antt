use Rattle.std.proofs.Common.{arith, sym, ap, subst, ◌∙◌, ◌<◌, ◌≡◌, length, length-append, inl, inr}
use Rattle.std.specs.Prelude.{ℕ, ◌+◌, ◌≢◌, ◌⊎◌, get_or, List, [], ◌∷◌, ◌++◌}
use Rattle.std.proofs.lemmas.Bool.{cases_eq}
use Rattle.rec_syntax.specs.Syntax.{Rule, Spec}
use Rattle.rec_sorts.specs.Numbering.{IsLetterRule}
use Rattle.rec_match.specs.Inner.Built.{IsHead}
use Rattle.rec_match.proofs.ItemLemmas.{get-front, get-last}
use Rattle.rec_match.proofs.LetterLemmas.{pair-long}
use Rattle.rec_match.proofs.build.heads.Goals as goal

more : (y : Spec) (fs fs' : List ℕ) (n k : ℕ) → length fs ≡ n → ((i : ℕ) (r : Rule) → i < n → IsHead y (get_or y.rules i r) (get_or fs i 0))
    → fs' ≡ fs ++ k ∷ [] → ((r : Rule) → IsHead y (get_or y.rules n r) k)
    → (i : ℕ) (r : Rule) → i < n + 1 → IsHead y (get_or y.rules i r) (get_or fs' i 0)
more y fs fs' n k long each e own i r lt = by (cases_eq i n)
  where
    by : (i ≡ n) ⊎ (i ≢ n) → IsHead y (get_or y.rules i r) (get_or fs' i 0)
    by (inl q) = subst (λ j. IsHead y (get_or y.rules j r) (get_or fs' j 0)) (sym q)
        (subst (IsHead y (get_or y.rules n r)) (sym (ap (λ xs. get_or xs n 0) e ∙ get-last fs k n 0 (sym long))) (own r))
    by (inr d) =
        let below : i < n = omega (arith, lt, d) in
        subst (IsHead y (get_or y.rules i r)) (sym (ap (λ xs. get_or xs i 0) e ∙ get-front fs k i 0 (omega (arith, below, long)))) (each i r below)

pub loop-rule-preserved : goal.loop-rule-preserved
loop-rule-preserved c = record {
  counted = (let i = c.loop-rule.invariant.counted in let e = ap length c.in_ok-push.ensures.items
      ∙ length-append c.loop-rule.symbols.items (c.head.result ∷ []) in omega (arith, i, e));
  each = more c.args.checked.now.spec c.loop-rule.symbols.items c.push.new.self.items c.loop-rule.rule c.head.result c.loop-rule.invariant.counted
      c.loop-rule.invariant.each c.in_ok-push.ensures.items c.head.ensures;
}

pub returns : goal.returns
returns c =
    let l = pair-long (IsLetterRule c.args.checked.now.spec) c.rules-rules.result.now c.args.checked.now.spec.rules c.rules-rules.ensures.letters in
    let t = c.loop-rule-test.false in
    let i = c.loop-rule.invariant in
    let counted = i.counted in
    let end : c.loop-rule.rule ≡ length c.args.checked.now.spec.rules = (let q = c.loop-rule.auto.rule-end in omega (arith, t, q, l)) in
    record { counted = omega (arith, counted, end); each = λ j r h. i.each j r (omega (arith, h, end)) }
