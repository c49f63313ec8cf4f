use Rattle.std.proofs.Common.{ℕ, ◌≡◌, ◌+◌, ◌-◌, ◌≤◌, ◌<◌, ◌++◌, ◌∷◌, [], List, arith, get_or, drop, length, take, ap, sym, ◌∙◌, append_assoc, length-drop}
use Rattle.std.proofs.lemmas.List.{take_more, get_or-drop, get_or_append_left}
use Rattle.rx_term.specs.declared.Term.{Term}
use Rattle.rec_engine.proofs.heap.work.repeat.Goals as goal

-- one more of what stands from a place on is on top
repeats-more : (old now new : List Term) (from i : ℕ) (t : Term) → from ≤ i → i < length old → now ≡ old ++ take (i - from) (drop from old)
    → t ≡ get_or now i t → new ≡ now ++ t ∷ [] → new ≡ old ++ take (i + 1 - from) (drop from old)
repeats-more old now new from i t le lt e is pushed =
    pushed ∙ ap (λ xs. xs ++ t ∷ []) e ∙ append_assoc old (take (i - from) (drop from old)) (t ∷ [])
    ∙ ap (λ u. old ++ (take (i - from) (drop from old) ++ u ∷ [])) same
    ∙ ap (λ xs. old ++ xs) (sym (take_more (drop from old) (i - from) t (let l = length-drop from old in omega (arith, l, lt, le))))
    ∙ ap (λ n. old ++ take n (drop from old)) (let k : i - from + 1 ≡ i + 1 - from = omega (arith, le) in k)
  where
    there : from + (i - from) ≡ i
    there = omega (arith, le)

    same : t ≡ get_or (drop from old) (i - from) t
    same = is ∙ ap (λ xs. get_or xs i t) e ∙ get_or_append_left old (take (i - from) (drop from old)) t i lt ∙ ap (λ n. get_or old n t) (sym there)
        ∙ sym (get_or-drop from old (i - from) t)

pub loop-i-preserved : goal.loop-i-preserved
loop-i-preserved c =
    let l = c.loop-i in
    repeats-more c.args.work.now.items l.work.items c.push.new.work.items c.args.from l.i c.index-t.result.now (omega (arith, l.auto.i)) (let few =
    c.loop-i-test.true in let long = c.len-i-end.ensures ∙ c.args.work.now.ok.0 in omega (arith, few, long)) l.invariant c.index-t.ensures
    c.in_ok-push.ensures.pushed
