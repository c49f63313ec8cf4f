use Rattle.std.proofs.Common.{arith, sym, subst, ◌<◌, ◌≡◌, ◌+◌}
use Rattle.std.specs.Prelude.{get_or, All}
use Rattle.std.proofs.lemmas.List.{get_or_default}
use Rattle.rec_match.proofs.SkipLemmas as skip
use Rattle.rec_check.proofs.rewriting.Rewriter.of.Goals as goal

pub chain-requires : goal.chain-requires
chain-requires c =
    subst (λ xs. All (λ k. k < c.symbols.result) xs) (sym c.deref.ensures.value)
    (λ k d lt. (let fs = c.in_ok-heads.heads.items in let h = c.in_ok-heads.ensures in let l = h.counted in let e = c.symbols.ensures in
    let b = (h.each k skip.no_rule (omega (arith, lt, l))).declared in let q : get_or fs k d ≡ get_or fs k 0 = get_or_default fs k d 0 lt in
    omega (arith, b, e, q)))

pub chain-requires-2 : goal.chain-requires-2
chain-requires-2 c =
    subst (λ xs. All (λ k. k < c.symbols-2.result + 1) xs) (sym c.deref-2.ensures.value)
    (λ i d lt. (let ks = c.in_ok-classes.classes.items in let h = c.in_ok-classes.ensures in let l = h.counted in let e = c.symbols-2.ensures in
    let b = (h.each i skip.no_rule (omega (arith, lt, l))).within in let q : get_or ks i d ≡ get_or ks i 0 = get_or_default ks i d 0 lt in
    omega (arith, b, e, q)))
