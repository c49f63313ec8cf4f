use Rattle.std.proofs.Common.{arith, sym, subst, ◌<◌, ◌≡◌, length}
use Rattle.std.specs.Prelude.{ℕ, List, get_or, All}
use Rattle.rec_syntax.specs.Syntax.{Spec}
use Rattle.rec_sorts.specs.Lookup.{symbols}
use Rattle.rec_match.specs.Inner.Built.{AreHeads}
use Rattle.rec_match.specs.Inner.Chains.{AreChains}
use Rattle.rec_match.specs.Inner.Starting.{ChainsRules}
use Rattle.rec_match.specs.declared.chain.Chains.{Chains}
use Rattle.std.proofs.lemmas.List.{get_or_default}
use Rattle.rec_match.proofs.SkipLemmas.{no_rule}
use Rattle.rec_match.proofs.build.rule_chains.Goals as goal

pub chain-requires : goal.chain-requires
chain-requires c =
    subst (λ xs. All (λ k. k < c.symbols.result) xs) (sym c.deref.ensures.value)
    (λ k d lt. (let fs = c.in_ok-symbols.symbols.items in let h = c.in_ok-symbols.ensures in let l = h.counted in let e = c.symbols.ensures in
    let b = (h.each k no_rule (omega (arith, lt, l))).declared in let q : get_or fs k d ≡ get_or fs k 0 = get_or_default fs k d 0 lt in omega (arith, b, e, q)))

-- the chains are those of the rules' symbols
chained : (y : Spec) (fs xs : List ℕ) (n : ℕ) (chains : Chains) → AreHeads y fs → xs ≡ fs → n ≡ length (symbols y) → AreChains xs n chains
    → ChainsRules y chains
chained y fs xs n chains heads same counted are = record {
  symbols_of = fs;
  heads = heads;
  chains = subst (λ k. AreChains fs k chains) counted (subst (λ ks. AreChains ks n chains) same are);
}

pub returns : goal.returns
returns c = chained c.args.checked.now.spec c.in_ok-symbols.symbols.items c.deref.result.now c.symbols.result c.in_ok-chains.chains
    c.in_ok-symbols.ensures c.deref.ensures.value c.symbols.ensures c.in_ok-chains.ensures
