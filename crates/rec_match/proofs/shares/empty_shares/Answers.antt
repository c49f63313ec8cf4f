use Rattle.std.proofs.Common.{refl, subst, sym, arith, get_or, take, [], ◌∷◌, ◌++◌}
use Rattle.std.proofs.lemmas.List.{take_more, take_all}
use Rattle.rec_match.specs.Inner.Shares.{AreShares}
use Rattle.rec_match.proofs.ShareLemmas.{shares_push}
use Rattle.rec_match.proofs.shares.empty_shares.Goals as goal

pub loop-symbol-preserved : goal.loop-symbol-preserved
loop-symbol-preserved c ps r base =
    let i = c.loop-symbol.symbol-index in
    let k = get_or c.args.symbols.now i 0 in
    subst (λ ks. AreShares ps r base ks [] c.push.new.self.items) (sym (take_more c.args.symbols.now i 0 c.loop-symbol-test.true))
    (subst (λ xs. AreShares ps r base (take i c.args.symbols.now ++ k ∷ []) [] xs) (sym c.in_ok-push.ensures.items)
    (shares_push ps r base (take i c.args.symbols.now) c.loop-symbol.shares.items k _ (c.loop-symbol.invariant ps r base) refl c.new.ensures.items))

pub returns : goal.returns
returns c ps r base =
    let t = c.loop-symbol-test.false in
    subst (λ ks. AreShares ps r base ks [] c.loop-symbol.shares.items) (take_all c.loop-symbol.symbol-index c.args.symbols.now (omega (arith, t)))
    (c.loop-symbol.invariant ps r base)
