use Rattle.std.proofs.Common.{rules, arith}
use Rattle.rec_sorts.proofs.LinkLemmas.{has-more, linked-next, linked-differ}
use Rattle.rec_sorts.proofs.links.linked_symbols.Goals as goal

pub returns-in_err-map_err-clause-same : goal.returns-in_err-map_err-clause-same
returns-in_err-map_err-clause-same g c =
    has-more c.args.checked.now.spec (g.B.TermBank.store c.args.bank.now) (g.B.TermBank.store c.loop-number.bank)
    (g.B.TermBank.store c.symbol.new.self) c.loop-number.symbols.items c.loop-number.number _ _ c.loop-number.invariant c.in_ok-symbol.ensures

pub loop-number-preserved : goal.loop-number-preserved
loop-number-preserved g c =
    let lt = c.symbols-number-end.ensures in
    linked-next c.args.checked.now.spec (g.B.TermBank.store c.args.bank.now) (g.B.TermBank.store c.loop-number.bank)
    (g.B.TermBank.store c.symbol.new.self) c.loop-number.symbols.items c.push.new.self.items c.loop-number.number _ c.in_ok-symbol.symbol
    c.loop-number.invariant (let t = c.loop-number-test.true in omega (arith, t, lt)) c.in_ok-symbol.ensures (search rules) (search rules)

pub returns-clause-differ : goal.returns-clause-differ
returns-clause-differ g c =
    linked-differ c.args.checked.now.spec (g.B.TermBank.store c.args.bank.now) (g.B.TermBank.store c.loop-number.bank) c.loop-number.symbols.items
    c.loop-number.number c.syntax-kept.ensures.kept c.loop-number.invariant
