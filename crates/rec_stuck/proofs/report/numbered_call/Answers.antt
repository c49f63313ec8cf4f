use Rattle.std.proofs.Common.{refl, subst, arith}
use Rattle.rx_term.specs.Store.{arity_at}
use Rattle.std.specs.Prelude.{◌≡◌, ◌≤◌, ◌<◌, Some, length}
use Rattle.rec_stuck.proofs.CallLemmas.{a-call, constructor-number}
use Rattle.rec_stuck.proofs.report.numbered_call.Goals as goal

pub returns-then-number-constructors : goal.returns-then-number-constructors
returns-then-number-constructors g c =
    let e = c.args.engine.now in
    let q = c.requires.number in
    let n = c.constructors.ensures in
    let lt = c.if-number-constructors.true in
    let less : c.args.number < length c.checked.result.now.spec.constructors = omega (arith, n, lt) in
    constructor-number e.spec (g.B.TermBank.store e.bank) (g.met.B.TermBank.sound e.bank) q.0 q.1 c.args.t c.args.symbol c.requires.appl
    (Some c.args.number) q.2 c.args.number refl (subst (λ y. c.args.number < length y.constructors) c.checked.ensures less)

pub returns : goal.returns
returns g c =
    let e = c.args.engine.now in
    let q = c.requires.number in
    let n = c.constructors.ensures in
    let lt = c.if-number-constructors.false in
    let more : length c.checked.result.now.spec.constructors ≤ c.args.number = omega (arith, n, lt) in
    a-call e.spec (g.B.TermBank.store e.bank) (g.met.B.TermBank.sound e.bank) q.0 q.1 c.args.t c.args.symbol c.requires.appl (Some c.args.number) q.2
    c.args.number c.arity_of.result refl (subst (λ y. length y.constructors ≤ c.args.number) c.checked.ensures more)
    (subst (λ b. arity_at (g.B.TermBank.store b) c.args.symbol ≡ Some c.arity_of.result) c.bank.ensures c.arity_of.ensures)
