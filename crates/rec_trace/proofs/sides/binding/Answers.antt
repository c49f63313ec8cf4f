use Rattle.std.proofs.Common.{ap, arith, length, subst, sym, ◌∙◌}
use Rattle.std.specs.Prelude.{Contains, List, ℕ}
use Rattle.rec_match.specs.Matching.{FirstAt}
use Rattle.rec_trace.proofs.SideLemmas.{first-here, item-there, match-facts, met-there, value-there, variables-are}
use Rattle.rec_trace.proofs.sides.binding.Goals as goal

pub bounds-bind-i : goal.bounds-bind-i
bounds-bind-i g c =
    let q = c.requires in
    let m = c.matcher.result.now in
    let f = match-facts c.args.engine.now.spec (g.B.TermBank.store c.args.engine.now.bank) m c.args.whole c.args.rule q.2 q.0 q.1 c.args.bind.now
    c.matcher.ensures q.3 q.4 in
    let long = ap (λ (vs : List ℕ). length vs) (variables-are m c.args.rule c.index.result.now f.within c.index.ensures ∙ sym c.deref-v-items.ensures.value) in
    let counted = f.pairs.counted in
    let t = c.loop-i-test.true in
    omega (arith, long, counted, t)

pub returns-then-v-variable-clause-value : goal.returns-then-v-variable-clause-value
returns-then-v-variable-clause-value g c = λ r s u match values.
    let m = c.matcher.result.now in
    let f = match-facts c.args.engine.now.spec (g.B.TermBank.store c.args.engine.now.bank) m c.args.whole c.args.rule u r s c.args.bind.now
    c.matcher.ensures match values in
    let vs = variables-are m c.args.rule c.index.result.now f.within c.index.ensures ∙ sym c.deref-v-items.ensures.value in
    let long = ap (λ (vs : List ℕ). length vs) vs in
    let counted = f.pairs.counted in
    let t = c.loop-i-test.true in
    let first = first-here c.deref-v-items.result.now c.args.variable c.loop-i.i c.loop-i-test.true c.if-v-variable.true c.loop-i.invariant in
    value-there c.args.engine.now.spec (g.B.TermBank.store c.args.engine.now.bank) m c.args.rule r c.args.bind.now s c.args.variable c.loop-i.i _
    c.matcher.ensures.matcher.kept f c.requires.5 (subst (λ xs. FirstAt xs c.args.variable c.loop-i.i) (sym vs) first) (omega (arith, long, counted, t))

pub returns-then-v-variable-clause-among : goal.returns-then-v-variable-clause-among
returns-then-v-variable-clause-among g c =
    let q = c.requires in
    let m = c.matcher.result.now in
    let f = match-facts c.args.engine.now.spec (g.B.TermBank.store c.args.engine.now.bank) m c.args.whole c.args.rule q.2 q.0 q.1 c.args.bind.now
    c.matcher.ensures q.3 q.4 in
    let long = ap (λ (vs : List ℕ). length vs) (variables-are m c.args.rule c.index.result.now f.within c.index.ensures ∙ sym c.deref-v-items.ensures.value) in
    let counted = f.pairs.counted in
    let t = c.loop-i-test.true in
    item-there c.args.bind.now c.loop-i.i _ (omega (arith, long, counted, t))

pub unreachable-requires : goal.unreachable-requires
unreachable-requires g c =
    let q = c.requires in
    let m = c.matcher.result.now in
    let f = match-facts c.args.engine.now.spec (g.B.TermBank.store c.args.engine.now.bank) m c.args.whole c.args.rule q.2 q.0 q.1 c.args.bind.now
    c.matcher.ensures q.3 q.4 in
    let vs = variables-are m c.args.rule c.index.result.now f.within c.index.ensures ∙ sym c.deref-v-items.ensures.value in
    met-there c.deref-v-items.result.now c.args.variable c.loop-i.i
    (subst (λ (xs : List ℕ). Contains xs c.args.variable) vs (f.known c.args.variable q.5 q.6)) c.loop-i-test.false c.loop-i.invariant
