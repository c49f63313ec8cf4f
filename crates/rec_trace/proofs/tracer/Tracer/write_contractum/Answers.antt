use Rattle.std.proofs.Common.{ap, subst, sym, ◌≡◌, ◌∙◌}
use Rattle.std.specs.Prelude.{Option, Some}
use Rattle.rx_term.specs.Store.{tree_at}
use Rattle.rx_term.specs.Tree.{Tree}
use Rattle.rec_match.specs.Next.{Answers, IsAnswer}
use Rattle.rec_trace.specs.Tracing.{Rewrites}
use Rattle.rec_trace.proofs.RewriteLemmas.{IsApart, IsWritten, apart-can, apart-spread, if-ok, is-apart}
use Rattle.rec_trace.proofs.tracer.Tracer.write_contractum.Given as given
use Rattle.rec_trace.proofs.tracer.Tracer.write_contractum.Goals.{After-deref, In_ok-give, In_ok-spread}
use Rattle.rec_trace.proofs.tracer.Tracer.write_contractum.Goals as goal

-- the redex stands alone
apart : (g : given.Over) (c : In_ok-give g) → IsApart c.give.new.self c.args.redex
apart g c = is-apart c.give.new.self c.of_steps-apart.result c.new.result c.args.redex c.new.ensures.items c.of_steps-apart.ensures.steps
    c.of_steps-apart.ensures.values c.give.ensures.steps c.in_ok-give.ensures.values

-- what the matcher answers
answer : (g : given.Over) (c : After-deref g) → IsAnswer c.args.engine.now.spec (g.B.TermBank.store c.args.engine.now.bank) c.args.redex c.args.rule
    c.deref.result.now c.in-Ok.field-0
answer g c =
    let answers = subst (λ b. Answers (g.B.TermBank.store b) c.matcher.result.now c.args.redex c.args.rule c.next_on-found.new.bind.items c.in-Ok.field-0)
    c.bank.ensures c.in-Ok.ensures.answers in
    subst (λ vs. IsAnswer c.args.engine.now.spec (g.B.TermBank.store c.args.engine.now.bank) c.args.redex c.args.rule vs c.in-Ok.field-0)
    (sym c.deref.ensures) (answers c.args.engine.now.spec c.matcher.ensures)

-- what the row writes down, by any tree that the rule makes of the redex
wrote : (g : given.Over) (c : In_ok-spread g) → IsApart c.give.new.self c.args.redex
    → IsAnswer c.args.engine.now.spec (g.B.TermBank.store c.args.engine.now.bank) c.args.redex c.args.rule c.deref.result.now c.in-Ok.field-0
    → (u v : Tree) → tree_at (g.B.TermBank.store c.args.engine.now.bank) c.args.redex ≡ Some u → Rewrites c.args.engine.now.spec c.args.rule u v
    → IsWritten c.args.engine.now.spec (g.B.TermBank.store c.args.engine.now.bank) c.spread.new.self v
wrote g c alone answers u v redex_at rewrites =
    apart-spread c.args.engine.now.spec (g.B.TermBank.store c.args.engine.now.bank) c.give.new.self c.args.redex c.args.rule c.deref.result.now
    c.in-Ok.field-0 u v alone redex_at rewrites answers c.spread.new.self c.in_ok-spread.ensures.spread

pub spread-requires-clause-can : goal.spread-requires-clause-can
spread-requires-clause-can g c =
    let at = goal.at.spread-requires-clause-can g c in
    apart-can c.args.engine.now.spec (g.B.TermBank.store c.args.engine.now.bank) c.give.new.self c.args.redex c.args.rule c.deref.result.now
    c.in-Ok.field-0 c.requires.redex.0 c.requires.redex.1 (apart g at.In_ok-give) c.requires.redex.2 c.requires.redex.3 (answer g at.After-deref)

pub write-requires-clause-row : goal.write-requires-clause-row
write-requires-clause-row g c =
    let q = c.requires.redex in
    let at = goal.at.write-requires-clause-row g c in
    (wrote g at.In_ok-spread (apart g at.In_ok-give) (answer g at.After-deref) q.0 q.1 q.2 q.3).row

pub write-requires-clause-fits : goal.write-requires-clause-fits
write-requires-clause-fits g c =
    let q = c.requires.redex in
    let at = goal.at.write-requires-clause-fits g c in
    (wrote g at.In_ok-spread (apart g at.In_ok-give) (answer g at.After-deref) q.0 q.1 q.2 q.3).fits

pub returns-clause-contractum : goal.returns-clause-contractum
returns-clause-contractum g c =
    let at = goal.at.returns-clause-contractum g c in
    if-ok c.write.result
    (λ t is u v redex_at rewrites. is ∙ ap (λ x. let o : Option Tree = Some x in o)
    (wrote g at.In_ok-spread (apart g at.In_ok-give) (answer g at.After-deref) u v redex_at rewrites).tree)
    c.write.ensures.written
