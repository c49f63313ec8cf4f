use Rattle.std.proofs.Common.{arith, refl, subst, sym}
use Rattle.rec_trace.specs.Inner.Sides.{HasValues}
use Rattle.rec_trace.specs.Inner.Spreading.{top_of}
use Rattle.rec_trace.proofs.FireLemmas.{fired}
use Rattle.rec_trace.proofs.TopLemmas.{is-top}
use Rattle.rec_trace.proofs.tracer.Tracer.fire.Goals as goal

pub returns-clause-fires : goal.returns-clause-fires
returns-clause-fires g c = λ r s match values.
    let y = c.args.engine.now.spec in
    let w = g.B.TermBank.store c.args.engine.now.bank in
    let a = c.args.self.now in
    let within = c.requires.can.4 in
    let top = is-top y w a c.top-redex.result c.requires.order (omega (arith, within)) c.top-redex.ensures in
    fired y w a (record a { row = c.spread.new.self }) r s c.top-redex.result c.requires.order top
    (c.in_ok-spread.ensures.spread r s match (subst (λ bind. HasValues w (top_of a.row) bind s) (sym c.deref.ensures) values))
    c.in_ok-spread.ensures.low refl refl
