use Rattle.std.specs.Prelude.{codes, flat_map}
use Rattle.rx_run.specs.TermRuns.{line_at}
use Rattle.rx_run.specs.declared.ending.RunFault.TheVariants.{Write}
use Rattle.rx_run.proofs.ErrorLemmas.{if_err_at}
use Rattle.rx_term.proofs.WalkLemmas.{AllHeld-at}
use Rattle.rx_run.proofs.LineFrontLemmas.{stops_before, stops_write}
use Rattle.rx_run.proofs.PatternLineLemmas.{stops_binding}
use Rattle.rx_run.proofs.pattern.lines.write_bindings.Goals as goal

pub returns-in_err-put-clause-err : goal.returns-in_err-put-clause-err
returns-in_err-put-clause-err g c =
    let w = g.B.TermBank.store c.args.bank.now in
    if_err_at c.from_residual.result _ Write c.from_residual.ensures.1
    (stops_before Write (codes "yes\n") (flat_map (line_at w) c.args.bindings.now) _ _ (stops_write (codes "yes\n") _ _ c.in_err-put.ensures.front))

pub write_line_to-requires : goal.write_line_to-requires
write_line_to-requires g c = record { held = AllHeld-at (g.B.TermBank.store c.args.bank.now) c.args.bindings.now c.loop-i.i _ c.requires.held c.loop-i-test.true }

pub returns-in_err-write_line_to-clause-err : goal.returns-in_err-write_line_to-clause-err
returns-in_err-write_line_to-clause-err g c =
    let w = g.B.TermBank.store c.args.bank.now in
    let f = c.in_err-write_line_to.field-0.0 in
    if_err_at c.from_residual-in_err-write_line_to.result _ f c.from_residual-in_err-write_line_to.ensures.1
    (stops_binding w c.args.bindings.now c.loop-i.i (record { 0 = 0 }) f _ _ _ (g.met.B.TermBank.sound c.args.bank.now) c.requires.held
    c.loop-i-test.true c.loop-i.invariant.0 c.in_err-write_line_to.ensures.err)
