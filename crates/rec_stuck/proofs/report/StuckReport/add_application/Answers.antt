use Rattle.std.proofs.Common.{◌++◌, IsSome, ap, append-nil, subst, sym, ◌∙◌}
use Rattle.std.specs.Prelude.{Option}
use Rattle.rx_term.specs.Store.{tree_at}
use Rattle.rx_term.specs.Walks.{held_tree}
use Rattle.rx_term.specs.declared.Term.{Term}
use Rattle.rx_run.proofs.ErrorLemmas.{on_ok_of}
use Rattle.rec_stuck.specs.Inner.Calls.{IsCallOf}
use Rattle.rec_stuck.specs.Stuck.{stuck_line}
use Rattle.rec_stuck.specs.declared.fitting.Call.{Call}
use Rattle.rec_stuck.proofs.AddLemmas.{line-of-call, no-line}
use Rattle.rec_stuck.proofs.report.StuckReport.add_application.Goals as goal

pub add_call-requires-clause-held : goal.add_call-requires-clause-held
add_call-requires-clause-held g c =
    let w = g.B.TermBank.store c.args.engine.now.bank in
    let k = subst (λ (o : Option Call). IsCallOf c.args.engine.now.spec w c.args.t o) c.in-Some.is c.call_of.ensures in
    subst (λ (t : Term). IsSome (tree_at w t)) (sym k.1) c.requires.held

pub add_call-requires-clause-call : goal.add_call-requires-clause-call
add_call-requires-clause-call g c =
    let w = g.B.TermBank.store c.args.engine.now.bank in
    (subst (λ (o : Option Call). IsCallOf c.args.engine.now.spec w c.args.t o) c.in-Some.is c.call_of.ensures).2

pub returns-in-Some-clause-lines : goal.returns-in-Some-clause-lines
returns-in-Some-clause-lines g c =
    let y = c.args.engine.now.spec in
    let w = g.B.TermBank.store c.args.engine.now.bank in
    let old = c.args.self.now.lines.items in
    let k = subst (λ (o : Option Call). IsCallOf y w c.args.t o) c.in-Some.is c.call_of.ensures in
    on_ok_of c.add_call.result
    (λ h source spots. h source spots ∙ ap (λ (t : Term). old ++ stuck_line source y (held_tree w t)) k.1
    ∙ ap (λ z. old ++ z) (sym (line-of-call source y (held_tree w c.args.t) k.0)))
    c.add_call.ensures.lines

pub returns-in-None-clause-lines : goal.returns-in-None-clause-lines
returns-in-None-clause-lines g c =
    let y = c.args.engine.now.spec in
    let w = g.B.TermBank.store c.args.engine.now.bank in
    let old = c.args.self.now.lines.items in
    let k = subst (λ (o : Option Call). IsCallOf y w c.args.t o) c.in-None.is c.call_of.ensures in
    λ source spots. sym (append-nil old) ∙ ap (λ z. old ++ z) (sym (no-line source y (held_tree w c.args.t) k))
