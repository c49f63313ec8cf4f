use Rattle.std.proofs.Common.{◌≡◌, Some, ap, sym, ◌∙◌}
use Rattle.rx_term.specs.Steps.{with_count}
use Rattle.rx_term.specs.declared.Term.{Term}
use Rattle.rec_run.proofs.EvaluatedLemmas.{protects}
use Rattle.rec_run.proofs.spec.evaluated.engine_over.Goals as goal
use Rattle.rec_run.proofs.spec.evaluated.engine_over.Goals.{in-Some, in_default}

pub returns-in-Ok-clause-protected : goal.returns-in-Ok-clause-protected
returns-in-Ok-clause-protected g c =
    let old = g.B.TermBank.store c.args.bank in
    let new = g.B.TermBank.store c.in-Ok.engine.bank in
    elim c.match-list.branch [
      | in-Some w ↦ (λ (x : Term) (e : c.args.list ≡ Some x). (
          let same : w.in-Some.list ≡ x = (let k : Some w.in-Some.list ≡ Some x = sym w.in-Some.is ∙ e in cc k) in
          protects c.args.checked.spec old (g.B.TermBank.store c.match-list.bank) new x (c.requires.given x e)
          (ap (g.B.TermBank.store) w.bank-is ∙ w.protect.ensures ∙ ap (λ (t : Term). with_count old t 1) same) c.in-Ok.ensures.store))
      | in_default w ↦ (λ (x : Term) (e : c.args.list ≡ Some x). absurd (w.in_default.not-Some x e))
    ]
