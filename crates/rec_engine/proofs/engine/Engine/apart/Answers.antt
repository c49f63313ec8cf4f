use Rattle.std.proofs.Common.{refl, ap, subst, []}
use Rattle.rx_term.proofs.KeepLemmas.{Keeps-refl}
use Rattle.rec_engine.specs.declared.heap.pace.Pace.{Pace}
use Rattle.rec_engine.specs.Turn.{Ready}
use Rattle.rec_engine.proofs.KnownConstantLemmas.{known-same}
use Rattle.rec_engine.proofs.StayLemmas.{ready-kept}
use Rattle.rec_engine.proofs.engine.Engine.apart.Goals as goal

pub returns-clause-fits : goal.returns-clause-fits
returns-clause-fits g c =
    let m = c.self.inside.machine in
    let w = g.B.TermBank.store m.heap.bank in
    let p = m.heap.pace in
    let pace : Pace = record { due = p.due; constants = p.constants; memo = p.memo; ledger = c.grow.new.self } in
    record {
      ready = subst (λ b. Ready m.checked.spec m.code (g.B.TermBank.store b) pace) (ap (λ e. e.bank) c.self.view_is)
          (ready-kept c.self.invariant.1 (Keeps-refl w []) (known-same w p pace refl refl));
    }
