use Rattle.std.proofs.Common.{List, Contains, refl, subst, sym}
use Rattle.rx_term.specs.Steps.{Reclaims}
use Rattle.rx_term.specs.Walks.{AllHeld}
use Rattle.rx_term.specs.declared.Term.{Term}
use Rattle.rx_term.proofs.KeepLemmas.{Keeps-fewer, Keeps-Reclaims}
use Rattle.rec_memo.proofs.HandedLemmas.{hands-held}
use Rattle.rec_engine.proofs.HeapLemmas.{keeping-same}
use Rattle.rec_engine.proofs.KnownConstantLemmas.{known-same, known-trans}
use Rattle.rec_engine.proofs.heap.Heap.reclaim_or_wait.Goals as goal

pub returns-then-put_off-clause-kept : goal.returns-then-put_off-clause-kept
returns-then-put_off-clause-kept g c =
    keeping-same (g.B.TermBank.store c.args.self.now.bank) c.args.self.now.work.items c.args.self.now.pace _ refl refl

pub reclaim-requires : goal.reclaim-requires
reclaim-requires g c =
    let w = g.B.TermBank.store c.args.self.now.bank in
    subst (AllHeld w) (sym c.deref-in-Some.ensures.value)
    (hands-held c.in-Some.ensures (subst (AllHeld w) (sym c.deref.ensures.value) c.requires))

pub returns-in-Some-clause-kept : goal.returns-in-Some-clause-kept
returns-in-Some-clause-kept g c =
    let w = g.B.TermBank.store c.args.self.now.bank in
    let w' = g.B.TermBank.store c.reclaim.new.bank in
    let reclaims = subst (Reclaims w w') c.deref-in-Some.ensures.value c.reclaim.ensures.reclaims in
    record {
      keeps = Keeps-fewer (λ t h. c.in-Some.ensures.all t (subst (λ (xs : List Term). Contains xs t) (sym c.deref.ensures.value) h))
          (Keeps-Reclaims reclaims);
      known = known-trans (known-same w c.args.self.now.pace _ refl refl) c.reclaim.ensures.known;
    }

pub returns-in-None-clause-kept : goal.returns-in-None-clause-kept
returns-in-None-clause-kept g c =
    let w = g.B.TermBank.store c.args.self.now.bank in
    let w' = g.B.TermBank.store c.reclaim-in-None.new.bank in
    record {
      keeps = Keeps-Reclaims (subst (Reclaims w w') c.deref-in-None.ensures.value c.reclaim-in-None.ensures.reclaims);
      known = known-trans (known-same w c.args.self.now.pace _ refl refl) c.reclaim-in-None.ensures.known;
    }
