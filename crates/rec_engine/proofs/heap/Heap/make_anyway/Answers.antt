use Rattle.std.proofs.Common.{IsSome, Ok, Err, refl, subst, sym, ◌∙◌}
use Rattle.rx_term.specs.Steps.{Reclaims, Refuses}
use Rattle.rec_engine.specs.Cells.{built}
use Rattle.rec_engine.proofs.HeapLemmas.{keeping-trans, keeping-made, keeping-after-refusal}
use Rattle.rec_engine.proofs.KnownConstantLemmas.{known-forgotten}
use Rattle.rec_engine.proofs.KeptNodeLemmas.{kept-built}
use Rattle.rx_term.proofs.KeepLemmas.{Keeps-after-refusal, Keeps-Refuses, Keeps-trans, exhausted, still-held}
use Rattle.rec_engine.proofs.heap.Heap.make_anyway.Goals as goal

pub returns-in-Ok-clause-kept : goal.returns-in-Ok-clause-kept
returns-in-Ok-clause-kept g c = keeping-made (g.B.TermBank.store c.args.self.now.bank) (g.B.TermBank.store c.make_once.new.bank) _
    (Ok c.in-Ok.t) c.args.self.now.work.items c.args.self.now.pace c.in-Ok.ensures

pub returns-in-Err-Memory-clause-kept : goal.returns-in-Err-Memory-clause-kept
returns-in-Err-Memory-clause-kept g c = keeping-made (g.B.TermBank.store c.args.self.now.bank) (g.B.TermBank.store c.make_once.new.bank) _
    (Err c.in-Err-Memory.field-0) c.args.self.now.work.items c.args.self.now.pace c.in-Err-Memory.ensures

pub make_apart-requires : goal.make_apart-requires
make_apart-requires g c =
    let mid = g.B.TermBank.store c.make_once.new.bank in
    let now = g.B.TermBank.store c.reclaim.new.bank in
    let k = Keeps-after-refusal c.in-Err-Full.ensures (subst (Reclaims mid now) c.deref.ensures.value c.reclaim.ensures.reclaims) in
    subst IsSome (sym (kept-built k c.requires.held c.args.node c.requires.parts)) c.requires.node

pub returns-in-Ok-make_apart-clause-kept : goal.returns-in-Ok-make_apart-clause-kept
returns-in-Ok-make_apart-clause-kept g c =
    let mid = g.B.TermBank.store c.make_once.new.bank in
    let now = g.B.TermBank.store c.reclaim.new.bank in
    let new = g.B.TermBank.store c.make_apart.new.bank in
    let k = keeping-after-refusal c.in-Err-Full.ensures (subst (Reclaims mid now) c.deref.ensures.value c.reclaim.ensures.reclaims)
    c.reclaim.ensures.known in
    keeping-trans k (keeping-made now new _ (Ok c.in-Ok-make_apart.t) c.args.self.now.work.items c.reclaim.new.self c.in-Ok-make_apart.ensures)
    (λ t h. h)

pub returns-in-Err-Memory-make_apart-clause-kept : goal.returns-in-Err-Memory-make_apart-clause-kept
returns-in-Err-Memory-make_apart-clause-kept g c =
    let mid = g.B.TermBank.store c.make_once.new.bank in
    let now = g.B.TermBank.store c.reclaim.new.bank in
    let new = g.B.TermBank.store c.make_apart.new.bank in
    let k = keeping-after-refusal c.in-Err-Full.ensures (subst (Reclaims mid now) c.deref.ensures.value c.reclaim.ensures.reclaims)
    c.reclaim.ensures.known in
    keeping-trans k (keeping-made now new _ (Err c.in-Err-Memory-make_apart.field-0) c.args.self.now.work.items c.reclaim.new.self
    c.in-Err-Memory-make_apart.ensures) (λ t h. h)

pub returns-in-Err-Full-make_apart-clause-kept : goal.returns-in-Err-Full-make_apart-clause-kept
returns-in-Err-Full-make_apart-clause-kept g c =
    let mid = g.B.TermBank.store c.make_once.new.bank in
    let now = g.B.TermBank.store c.reclaim.new.bank in
    let new = g.B.TermBank.store c.make_apart.new.bank in
    let k = keeping-after-refusal c.in-Err-Full.ensures (subst (Reclaims mid now) c.deref.ensures.value c.reclaim.ensures.reclaims)
    c.reclaim.ensures.known in
    let both = keeping-trans k (keeping-made now new _ (Err c.in-Err-Full-make_apart.field-0) c.args.self.now.work.items c.reclaim.new.self
    c.in-Err-Full-make_apart.ensures) (λ t h. h) in
    record { keeps = both.keeps; known = known-forgotten both.known refl c.clear.ensures.empty }

pub returns-in-Ok-make_apart-clause-makes : goal.returns-in-Ok-make_apart-clause-makes
returns-in-Ok-make_apart-clause-makes g c =
    let mid = g.B.TermBank.store c.make_once.new.bank in
    let now = g.B.TermBank.store c.reclaim.new.bank in
    let k = Keeps-after-refusal c.in-Err-Full.ensures (subst (Reclaims mid now) c.deref.ensures.value c.reclaim.ensures.reclaims) in
    c.in-Ok-make_apart.ensures.made ∙ kept-built k c.requires.held c.args.node c.requires.parts

pub returns-in-Err-Full-make_apart-clause-makes : goal.returns-in-Err-Full-make_apart-clause-makes
returns-in-Err-Full-make_apart-clause-makes g c =
    let mid = g.B.TermBank.store c.make_once.new.bank in
    let now = g.B.TermBank.store c.reclaim.new.bank in
    let new = g.B.TermBank.store c.make_apart.new.bank in
    let reclaims = subst (Reclaims mid now) c.deref.ensures.value c.reclaim.ensures.reclaims in
    let k = Keeps-after-refusal c.in-Err-Full.ensures reclaims in
    record {
      held = still-held (Keeps-trans k (Keeps-Refuses c.args.self.now.work.items c.in-Err-Full-make_apart.ensures)) c.requires.held;
      exhausted = exhausted reclaims (subst (λ e. Refuses now new (built now c.args.node) e) c.in-Err-Full-make_apart.field-0-is
          c.in-Err-Full-make_apart.ensures);
      forgotten = c.clear.ensures.empty;
    }
