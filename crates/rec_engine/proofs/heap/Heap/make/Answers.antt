use Rattle.std.proofs.Common.{IsSome, List, Contains, subst, sym, ◌∙◌}
use Rattle.rx_term.specs.Walks.{AllHeld}
use Rattle.rx_term.specs.declared.Term.{Term}
use Rattle.rec_engine.specs.Cells.{MakesFor, StandsIn}
use Rattle.rec_engine.proofs.HeapLemmas.{keeping-trans}
use Rattle.rec_engine.proofs.KeptNodeLemmas.{kept-built}
use Rattle.rx_term.proofs.KeepLemmas.{still-held}
use Rattle.rec_engine.proofs.heap.Heap.make.Goals as goal

pub make_anyway-requires-clause-node : goal.make_anyway-requires-clause-node
make_anyway-requires-clause-node g c =
    subst IsSome (sym (kept-built c.reclaim_if_due.ensures.kept.keeps c.requires.held c.args.node c.requires.parts)) c.requires.node

pub make_anyway-requires-clause-held : goal.make_anyway-requires-clause-held
make_anyway-requires-clause-held g c = subst (AllHeld (g.B.TermBank.store c.reclaim_if_due.new.self.bank)) (sym c.reclaim_if_due.ensures.same)
    (still-held c.reclaim_if_due.ensures.kept.keeps c.requires.held)

pub make_anyway-requires-clause-parts : goal.make_anyway-requires-clause-parts
make_anyway-requires-clause-parts g c = subst (λ xs. StandsIn xs c.args.node) (sym c.reclaim_if_due.ensures.same) c.requires.parts

pub returns-clause-kept : goal.returns-clause-kept
returns-clause-kept g c = keeping-trans c.reclaim_if_due.ensures.kept c.make_anyway.ensures.kept
    (λ t h. subst (λ (xs : List Term). Contains xs t) (sym c.reclaim_if_due.ensures.same) h)

pub returns-clause-same : goal.returns-clause-same
returns-clause-same g c = c.make_anyway.ensures.same ∙ c.reclaim_if_due.ensures.same

pub returns-clause-makes : goal.returns-clause-makes
returns-clause-makes g c =
    let new = c.make_anyway.new.self in
    subst (λ o. MakesFor (g.B.TermBank.store new.bank) new.work.items new.pace.memo o c.make_anyway.result)
    (kept-built c.reclaim_if_due.ensures.kept.keeps c.requires.held c.args.node c.requires.parts) c.make_anyway.ensures.makes
