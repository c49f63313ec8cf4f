use Rattle.std.proofs.Common.{ap, sym, subst, set, ◌-◌, ◌∙◌, ◌∷◌, [], Contains, List}
use Rattle.rx_term.specs.declared.Term.{Term}
use Rattle.rec_engine.proofs.EndLemmas.{in-front}
use Rattle.rec_engine.proofs.BuildingLemmas.{head-done, on-top-held}
use Rattle.rec_engine.proofs.heap.Heap.head.Goals as goal

pub returns-clause-held : goal.returns-clause-held
returns-clause-held g c =
    let old = g.B.TermBank.store c.args.self.now.bank in
    let new = g.B.TermBank.store c.make_anyway.new.self.bank in
    let work = c.args.self.now.work.items in
    let n = c.len-count.result in
    let f = c.requires.fits in
    let o = head-done old work f.below f.list f.items c.args.symbol f.signature f.split f.is f.symbol f.counted new _ c.in_ok-term.term
    c.index.result.now n (c.len-count.ensures ∙ c.args.self.now.work.ok.0) c.index.ensures c.in_ok-term.ensures.makes
    (ap (λ xs. set xs (n - 1) c.in_ok-term.term) c.make_anyway.ensures.same) in
    on-top-held old new work f.below _ _ c.make_anyway.ensures.kept.keeps c.requires.held
    (λ t h. subst (λ (xs : List Term). Contains xs t) (sym f.split) (in-front f.below (f.list ∷ []) t h)) o

pub returns-clause-heads : goal.returns-clause-heads
returns-clause-heads g c f =
    let n = c.len-count.result in
    head-done (g.B.TermBank.store c.args.self.now.bank) c.args.self.now.work.items f.below f.list f.items c.args.symbol f.signature f.split
    f.is f.symbol f.counted (g.B.TermBank.store c.make_anyway.new.self.bank) _ c.in_ok-term.term c.index.result.now n
    (c.len-count.ensures ∙ c.args.self.now.work.ok.0) c.index.ensures c.in_ok-term.ensures.makes
    (ap (λ xs. set xs (n - 1) c.in_ok-term.term) c.make_anyway.ensures.same)
