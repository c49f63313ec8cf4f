use Rattle.std.proofs.Common.{◌∙◌, ◌-◌, ◌++◌, ◌∷◌, [], List, set, sym, subst}
use Rattle.rx_term.specs.declared.Term.{Term}
use Rattle.rx_term.specs.Walks.{AllHeld}
use Rattle.rec_engine.specs.Inner.Building.{Links}
use Rattle.rec_engine.proofs.FirstLinkLemmas.{first-held, first-links}
use Rattle.rec_engine.proofs.heap.Heap.link_first.Goals as goal

pub returns-clause-links : goal.returns-clause-links
returns-clause-links g c =
    let old = g.B.TermBank.store c.args.self.now.bank in
    let new = g.B.TermBank.store c.make_anyway.new.self.bank in
    let work = c.args.self.now.work.items in
    let n = c.len-count.result in
    subst (λ xs. Links old new (work ++ c.args.empty ∷ []) (set xs (n - 1) c.in_ok-list.list)) (sym {A = List Term} c.make_anyway.ensures.same)
    (first-links old new work c.args.empty c.index.result.now c.in_ok-list.list n c.requires.held c.requires.there
    (c.len-count.ensures ∙ c.args.self.now.work.ok.0) c.index.ensures c.in_ok-list.ensures.makes)

pub returns-clause-held : goal.returns-clause-held
returns-clause-held g c =
    let old = g.B.TermBank.store c.args.self.now.bank in
    let new = g.B.TermBank.store c.make_anyway.new.self.bank in
    let work = c.args.self.now.work.items in
    let n = c.len-count.result in
    subst (λ xs. AllHeld new (set xs (n - 1) c.in_ok-list.list)) (sym {A = List Term} c.make_anyway.ensures.same)
    (first-held old new work c.args.empty c.index.result.now c.in_ok-list.list n c.requires.held c.requires.there
    (c.len-count.ensures ∙ c.args.self.now.work.ok.0) c.index.ensures c.in_ok-list.ensures.makes c.make_anyway.ensures.kept.keeps
    c.requires.some c.requires.nil)
