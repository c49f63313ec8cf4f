use Rattle.std.proofs.Common.{◌∙◌, ap, Some, None}
use Rattle.rx_pattern.specs.Nodes.{tree_of_nodes}
use Rattle.rx_term.proofs.WalkLemmas.{trees_from-AllHeld}
use Rattle.rx_pattern.proofs.WholeLemmas.{misfit_of, told_count, told_kind, not_full, never_count, never_kind, made_ok}
use Rattle.rx_pattern.proofs.pattern.Pattern.make.Goals as goal

pub returns-in-Some-clause-count : goal.returns-in-Some-clause-count
returns-in-Some-clause-count g c = λ bs held.
    told_count c.in-Some.fault c.args.self.now bs (misfit_of c.self.inside.nodes.items c.args.self.now (Some c.in-Some.fault) bs c.self.invariant
    c.self.view_is (rw c.deref.ensures.value at (c.in-Some.ensures bs held)))

pub returns-in-Some-clause-kind : goal.returns-in-Some-clause-kind
returns-in-Some-clause-kind g c = λ bs held at.
    told_kind c.in-Some.fault c.args.self.now bs at (misfit_of c.self.inside.nodes.items c.args.self.now (Some c.in-Some.fault) bs c.self.invariant
    c.self.view_is (rw c.deref.ensures.value at (c.in-Some.ensures bs held)))

pub returns-in-Some-clause-full : goal.returns-in-Some-clause-full
returns-in-Some-clause-full g c = λ e.
    let some = trees_from-AllHeld (g.B.TermBank.store c.args.bank.now) c.args.args.now c.requires in
    absurd (not_full c.in-Some.fault c.args.self.now some.0 (misfit_of c.self.inside.nodes.items c.args.self.now (Some c.in-Some.fault) some.0
    c.self.invariant c.self.view_is (rw c.deref.ensures.value at (c.in-Some.ensures some.0 some.1))) e)

pub fill-requires-clause-fitting : goal.fill-requires-clause-fitting
fill-requires-clause-fitting g c =
    let some = trees_from-AllHeld (g.B.TermBank.store c.args.bank.now) c.args.args.now c.requires in
    (some.0, some.1, rw c.deref-2.ensures.value (rw c.deref.ensures.value at (c.in_default.ensures some.0 some.1)))

pub returns-clause-made : goal.returns-clause-made
returns-clause-made g c =
    made_ok (g.B.TermBank.store c.args.bank.now) (g.B.TermBank.store c.fill.new.bank) c.fill.result c.deref-2.result.now c.args.self.now
    c.args.args.now (ap tree_of_nodes c.deref-2.ensures.value ∙ c.self.view_is)
    (λ bs held. misfit_of c.self.inside.nodes.items c.args.self.now None bs c.self.invariant c.self.view_is
    (rw c.deref.ensures.value at (c.in_default.ensures bs held))) c.fill.ensures.made

pub returns-clause-count : goal.returns-clause-count
returns-clause-count g c = λ bs held.
    never_count (g.B.TermBank.store c.fill.new.bank) c.fill.result c.args.self.now bs c.fill.ensures.refused
    (misfit_of c.self.inside.nodes.items c.args.self.now None bs c.self.invariant c.self.view_is
    (rw c.deref.ensures.value at (c.in_default.ensures bs held)))

pub returns-clause-kind : goal.returns-clause-kind
returns-clause-kind g c = λ bs held at.
    never_kind (g.B.TermBank.store c.fill.new.bank) c.fill.result c.args.self.now bs at c.fill.ensures.refused
    (misfit_of c.self.inside.nodes.items c.args.self.now None bs c.self.invariant c.self.view_is
    (rw c.deref.ensures.value at (c.in_default.ensures bs held)))
