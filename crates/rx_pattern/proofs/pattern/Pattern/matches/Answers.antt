use Rattle.std.proofs.Common.{◌∙◌, ap}
use Rattle.rx_pattern.specs.Nodes.{tree_of_nodes}
use Rattle.rx_pattern.proofs.WholeLemmas.{bound_none, bound_all}
use Rattle.rx_pattern.proofs.pattern.Pattern.matches.Goals as goal

pub returns-then-not-found-clause-answer : goal.returns-then-not-found-clause-answer
returns-then-not-found-clause-answer g c = λ u e.
    bound_none (g.B.TermBank.store c.match_nodes.new.bank) c.deref.result.now c.args.self.now u c.match_nodes.new.out.items
    c.clear-then-not-found.new.self.items c.in-Ok.found (ap tree_of_nodes c.deref.ensures.value ∙ c.self.view_is) (c.in-Ok.ensures.answer u e)
    c.if-not-found.true c.clear-then-not-found.ensures.items

pub returns-else-not-found-clause-answer : goal.returns-else-not-found-clause-answer
returns-else-not-found-clause-answer g c = λ u e.
    bound_all (g.B.TermBank.store c.match_nodes.new.bank) c.deref.result.now c.args.self.now u c.match_nodes.new.out.items c.in-Ok.found
    (ap tree_of_nodes c.deref.ensures.value ∙ c.self.view_is) (c.in-Ok.ensures.answer u e) c.if-not-found.false
