use Rattle.std.proofs.Common.{◌∙◌}
use Rattle.rx_term.specs.Tree.{to_list, items_of}
use Rattle.rx_term.specs.Walks.{held_tree}
use Rattle.rec_sorts.proofs.GivenRuleLemmas.{broken-found}
use Rattle.rec_sorts.proofs.scope.Scope.broken_by_items.Goals as goal

pub returns : goal.returns
returns g c =
    let w = g.B.TermBank.store c.args.bank.now in
    c.first_broken.ensures
    ∙ broken-found c.args.self.now w (to_list (items_of (held_tree w c.args.list))) c.in_ok-found.found c.deref.result.now c.deref-2.result.now
    c.deref.ensures.value c.deref-2.ensures.value c.in_ok-found.ensures
