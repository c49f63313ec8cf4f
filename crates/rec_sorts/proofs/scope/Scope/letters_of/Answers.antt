use Rattle.std.proofs.Common.{◌∙◌, ap}
use Rattle.std.specs.Prelude.{reverse}
use Rattle.rec_sorts.proofs.GivenLetterLemmas.{letters-walked}
use Rattle.rec_sorts.proofs.scope.Scope.letters_of.Goals as goal

pub returns : goal.returns
returns g c =
    c.reverse.ensures.items
    ∙ ap reverse
    (letters-walked c.args.self.now (g.B.TermBank.store c.args.bank.now) c.in_ok-found.found.items c.deref-node-items.result.now c.args.term
    c.loop-node.letters.items c.loop-node.node-index c.loop-node.invariant c.loop-node-test.false c.deref-node-items.ensures.value
    c.in_ok-found.ensures.trees)
