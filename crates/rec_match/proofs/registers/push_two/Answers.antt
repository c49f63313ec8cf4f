use Rattle.std.proofs.Common.{ap, ◌∙◌, ◌++◌, ◌∷◌, []}
use Rattle.rec_match.proofs.ForestLemmas.{pushed_two}
use Rattle.rec_match.proofs.registers.push_two.Goals as goal

pub returns-clause-pushes : goal.returns-clause-pushes
returns-clause-pushes g c = pushed_two (g.B.TermBank.store c.args.bank.now) c.args.registers.now.items c.push_reserved-2.new.self.items c.args.arguments
    c.head-first.result c.tail-rest.result c.head-second.result c.requires.list c.head-first.ensures c.tail-rest.ensures c.head-second.ensures
    (c.push_reserved-2.ensures.items ∙ ap (λ xs. xs ++ c.head-second.result ∷ []) c.push_reserved.ensures.items
    ∙ ap (λ xs. (xs ++ c.head-first.result ∷ []) ++ c.head-second.result ∷ []) c.reserve.ensures.items)
