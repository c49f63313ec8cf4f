use Rattle.std.proofs.Common.{ap, ◌∙◌, ◌++◌, ◌∷◌, []}
use Rattle.rec_match.proofs.ForestLemmas.{pushed_one}
use Rattle.rec_match.proofs.registers.push_one.Goals as goal

pub returns-clause-pushes : goal.returns-clause-pushes
returns-clause-pushes g c = pushed_one (g.B.TermBank.store c.args.bank.now) c.args.registers.now.items c.push_reserved.new.self.items c.args.arguments
    c.head-first.result c.requires.list c.head-first.ensures
    (c.push_reserved.ensures.items ∙ ap (λ xs. xs ++ c.head-first.result ∷ []) c.reserve.ensures.items)
