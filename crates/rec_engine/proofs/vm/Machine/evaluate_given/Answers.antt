use Rattle.rec_engine.proofs.SharedLemmas.{given-kept, kept-twice, answer-before}
use Rattle.rec_engine.proofs.vm.Machine.evaluate_given.Goals as goal

pub evaluate_shared-requires-clause-given : goal.evaluate_shared-requires-clause-given
evaluate_shared-requires-clause-given g c =
    given-kept c.args.self.now.checked.spec c.evaluate_within.new.self.checked.spec (g.B.TermBank.store c.args.self.now.heap.bank)
    (g.B.TermBank.store c.evaluate_within.new.self.heap.bank) c.args.t c.evaluate_within.ensures.spec c.evaluate_within.ensures.keeps c.requires.given

pub returns-in-None-clause-keeps : goal.returns-in-None-clause-keeps
returns-in-None-clause-keeps g c =
    kept-twice (g.B.TermBank.store c.args.self.now.heap.bank) (g.B.TermBank.store c.evaluate_within.new.self.heap.bank)
    (g.B.TermBank.store c.evaluate_shared.new.self.heap.bank) c.args.t c.evaluate_within.ensures.keeps c.evaluate_shared.ensures.keeps

pub returns-in-None-clause-exact : goal.returns-in-None-clause-exact
returns-in-None-clause-exact g c =
    answer-before c.args.self.now.checked.spec c.evaluate_within.new.self.checked.spec (g.B.TermBank.store c.args.self.now.heap.bank)
    (g.B.TermBank.store c.evaluate_within.new.self.heap.bank) (g.B.TermBank.store c.evaluate_shared.new.self.heap.bank) c.args.t c.args.n
    c.evaluate_shared.result c.evaluate_within.ensures.spec c.evaluate_within.ensures.keeps c.evaluate_shared.ensures.exact
