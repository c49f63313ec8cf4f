use Rattle.std.proofs.Common.{◌∙◌, [], subst, ap, is_some}
use Rattle.rx_term.proofs.KeepLemmas.{kept-work}
use Rattle.rec_sorts.specs.Evaluation.{term_of}
use Rattle.rec_engine.specs.Inner.Answered.{IsAnswer, StandsAbove}
use Rattle.rec_engine.proofs.EndLemmas.{in-here}
use Rattle.rec_engine.proofs.NormalLemmas.{term-stands, value-stands, kept-term, is-value}
use Rattle.rec_engine.proofs.vm.Machine.normalise.Goals as goal

pub annotate-requires-clause-value : goal.annotate-requires-clause-value
annotate-requires-clause-value g c =
    let work = c.evaluate_given.new.self.heap.work.items in
    let s = subst (StandsAbove work c.args.t) c.in-Value.is c.in_ok-evaluate_given.ensures.stands in
    value-stands work c.args.t s.0 c.in-Value.term s.1

pub returns-in_err-term-in-Value-clause-keeps : goal.returns-in_err-term-in-Value-clause-keeps
returns-in_err-term-in-Value-clause-keeps g c =
    let work = c.evaluate_given.new.self.heap.work.items in
    let s = subst (StandsAbove work c.args.t) c.in-Value.is c.in_ok-evaluate_given.ensures.stands in
    kept-term (g.B.TermBank.store c.args.self.now.heap.bank) (g.B.TermBank.store c.evaluate_given.new.self.heap.bank)
    (g.B.TermBank.store c.annotate.new.self.heap.bank) c.args.t work c.evaluate_given.ensures.keeps c.annotate.ensures.stays.keeps
    (term-stands work c.args.t s.0 c.in-Value.term s.1)

pub returns-in_ok-term-in-Value-clause-keeps : goal.returns-in_ok-term-in-Value-clause-keeps
returns-in_ok-term-in-Value-clause-keeps g c =
    let work = c.evaluate_given.new.self.heap.work.items in
    let s = subst (StandsAbove work c.args.t) c.in-Value.is c.in_ok-evaluate_given.ensures.stands in
    kept-term (g.B.TermBank.store c.args.self.now.heap.bank) (g.B.TermBank.store c.evaluate_given.new.self.heap.bank)
    (g.B.TermBank.store c.annotate.new.self.heap.bank) c.args.t work c.evaluate_given.ensures.keeps c.annotate.ensures.stays.keeps
    (term-stands work c.args.t s.0 c.in-Value.term s.1)

pub returns-in_ok-term-in-Value-clause-outcome : goal.returns-in_ok-term-in-Value-clause-outcome
returns-in_ok-term-in-Value-clause-outcome g c u e =
    let y = c.args.self.now.checked.spec in
    let w1 = g.B.TermBank.store c.evaluate_given.new.self.heap.bank in
    let here = kept-work c.evaluate_given.ensures.keeps c.args.t (in-here c.args.t []) (ap is_some e) ∙ e in
    is-value y w1 (g.B.TermBank.store c.annotate.new.self.heap.bank) c.args.n c.in-Value.steps u c.args.t c.in-Value.term c.in_ok-term-in-Value.term
    (subst (IsAnswer y w1 c.args.n (term_of u)) c.in-Value.is (c.in_ok-evaluate_given.ensures.exact u e)) here
    c.in_ok-term-in-Value.ensures.annotated
