use Rattle.std.proofs.Common.{subst}
use Rattle.std.specs.Prelude.{None, ◌≡◌}
use Rattle.rec_syntax.specs.Syntax.{Spec}
use Rattle.rx_term.specs.Tree.{Tree}
use Rattle.rec_sorts.specs.SpecRules.{fault}
use Rattle.rec_sorts.specs.Evaluation.{term_of}
use Rattle.rec_engine.specs.Engine.{Spells}
use Rattle.rec_engine.proofs.SpelledLemmas.{spelled-makes}
use Rattle.rec_trace.proofs.BeginLemmas.{Begins, is-new, new-stands}
use Rattle.rec_trace.proofs.tracer.Tracer.of_given.Given as given
use Rattle.rec_trace.proofs.tracer.Tracer.of_given.Goals.{After-new}
use Rattle.rec_trace.proofs.tracer.Tracer.of_given.Goals as goal

pub ground_steps-requires : goal.ground_steps-requires
ground_steps-requires g c =
    let y = c.args.engine.now.spec in
    let good : fault y ≡ None = subst (λ (z : Spec). fault z ≡ None) c.checked.ensures c.syntax-kept.ensures.kept in
    (y, (spelled-makes y good c.args.letters.now c.requires.0 c.requires.1).applied)

-- the trace of the spelled term begins
begun : (g : given.Over) (c : After-new g) (u : Tree) → Spells c.args.engine.now.spec c.args.letters.now u
    → Begins c.args.engine.now.spec (g.B.TermBank.store c.none.new.engine.bank) c.new.result c.args.n (term_of u)
begun g c u spelled =
    let y = c.args.engine.now.spec in
    let w = g.B.TermBank.store c.none.new.engine.bank in
    let good : fault y ≡ None = subst (λ (z : Spec). fault z ≡ None) c.checked.ensures c.syntax-kept.ensures.kept in
    let of = c.in_ok-saved.ensures in
    new-stands y w c.new.result c.in_ok-steps.steps.items c.args.n c.args.letters.now (term_of u) good
    (is-new w c.new.result c.of_steps.result c.in_ok-steps.steps c.in_ok-saved.saved c.args.n c.new.ensures.row c.new.ensures.saved c.new.ensures.left
    c.of_steps.ensures.steps c.of_steps.ensures.values c.of_steps.ensures.low of.kept of.none of.count)
    (c.in_ok-steps.ensures.row y (spelled-makes y good c.args.letters.now u spelled).applied) spelled.letters

pub returns-clause-stands : goal.returns-clause-stands
returns-clause-stands g c = (begun g (goal.at.returns-clause-stands g c).After-new c.requires.0 c.requires.1).stands

pub returns-clause-begins : goal.returns-clause-begins
returns-clause-begins g c = λ u spelled. (begun g (goal.at.returns-clause-begins g c).After-new u spelled).begins

pub returns-clause-whole : goal.returns-clause-whole
returns-clause-whole g c = λ u spelled. (begun g (goal.at.returns-clause-whole g c).After-new u spelled).whole
