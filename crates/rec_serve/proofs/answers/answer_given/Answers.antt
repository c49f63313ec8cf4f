use Rattle.std.proofs.Common.{Some, ap, refl, ◌∙◌}
use Rattle.std.specs.Prelude.{unwrap_or}
use Rattle.rx_term.specs.Tree.{list_of, none}
use Rattle.rec_sorts.specs.Binding.{tree_of}
use Rattle.rec_sorts.specs.Evaluation.{term_of}
use Rattle.rec_serve.proofs.OutcomeLemmas.{answers_tree, bare_value}
use Rattle.rec_serve.proofs.answers.answer_given.Goals as goal

pub outcome_text-requires-clause-value : goal.outcome_text-requires-clause-value
outcome_text-requires-clause-value g c =
    let t = c.requires.term.tree in
    bare_value g.B.TermBank.store _ _ _ c.args.session.settings.options.steps t c.in_ok-outcome.outcome c.bank.ensures
    (c.in_ok-outcome.ensures.outcome (tree_of (term_of t))
    (c.requires.same ∙ ap (λ o. Some (tree_of (term_of (unwrap_or o (list_of none))))) c.requires.term.held))

pub returns-in-Ok-clause-answered : goal.returns-in-Ok-clause-answered
returns-in-Ok-clause-answered g c =
    let t = c.requires.term.tree in
    answers_tree g.B.TermBank.store c.args.engine.now.spec _ _ _ _ c.args.session.settings t c.in_ok-outcome.outcome _ c.requires.term.held
    c.requires.term.is_ground c.bank.ensures c.evaluate_within.ensures.same.spec
    (c.in_ok-outcome.ensures.outcome (tree_of (term_of t))
    (c.requires.same ∙ ap (λ o. Some (tree_of (term_of (unwrap_or o (list_of none))))) c.requires.term.held)) c.in-Ok.ensures refl
