use Rattle.rx_term.specs.Parts.{part_count}
use Rattle.rx_term.specs.Store.{tree_at}
use Rattle.rx_run.specs.Due.{steps_text}
use Rattle.rec_run.specs.GivenTerms.{item_at}
use Rattle.std.proofs.Common.{◌≡◌, ◌∙◌}
use Rattle.rec_run.proofs.EvaluatedLemmas.{of_held}
use Rattle.rec_run.proofs.PrintedLemmas.{sized-after, sized-before, sized-front}
use Rattle.rx_text.proofs.AppendingLemmas.{on_err}
use Rattle.rec_run.proofs.spec.outcome.write_figures.Goals as goal

pub returns-in_err-write_steps_to-clause-err : goal.returns-in_err-write_steps_to-clause-err
returns-in_err-write_steps_to-clause-err g c =
    let s = c.args.run.settings in
    on_err c.from_residual.result
    (sized-front s.sizes (item_at (g.B.TermBank.store c.args.bank.now) c.args.valued.term) (steps_text s.options.count c.args.valued.steps) _ _
    c.in_err-write_steps_to.ensures.err)

pub returns-in_err-cells-clause-err : goal.returns-in_err-cells-clause-err
returns-in_err-cells-clause-err g c =
    let s = c.args.run.settings in
    on_err c.from_residual-in_err-cells.result
    (sized-before s.sizes (item_at (g.B.TermBank.store c.args.bank.now) c.args.valued.term) (steps_text s.options.count c.args.valued.steps) _ _
    c.in_ok-write_steps_to.ensures.ok)

pub returns-in_err-put_numbered_to-clause-err : goal.returns-in_err-put_numbered_to-clause-err
returns-in_err-put_numbered_to-clause-err g c =
    let s = c.args.run.settings in
    let w = g.B.TermBank.store c.args.bank.now in
    let u = item_at w c.args.valued.term in
    let same = of_held (tree_at w c.args.valued.term) (λ u. c.in_ok-cells.cells ≡ part_count u) c.requires.held c.in_ok-cells.ensures in
    on_err c.from_residual-in_err-put_numbered_to.result
    (sized-after s.sizes u (steps_text s.options.count c.args.valued.steps) c.from.result _ _ _ c.if-run.true (c.from.ensures ∙ same)
    c.in_ok-write_steps_to.ensures.ok c.in_err-put_numbered_to.ensures.err)
