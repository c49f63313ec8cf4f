use Rattle.std.proofs.Common.{sym, ap, ◌∙◌}
use Rattle.std.specs.Prelude.{count_by}
use Rattle.rec_check.specs.Errors.{judged_words}
use Rattle.rec_check.specs.Findings.{as_diagnostics}
use Rattle.rec_check.specs.Named.{as_words}
use Rattle.rec_check.specs.declared.finding.Kind.TheVariants.{Broken}
use Rattle.rec_check.proofs.RunLemmas.{on_ok_errors}
use Rattle.rec_check.proofs.errors.push_errors.Goals as goal

pub returns : goal.returns
returns c =
    on_ok_errors c.push_found.result (Broken c.args.rule) (judged_words c.args.syntax.now.spec c.args.rule) (as_words c.deref.result.now)
    (as_diagnostics c.args.found.now.items) (as_diagnostics c.push_found.new.found.items)
    (λ p. c.in_ok-words.ensures p ∙ ap (λ ws. count_by p (as_words ws)) (sym c.deref.ensures.value)) c.push_found.ensures
