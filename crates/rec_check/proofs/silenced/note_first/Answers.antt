use Rattle.std.proofs.Common.{ap, sym, ◌∙◌, ◌∷◌, ◌||◌, drop, take}
use Rattle.rec_check.specs.Inner.Allowances.{allowed, has_allowance, is_allowance}
use Rattle.rec_check.specs.Silenced.{trimmed}
use Rattle.rec_check.proofs.SilencedLemmas.{has-comment, known-more}
use Rattle.rec_check.proofs.silenced.note_first.Goals as goal

pub returns-clause-known : goal.returns-clause-known
returns-clause-known c = λ phrase.
    let after = c.args.after.now in
    let comment = c.split_at.result.0.now in
    let rest = c.split_at.result.1.now in
    known-more (allowed c.args.names.now phrase) (allowed c.note_comment.new.names phrase) (is_allowance (trimmed comment) phrase) (has_allowance rest phrase)
    (has_allowance (c.args.first ∷ after) phrase) (c.in_ok-note_comment.ensures phrase)
    (ap (λ b. has_allowance (b ∷ after) phrase) c.if-first-ne37.false
    ∙ has-comment after phrase
    ∙ ap (λ n. is_allowance (trimmed (take n after)) phrase || has_allowance (drop n after) phrase) (sym c.line_length.ensures.length)
    ∙ ap (λ xs. is_allowance (trimmed xs) phrase || has_allowance (drop c.line_length.result after) phrase) (sym c.split_at.ensures.front)
    ∙ ap (λ xs. is_allowance (trimmed comment) phrase || has_allowance xs phrase) (sym c.split_at.ensures.back))
