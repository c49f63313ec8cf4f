use Rattle.std.proofs.Common.{ap, sym, ◌∙◌, ◌||◌}
use Rattle.std.proofs.lemmas.Str.Ascii.{trim_ascii_end_is}
use Rattle.rec_check.specs.Inner.Allowances.{allowed, allowing, is_allowance}
use Rattle.rec_check.specs.Lookups.{number_in}
use Rattle.rec_check.proofs.LookupLemmas.{noted-known}
use Rattle.rec_check.proofs.SilencedLemmas.{no_allowance}
use Rattle.rec_check.proofs.silenced.note_comment.Goals as goal

pub returns-in_ok-note : goal.returns-in_ok-note
returns-in_ok-note c = λ phrase.
    let bytes = c.trim_ascii_end-comment.result.now in
    noted-known (number_in c.args.names.now) (number_in c.note.new.self) (record { at = 0; bytes = bytes }) 0 c.in_ok-note.ensures (allowing phrase)
    ∙ ap (λ xs. is_allowance xs phrase || allowed c.args.names.now phrase)
    (trim_ascii_end_is c.args.comment.now bytes c.trim_ascii_end-comment.ensures.value)

pub returns-else-starts_with : goal.returns-else-starts_with
returns-else-starts_with c = λ phrase.
    let bytes = c.trim_ascii_end-comment.result.now in
    sym (ap (λ b. b || allowed c.args.names.now phrase)
    (ap (λ xs. is_allowance xs phrase) (sym (trim_ascii_end_is c.args.comment.now bytes c.trim_ascii_end-comment.ensures.value))
    ∙ no_allowance bytes phrase c.starts_with.result c.starts_with.ensures.value c.if-starts_with.false))
