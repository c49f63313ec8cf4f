use Rattle.std.proofs.Common.{ap, sym, ◌∙◌}
use Rattle.std.specs.Prelude.{is_some}
use Rattle.rec_check.specs.Lookups.{number_in}
use Rattle.rec_sorts.specs.Names.{given_first}
use Rattle.rec_check.specs.Named.{as_words}
use Rattle.rec_check.specs.declared.located.Word.{Word}
use Rattle.rec_check.proofs.LookupLemmas.{all_numbered, mentions-first_at, noted_words}
use Rattle.rec_check.proofs.names.Names.of.Goals as goal

pub loop-i-preserved : goal.loop-i-preserved
loop-i-preserved c =
    noted_words (number_in c.loop-i.names) (number_in c.note.new.self) c.args.words.now c.loop-i.i c.index-words-i.result c.loop-i-test.true
    c.loop-i.invariant
    (λ name. c.in_ok-note.ensures name
    ∙ ap (λ (w : Word). given_first (number_in c.loop-i.names) w.bytes.now c.loop-i.i name) c.index-words-i.is)

pub returns-clause-numbers : goal.returns-clause-numbers
returns-clause-numbers c = λ name. all_numbered (number_in c.loop-i.names) c.args.words.now c.loop-i.i c.loop-i-test.false c.loop-i.invariant name

pub returns-clause-known : goal.returns-clause-known
returns-clause-known c = λ name.
    ap is_some (all_numbered (number_in c.loop-i.names) c.args.words.now c.loop-i.i c.loop-i-test.false c.loop-i.invariant name)
    ∙ sym (mentions-first_at (as_words c.args.words.now) name)
