use Rattle.std.proofs.Common.{refl}
use Rattle.rec_uses.specs.Inner.Values.{as_word}
use Rattle.rec_uses.specs.Uses.{Variable}
use Rattle.rec_uses.proofs.TableLemmas.{noted}
use Rattle.rec_uses.proofs.tables.note_variable.Goals as goal

pub returns : goal.returns
returns c = λ source ds at held.
    noted source c.args.texts.now c.note.new.self (Variable (as_word c.args.word) (as_word c.args.sort)) _ _ refl (c.in_ok-text.ensures source at)
    c.in_ok-note.ensures ds held
