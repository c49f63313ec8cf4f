use Rattle.std.proofs.Common.{ap, ◌∙◌}
use Rattle.rec_check.specs.Errors.{declared_names}
use Rattle.rec_check.specs.Lookups.{present}
use Rattle.rec_check.specs.Named.{as_words}
use Rattle.rec_check.proofs.WordLemmas.{if_ok_equal}
use Rattle.rec_check.proofs.broken.constructor_heads.Goals as goal

pub returns : goal.returns
returns c =
    let ks = declared_names c.args.syntax.now.spec in
    if_ok_equal c.present_words.result (present ks (as_words c.deref.result.now)) _ (c.present_words.ensures ks c.in_ok-known.ensures)
    (ap (present ks) (ap as_words c.deref.ensures.value ∙ c.in_ok-words.ensures))
