use Rattle.std.proofs.Common.{subst, sym}
use Rattle.std.specs.Prelude.{get_or}
use Rattle.rec_sorts.specs.Numbering.{AreLetters}
use Rattle.rec_check.proofs.ClassLemmas.{rarest_occurs}
use Rattle.rec_check.proofs.rewriting.classes.rarest_symbol.Goals as goal

pub returns : goal.returns
returns c r =
    let y = c.args.checked.now.spec in
    let q = get_or y.rules c.args.rule r in
    rarest_occurs y q c.deref.result.now c.head_symbol-head.result c.rarest_letter.result (c.head_symbol-head.ensures r)
    (subst (λ ls. AreLetters y ls q.left) (sym c.deref.ensures.value) (c.letters.ensures r).0) c.rarest_letter.ensures
