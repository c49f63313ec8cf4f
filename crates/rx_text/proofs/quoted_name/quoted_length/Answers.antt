use Rattle.std.proofs.Common.{◌++◌, ◌∷◌, []}
use Rattle.rx_text.proofs.QuotingLemmas.{reading_on}
use Rattle.rx_text.proofs.quoted_name.quoted_length.Goals as goal

pub loop-first-preserved : goal.loop-first-preserved
loop-first-preserved c =
    let name = c.loop-first.invariant.0 in (
      name ++ c.in_ok-more.field-0-0 ∷ [],
      reading_on _ _ name _ _ _ _ c.loop-first.invariant.1 c.in-Some.ensures.cases.0 c.if-first-eq34.false
          c.in_ok-more.ensures.value c.in_ok-more.ensures.within,
    )
