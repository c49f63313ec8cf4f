use Rattle.std.proofs.Common.{sym, ◌∙◌, subst}
use Rattle.rx_term.specs.Walks.{AllHeld}
use Rattle.psilt_core.specs.Banks.{store_of}
use Rattle.psilt_core.proofs.AnswerLemmas.{all_held}
use Rattle.psilt_core.proofs.work.Work.reclaim.Goals as goal

pub reclaim-requires : goal.reclaim-requires
reclaim-requires c =
    let w = store_of c.args.self.now.bank in
    subst (λ ts. AllHeld w ts) (sym (c.deref.ensures.value ∙ c.in-Ok.ensures)) (all_held w c.args.kept.now (sym c.are_held.ensures ∙ c.if-not-are_held.false))
