use Rattle.std.proofs.Common.{sym, ◌∙◌, subst}
use Rattle.rx_term.specs.Walks.{AllHeld}
use Rattle.psilt_core.specs.Banks.{store_of}
use Rattle.psilt_core.proofs.AnswerLemmas.{all_held}
use Rattle.psilt_core.proofs.MatchingLemmas.{fills}
use Rattle.psilt_core.proofs.work.Work.make.Goals as goal

pub fill-requires-clause-held : goal.fill-requires-clause-held
fill-requires-clause-held c =
    let w = store_of c.args.self.now.bank in
    subst (λ ts. AllHeld w ts) (sym (c.deref.ensures.value ∙ c.in-Ok.ensures)) (all_held w c.args.args.now (sym c.are_held.ensures ∙ c.if-not-are_held.false))

pub returns-clause-answer : goal.returns-clause-answer
returns-clause-answer c =
    fills _ c.args.self.now.bank.most_names (store_of c.args.self.now.bank) (store_of c.fill.new.self.bank) c.args.args.now c.deref.result.now
    c.fill.result (c.deref.ensures.value ∙ c.in-Ok.ensures) c.fill.ensures.answer
