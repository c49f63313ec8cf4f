use Rattle.std.proofs.Common.{IfOk, List, ℕ, ap, subst, sym, ◌∙◌}
use Rattle.rx_shared.specs.State.{store_of}
use Rattle.rec_serve.specs.Conversation.{IsAnswer}
use Rattle.rec_serve.specs.Inner.Banks.{IsUnrooted}
use Rattle.rec_serve.specs.Inner.Reading.{IsRead}
use Rattle.rec_serve.specs.declared.answers.Answered.{Answered}
use Rattle.rec_serve.specs.declared.settings.Session.{Session}
use Rattle.rec_serve.proofs.OutcomeLemmas.{kept_answer}
use Rattle.rec_serve.proofs.conversation.answer_kept.Goals as goal

pub give_back-requires-clause-unrooted : goal.give_back-requires-clause-unrooted
give_back-requires-clause-unrooted g c = λ t.
    ap (λ roots. roots t) c.answer-found.ensures.grows.roots
    ∙ subst (λ b. IsUnrooted (store_of b)) (sym c.deref_mut.ensures.value) c.in-Ok.ensures.empty.unrooted t

pub give_back-requires-clause-limit : goal.give_back-requires-clause-limit
give_back-requires-clause-limit g c =
    c.answer-found.ensures.grows.cap ∙ ap (λ b. (store_of b).cap) c.deref_mut.ensures.value ∙ c.in-Ok.ensures.empty.limit
    ∙ sym (ap (λ s. s.settings.options.cells) c.take_bank.ensures.same)

pub returns-in-Ok-clause-answered : goal.returns-in-Ok-clause-answered
returns-in-Ok-clause-answered g c =
    let s = c.take_bank.new.self.session.settings in
    subst (λ (u : Session). IfOk c.answer-found.result (λ (a : Answered). (line : List ℕ) → IsRead c.args.request.now line
    → IsAnswer c.args.engine.now.spec u.settings line a.text.items)) c.take_bank.ensures.same
    (kept_answer c.args.engine.now.spec s c.args.request.now c.deref.result.now
    c.answer-found.result c.if-request.false c.deref.ensures.value c.answer-found.ensures.answered)
