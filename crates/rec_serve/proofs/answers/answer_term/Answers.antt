use Rattle.rec_serve.proofs.OutcomeLemmas.{checked_alone, refused_tree}
use Rattle.std.proofs.Common.{◌≡◌, None}
use Rattle.std.proofs.lemmas.Result.{IfOk-weaker}
use Rattle.rec_serve.specs.declared.answers.Answered.{Answered}
use Rattle.rec_serve.proofs.ReasonLemmas.{if_ok_on}
use Rattle.rec_serve.proofs.answers.answer_term.Goals as goal

pub answer_checked-requires : goal.answer_checked-requires
answer_checked-requires g c =
    checked_alone c.args.engine.now.spec c.checked.result.now.spec (g.N.TermBank.store c.args.own.now) (g.N.TermBank.store c.alone.new.bank) c.args.term
    c.in-Ok.list c.requires c.alone.ensures.grows c.in-Ok.ensures.list c.in-Ok-check_terms.ensures.kept c.checked.ensures

pub returns-in-Err-Rule-clause-answered : goal.returns-in-Err-Rule-clause-answered
returns-in-Err-Rule-clause-answered g c =
    refused_tree c.args.engine.now.spec c.checked.result.now.spec c.args.session.settings
    (g.N.TermBank.store c.args.own.now) (g.N.TermBank.store c.alone.new.bank) c.args.term c.in-Ok.list
    c.in-Err-Rule.field-0 c.in-Err-Rule.number c.refuse.result c.requires c.alone.ensures.grows c.in-Ok.ensures.list c.in-Err-Rule.ensures.broken
    c.in-Err-Rule.field-0-is c.checked.ensures
    (rw c.in-Err-Rule.field-0-is at c.refuse.ensures.text) (rw c.in-Err-Rule.field-0-is at c.refuse.ensures.refusal)

pub returns-in-Err-Rule-clause-bound : goal.returns-in-Err-Rule-clause-bound
returns-in-Err-Rule-clause-bound g c = IfOk-weaker c.refuse.result _ _ (λ a some none. absurd (cc (some, none))) c.refuse.ensures.refusal

pub returns-in-Ok-check_terms-clause-bound : goal.returns-in-Ok-check_terms-clause-bound
returns-in-Ok-check_terms-clause-bound g c =
    if_ok_on (λ (a : Answered). a.refusal ≡ None) _ c.answer_checked.result c.answer_checked.ensures.bound
