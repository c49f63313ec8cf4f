use Rattle.std.proofs.Common.{Err, IfOk, IfSome, subst, sym}
use Rattle.rx_term.proofs.KeepLemmas.{Keeps-trans}
use Rattle.rx_term.specs.Store.{tree_at}
use Rattle.rx_term.specs.declared.Term.{Term}
use Rattle.rec_engine.specs.Engine.{IsGiven}
use Rattle.rec_serve.specs.Answering.{AnswersTree}
use Rattle.rec_serve.proofs.ReasonLemmas.{cells_alone, deep_alone}
use Rattle.rec_serve.proofs.answers.answer_checked.Goals as goal

pub answer_given-requires : goal.answer_given-requires
answer_given-requires g c = record {
  term = subst (λ y. IsGiven y (g.N.TermBank.store c.args.own.now) c.args.term) (sym c.given_from.ensures.same.spec) c.requires;
  given = c.in-Ok.ensures.given;
  same = c.in-Ok.ensures.term;
}

pub returns-in-Ok-clause-answered : goal.returns-in-Ok-clause-answered
returns-in-Ok-clause-answered g c = subst
    (λ y. IfOk c.answer_given.result (λ a. IfSome (tree_at (g.N.TermBank.store c.args.own.now) c.args.term) (λ t. AnswersTree y c.args.session.settings t a)))
    c.given_from.ensures.same.spec c.answer_given.ensures.answered

pub returns-in-Ok-clause-keeps : goal.returns-in-Ok-clause-keeps
returns-in-Ok-clause-keeps g c = Keeps-trans c.given_from.ensures.keeps c.answer_given.ensures.keeps

pub returns-in-Err-clause-room : goal.returns-in-Err-clause-room
returns-in-Err-clause-room g c =
    let e = c.given_from.new.self in
    cells_alone {A = Term} (g.N.TermBank.store c.args.own.now) (g.B.TermBank.store e.bank) e.work e.memo (Err c.in-Err.fault) c.in-Err.ensures.needed

pub returns-in-Err-clause-deep : goal.returns-in-Err-clause-deep
returns-in-Err-clause-deep g c =
    let e = c.given_from.new.self in
    deep_alone {A = Term} (g.B.TermBank.store e.bank) e.work e.memo e.waiting c.args.session.settings.depth (Err c.in-Err.fault) c.in-Err.ensures.needed
