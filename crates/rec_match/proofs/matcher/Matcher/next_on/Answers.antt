use Rattle.std.proofs.Common.{sym, subst, ◌∙◌}
use Rattle.rec_sorts.specs.Linked.{NumberOf}
use Rattle.rec_match.proofs.AnswerLemmas.{bare-of, no-symbol, none-next, no-number, has-annotations}
use Rattle.rec_match.proofs.matcher.Matcher.next_on.Goals as goal

pub returns-in_default : goal.returns-in_default
returns-in_default g c = record {
  answers = λ y ready. (
    none-next y (g.B.TermBank.store c.args.bank.now) c.args.self.now ready _
        (no-symbol y (g.B.TermBank.store c.args.bank.now) c.args.u c.kind.result c.kind.ensures c.in_default.not-Appl) c.args.from,
    c.clear.ensures.items,
  );
  empty = tt;
}

pub returns-in_default-op_of-clause-answers : goal.returns-in_default-op_of-clause-answers
returns-in_default-op_of-clause-answers g c = λ y ready. (
  none-next y (g.B.TermBank.store c.args.bank.now) c.args.self.now ready _
      (no-number y (g.B.TermBank.store c.args.bank.now) (g.met.B.TermBank.sound c.args.bank.now) c.args.self.now ready c.args.u c.in-Appl.symbol
      c.in-Appl.ensures (subst (λ o. NumberOf c.args.self.now.links c.in-Appl.symbol o) c.in_default-op_of.is c.op_of.ensures)) c.args.from,
  c.clear.ensures.items,
)

pub returns-then-is_some-clause-answers : goal.returns-then-is_some-clause-answers
returns-then-is_some-clause-answers g c = λ y ready. (
  none-next y (g.B.TermBank.store c.args.bank.now) c.args.self.now ready _
      (has-annotations y (g.B.TermBank.store c.args.bank.now) c.args.u c.in-Appl.symbol c.anns.result c.in-Appl.ensures c.anns.ensures
      (sym c.is_some.ensures ∙ c.if-is_some.true)) c.args.from,
  c.clear.ensures.items,
)

pub next_call-requires-clause-bare : goal.next_call-requires-clause-bare
next_call-requires-clause-bare g c = bare-of (g.B.TermBank.store c.args.bank.now) c.args.u c.anns.result c.anns.ensures
    (sym c.is_some.ensures ∙ c.if-is_some.false)
