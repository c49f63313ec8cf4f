use Rattle.rec_syntax.proofs.ReadingLemmas.{term_pushed}
use Rattle.rec_syntax.proofs.reader.Reader.take_term.Goals as goal

pub between-requires-clause-sections : goal.between-requires-clause-sections
between-requires-clause-sections c =
    let r = c.args.self.now in
    term_pushed r.source.items r.sections c.push.new.self c.args.term c.in_ok-push-in-InEval.ensures.items c.requires.sections c.requires.term

pub after_condition-requires-clause-condition : goal.after_condition-requires-clause-condition
after_condition-requires-clause-condition c =
    let role = rw (← c.in-ConditionRight.ensures.value) at c.requires.role in
    record { left = role.1; right = c.requires.term }
