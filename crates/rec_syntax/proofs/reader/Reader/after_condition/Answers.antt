use Rattle.rec_syntax.proofs.ReadingLemmas.{rule_pushed, condition_pushed, conditions_are, condition_ends, begun}
use Rattle.rec_syntax.proofs.reader.Reader.after_condition.Goals as goal

pub between-requires-clause-sections : goal.between-requires-clause-sections
between-requires-clause-sections c =
    let r = c.args.self.now in
    let rule = condition_pushed r.source.items c.args.rule c.push.new.self c.args.condition c.in_ok-push.ensures.ok c.requires.rule c.requires.condition in
    rule_pushed r.source.items r.sections c.push-in_default.new.self (record c.args.rule { conditions = c.push.new.self })
    c.in_ok-push-in_default.ensures.items c.requires.sections rule

pub returns-in-AndIf-clause-moves : goal.returns-in-AndIf-clause-moves
returns-in-AndIf-clause-moves c =
    let r = c.args.self.now in
    let bytes = r.source.items in
    let b = c.begin.ensures in
    let rule = condition_pushed bytes c.args.rule c.push.new.self c.args.condition c.in_ok-push.ensures.ok c.requires.rule c.requires.condition in
    let conditions = conditions_are bytes c.args.rule.conditions.items c.args.condition c.push.new.self.items c.in_ok-push.ensures.ok in
    rw (c.in-AndIf.is, ← conditions) (begun bytes r.sections c.begin.new.self _ b.role b.calls b.nodes b.sections c.requires.sections rule)

pub returns-in_ok-push-in_default : goal.returns-in_ok-push-in_default
returns-in_ok-push-in_default c =
    let r = c.args.self.now in
    record {
      moves = condition_ends r.source.items r.sections c.push-in_default.new.self c.args.rule c.push.new.self c.args.condition c.args.token
          c.between.result c.between.new.self c.in_default.not-AndIf c.in_ok-push.ensures.ok c.in_ok-push-in_default.ensures.items c.between.ensures.moves;
      same = c.between.ensures.same;
    }
