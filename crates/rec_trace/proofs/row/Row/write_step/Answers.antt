use Rattle.std.proofs.Common.{rules}
use Rattle.rec_trace.proofs.WholeLemmas.{keeps-none, ok-on, on-ok, step-apply, step-give, step-last}
use Rattle.rec_trace.proofs.row.Row.write_step.Goals as goal

pub returns-in-Give-clause-row : goal.returns-in-Give-clause-row
returns-in-Give-clause-row g c = on-ok c.give.result
    (λ values. (step-give c.args.engine.now.spec (g.B.TermBank.store c.args.engine.now.bank) c.args.self.now c.give.new.self c.pop.new.self.items
    c.in-Some.step c.requires.row c.in-Some.ensures.items (let e = c.give.ensures.steps in cc e) c.in-Give.value c.in-Give.is values).row)
    c.give.ensures.values

pub returns-in-Give-clause-moves : goal.returns-in-Give-clause-moves
returns-in-Give-clause-moves g c = on-ok c.give.result
    (λ values. (step-give c.args.engine.now.spec (g.B.TermBank.store c.args.engine.now.bank) c.args.self.now c.give.new.self c.pop.new.self.items
    c.in-Some.step c.requires.row c.in-Some.ensures.items (let e = c.give.ensures.steps in cc e) c.in-Give.value c.in-Give.is values).moves_are)
    c.give.ensures.values

pub returns-in-GiveLast-clause-row : goal.returns-in-GiveLast-clause-row
returns-in-GiveLast-clause-row g c = on-ok c.give_last.result
    (λ values. (step-last c.args.engine.now.spec (g.B.TermBank.store c.args.engine.now.bank) c.args.self.now c.give_last.new.self c.pop.new.self.items
    c.in-Some.step c.requires.row c.in-Some.ensures.items (let e = c.give_last.ensures.steps in cc e) c.in-GiveLast.value c.in-GiveLast.at
    c.in-GiveLast.is values).row) c.give_last.ensures.values

pub returns-in-GiveLast-clause-moves : goal.returns-in-GiveLast-clause-moves
returns-in-GiveLast-clause-moves g c = on-ok c.give_last.result
    (λ values. (step-last c.args.engine.now.spec (g.B.TermBank.store c.args.engine.now.bank) c.args.self.now c.give_last.new.self c.pop.new.self.items
    c.in-Some.step c.requires.row c.in-Some.ensures.items (let e = c.give_last.ensures.steps in cc e) c.in-GiveLast.value c.in-GiveLast.at
    c.in-GiveLast.is values).moves_are) c.give_last.ensures.values

pub returns-in-Invoke-clause-builds : goal.returns-in-Invoke-clause-builds
returns-in-Invoke-clause-builds g c = record {
  same = search rules;
  keeps = keeps-none c.apply.ensures.keeps;
  room = search rules;
}

pub returns-in-Invoke-clause-row : goal.returns-in-Invoke-clause-row
returns-in-Invoke-clause-row g c = ok-on c.apply.result
    (λ u applied. (step-apply c.args.engine.now.spec (g.B.TermBank.store c.args.engine.now.bank) c.args.self.now c.apply.new.self c.pop.new.self.items
    c.in-Some.step c.requires.row c.in-Some.ensures.items (let e = c.apply.ensures.steps in cc e)
    (g.B.TermBank.store c.apply.new.engine.bank) c.in-Invoke.symbol c.in-Invoke.count c.in-Invoke.is c.apply.ensures.keeps applied).row) c.apply.ensures.applied

pub returns-in-Invoke-clause-moves : goal.returns-in-Invoke-clause-moves
returns-in-Invoke-clause-moves g c = ok-on c.apply.result
    (λ u applied. (step-apply c.args.engine.now.spec (g.B.TermBank.store c.args.engine.now.bank) c.args.self.now c.apply.new.self c.pop.new.self.items
    c.in-Some.step c.requires.row c.in-Some.ensures.items (let e = c.apply.ensures.steps in cc e)
    (g.B.TermBank.store c.apply.new.engine.bank) c.in-Invoke.symbol c.in-Invoke.count c.in-Invoke.is c.apply.ensures.keeps applied).moves_are)
    c.apply.ensures.applied
