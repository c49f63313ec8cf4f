use Rattle.std.proofs.Common.{◌-◌, length, subst}
use Rattle.std.specs.Prelude.{Option}
use Rattle.rec_match.specs.Forests.{values_among}
use Rattle.rec_match.specs.Matching.{FindsOn}
use Rattle.rec_match.specs.declared.forest.Hit.{Hit}
use Rattle.rec_stuck.proofs.fitting.next_rule.Goals as goal

pub returns-in-Some-clause-found : goal.returns-in-Some-clause-found
returns-in-Some-clause-found g c =
    let w = g.B.TermBank.store c.args.bank.now in
    let old = c.args.arguments.now.items in
    let m = c.args.matcher.now in
    let first = length old - c.args.call.count in
    let f = subst (λ (o : Option Hit). FindsOn w m first c.args.at old c.find.new.work.items o) c.in-Some.is c.in_ok-found.ensures.finds in
    (values_among m.forest first c.find.new.work.items c.in-Some.hit.values, f.1)
