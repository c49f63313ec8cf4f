use Rattle.std.proofs.Common.{◌≡◌, subst}
use Rattle.std.specs.Prelude.{None}
use Rattle.rec_sorts.specs.SpecRules.{fault}
use Rattle.psilt_core.proofs.CallingLemmas.{declared_linked, linked_number}
use Rattle.psilt_core.proofs.calling.declared.Goals as goal

pub returns-in-Some-clause-symbol : goal.returns-in-Some-clause-symbol
returns-in-Some-clause-symbol g c =
    let y = c.args.engine.now.spec in let w = g.B.TermBank.store c.args.engine.now.bank in let s = c.args.symbol in let k = c.in-Some.number in
    let at = c.op_of.ensures.found k c.in-Some.is in
    let is = linked_number y w c.matcher.result.now.links s k c.matcher.ensures.linked at.0 at.1 in
    declared_linked y w s k (subst (λ z. fault z ≡ None) c.checked-checked.ensures c.syntax-kept.ensures.kept) is.0 is.1

pub returns-in-Some-clause-number : goal.returns-in-Some-clause-number
returns-in-Some-clause-number g c =
    let y = c.args.engine.now.spec in let w = g.B.TermBank.store c.args.engine.now.bank in let s = c.args.symbol in let k = c.in-Some.number in
    let at = c.op_of.ensures.found k c.in-Some.is in
    (linked_number y w c.matcher.result.now.links s k c.matcher.ensures.linked at.0 at.1).0
