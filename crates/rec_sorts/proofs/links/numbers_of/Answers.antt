use Rattle.std.proofs.Common.{rules, arith, subst, nat_eq, get_or}
use Rattle.std.specs.Prelude.{◌<◌, length}
use Rattle.std.proofs.lemmas.List.{take_all, get_or_default}
use Rattle.indexmap.specs.IndexMap.{get}
use Rattle.rx_term.specs.declared.Symbol.{Symbol}
use Rattle.rec_sorts.specs.Linked.{NumbersOf}
use Rattle.rec_sorts.proofs.LinkLemmas.{numbers-next}
use Rattle.rec_sorts.proofs.links.numbers_of.Goals as goal

pub loop-i-preserved : goal.loop-i-preserved
loop-i-preserved c =
    let ss = c.args.symbols.now in
    let i = c.loop-i.i in
    let none : Symbol = record { 0 = 0 } in
    let lt : i < length ss = let t = c.loop-i-test.true in omega (arith, t) in
    numbers-next ss (λ q. get nat_eq c.loop-i.numbers q) (λ q. get nat_eq c.insert.new.self q) i (get_or ss i none) c.requires.differ lt
    (get_or_default ss i none (get_or ss i none) lt) c.loop-i.invariant (search rules) (search rules)

pub returns : goal.returns
returns c = subst (λ xs. NumbersOf xs (λ s. get nat_eq c.loop-i.numbers s)) (take_all c.loop-i.i c.args.symbols.now c.loop-i-test.false) c.loop-i.invariant
