use Rattle.std.proofs.Common.{◌≡◌, List, [], ◌∷◌, ◌++◌, subst, sym}
use Rattle.rx_term.specs.declared.Term.{Term}
use Rattle.rx_run.proofs.PatternTermLemmas.{IsPartWay, part_way_first, takes_one}
use Rattle.rx_run.proofs.pattern.reading.items_of.Goals as goal

pub loop-found-init : goal.loop-found-init
loop-found-init g c =
    let w = g.B.TermBank.store c.args.bank.now in
    subst (λ (rs : List Term). IsPartWay w c.args.list rs c.args.list) (sym c.new-found.ensures.items) (part_way_first w c.args.list c.requires)

pub loop-found-preserved : goal.loop-found-preserved
loop-found-preserved g c =
    let w = g.B.TermBank.store c.args.bank.now in
    let taken = takes_one w c.args.list c.loop-found.found.items c.loop-found.rest c.head.result c.tail-rest.result c.loop-found.invariant
    c.in-Cons.ensures c.head.ensures c.tail-rest.ensures in
    let e : c.push.new.self.items ≡ c.loop-found.found.items ++ c.head.result ∷ [] = c.in_ok-push.ensures.items in
    subst (λ (rs : List Term). IsPartWay w c.args.list rs c.tail-rest.result) (sym e) taken.part_way
