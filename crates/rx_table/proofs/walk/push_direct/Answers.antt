use Rattle.std.proofs.Common.{subst, sym}
use Rattle.rx_term.specs.Tree.{annotations, to_list}
use Rattle.rx_term.specs.Walks.{held_tree}
use Rattle.rx_table.specs.Inner.Walk.{Pushes, body_items}
use Rattle.rx_table.proofs.TermIndexLemmas.{on_ok}
use Rattle.rx_table.proofs.WalkLemmas.{direct-both, pushes-both}
use Rattle.rx_table.proofs.walk.push_direct.Goals as goal

pub returns : goal.returns
returns g c =
    let w = g.B.TermBank.store c.args.bank.now in
    let t = held_tree w c.args.t in
    let old = c.args.inside.now.items in
    let new = c.push_anns.new.inside.items in
    on_ok c.push_anns.result (λ k. subst (Pushes w old new) (sym (direct-both t))
    (pushes-both w old c.push_inside.new.inside.items new (body_items t) (to_list (annotations t)) c.in_ok-push_inside.ensures k)) c.push_anns.ensures
