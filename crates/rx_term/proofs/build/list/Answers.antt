use Rattle.std.proofs.Common.{◌-◌, drop, get_or, is_some, sym, ap, ◌∙◌, subst, arith}
use Rattle.rx_term.specs.Tree.{more, to_list}
use Rattle.rx_term.specs.declared.Term.{Term}
use Rattle.rx_term.proofs.StoreLemmas.{Grows-Makes, Grows-trans}
use Rattle.rx_term.specs.Walks.{HaveTrees}
use Rattle.rx_term.proofs.WalkLemmas.{next, is_longer, dropped, item-in}
use Rattle.rx_term.proofs.build.list.Goals as goal

pub cons-requires : goal.cons-requires
cons-requires g c =
    let old = g.B.TermBank.store c.args.bank.now in
    let now = g.B.TermBank.store c.loop-left.bank in
    let d : Term = record { 0 = 0 } in
    let r = get_or c.args.items.now (c.loop-left.left - 1) d in
    let n = next old now (drop c.loop-left.left c.args.items.now) r c.loop-left.list c.loop-left.invariant.grows
    (c.requires r (item-in c.args.items.now (c.loop-left.left - 1) d (omega arith))) c.loop-left.invariant.lists in
    ap is_some (is_longer _ _ n.0 n.1.0 n.1.1 n.1.2)

pub loop-left-preserved : goal.loop-left-preserved
loop-left-preserved g c =
    let old = g.B.TermBank.store c.args.bank.now in
    let now = g.B.TermBank.store c.loop-left.bank in
    let d : Term = record { 0 = 0 } in
    let r = get_or c.args.items.now (c.loop-left.left - 1) d in
    let n = next old now (drop c.loop-left.left c.args.items.now) r c.loop-left.list c.loop-left.invariant.grows
    (c.requires r (item-in c.args.items.now (c.loop-left.left - 1) d (omega arith))) c.loop-left.invariant.lists in
    let made = c.in_ok-list-2.ensures.made in
    record {
      within = omega arith;
      grows = Grows-trans c.loop-left.invariant.grows (Grows-Makes c.in_ok-list-2.ensures);
      lists = (
        more n.0 n.1.0,
        subst (λ rs. HaveTrees old rs (to_list (more n.0 n.1.0))) (sym (dropped c.args.items.now c.loop-left.left d (omega arith) (omega arith))) n.1.3,
        made ∙ is_longer _ _ n.0 n.1.0 n.1.1 n.1.2,
      );
    }
