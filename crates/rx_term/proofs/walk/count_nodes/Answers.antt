use Rattle.std.proofs.Common.{ℕ, ◌≡◌, Option, Some, arith, sym, ap, ◌∙◌, subst, length}
use Rattle.rx_term.specs.Walks.{AllHeld, all_parts}
use Rattle.rx_term.proofs.WalkLemmas.{AllHeld-split, walked, counted-turn, counted-all}
use Rattle.rx_term.proofs.walk.count_nodes.Goals as goal

pub push_inside-requires : goal.push_inside-requires
push_inside-requires g c =
    let w = g.B.TermBank.store c.args.bank.now in
    (AllHeld-split w c.pop.new.self.items c.in-Some.u (subst (AllHeld w) c.in-Some.ensures.items c.loop-u.invariant.held)).1

pub loop-u-smaller : goal.loop-u-smaller
loop-u-smaller g c =
    let w = g.B.TermBank.store c.args.bank.now in
    let t = walked w c.loop-u.stack.items c.pop.new.self.items c.push_inside.new.stack.items c.push_anns.new.stack.items c.in-Some.u
    c.in-Some.ensures.items c.in_ok-push_inside.ensures c.in_ok-push_anns.ensures c.loop-u.invariant.held in
    omega (arith, t.1)

pub loop-u-preserved : goal.loop-u-preserved
loop-u-preserved g c =
    let w = g.B.TermBank.store c.args.bank.now in
    let t = walked w c.loop-u.stack.items c.pop.new.self.items c.push_inside.new.stack.items c.push_anns.new.stack.items c.in-Some.u
    c.in-Some.ensures.items c.in_ok-push_inside.ensures c.in_ok-push_anns.ensures c.loop-u.invariant.held in
    let e = counted-turn c.loop-u.count (length (all_parts w c.push_anns.new.stack.items)) (length (all_parts w c.loop-u.stack.items))
    c.saturating_add-count.result 18446744073709551615 c.saturating_add-count.ensures t.1 in
    record {
      held = t.0;
      within = omega (arith, c.saturating_add-count.ensures);
      same = c.loop-u.invariant.same ∙ ap (λ n. let o : Option ℕ = Some n in o) e;
    }

pub returns : goal.returns
returns g c =
    let w = g.B.TermBank.store c.args.bank.now in
    let none_left = c.in_default.ensures.cases.0 in
    let size = c.loop-u.stack.ok.0 in
    let empty : length c.loop-u.stack.items ≡ 0 = omega arith in
    let e = counted-all w c.loop-u.stack.items c.loop-u.count 18446744073709551615 empty c.loop-u.invariant.within in
    sym (c.loop-u.invariant.same ∙ ap (λ n. let o : Option ℕ = Some n in o) e)
