use Rattle.std.proofs.Common.{◌-◌, get_or, sym, ◌∙◌, arith, rules}
use Rattle.rx_pattern.proofs.FittingLemmas.{same_at}
use Rattle.rx_pattern.proofs.MatchLemmas.{popped}
use Rattle.rx_pattern.proofs.FillLemmas.{fits_all, begun, back, left_some, parts_there, valid_there}
use Rattle.rx_pattern.proofs.FillLemmas.{blank_on, join_on, all_filled, made_tree, some_made, stack_there}
use Rattle.rx_pattern.proofs.fill.fill.Goals as goal

pub loop-at-init : goal.loop-at-init
loop-at-init g c =
    let old = g.B.TermBank.store c.args.bank.now in
    let f = fits_all old c.args.nodes.now c.args.args.now c.requires.fitting.0 c.requires.fitting.1 c.requires.fitting.2 in
    begun old c.args.nodes.now c.args.args.now c.new-made.result.items f c.new-made.ensures.items

pub overflow_sub-left : goal.overflow_sub-left
overflow_sub-left g c =
    let old = g.B.TermBank.store c.args.bank.now in
    let w = g.B.TermBank.store c.loop-at.bank in
    let h = back old w c.args.nodes.now c.args.args.now c.loop-at.made.items c.loop-at.at c.loop-at.left (omega arith) c.loop-at.invariant in
    let some = left_some old w c.args.nodes.now c.args.args.now c.loop-at.made.items (c.loop-at.at - 1) c.loop-at.left c.index-nodes-at.result
    c.requires.nodes h c.index-nodes-at.is (sym c.is_blank.ensures ∙ c.if-is_blank.true) in
    omega (arith, some)

pub bounds-args-left : goal.bounds-args-left
bounds-args-left g c =
    let old = g.B.TermBank.store c.args.bank.now in
    let w = g.B.TermBank.store c.loop-at.bank in
    let h = back old w c.args.nodes.now c.args.args.now c.loop-at.made.items c.loop-at.at c.loop-at.left (omega arith) c.loop-at.invariant in
    let some = left_some old w c.args.nodes.now c.args.args.now c.loop-at.made.items (c.loop-at.at - 1) c.loop-at.left c.index-nodes-at.result
    c.requires.nodes h c.index-nodes-at.is (sym c.is_blank.ensures ∙ c.if-is_blank.true) in
    let most = c.loop-at.invariant.left_within in
    omega (arith, some, most)

pub loop-at-preserved-in-Continue-1 : goal.loop-at-preserved-in-Continue-1
loop-at-preserved-in-Continue-1 g c =
    let old = g.B.TermBank.store c.args.bank.now in
    let w = g.B.TermBank.store c.loop-at.bank in
    let h = back old w c.args.nodes.now c.args.args.now c.loop-at.made.items c.loop-at.at c.loop-at.left (omega arith) c.loop-at.invariant in
    let some = left_some old w c.args.nodes.now c.args.args.now c.loop-at.made.items (c.loop-at.at - 1) c.loop-at.left c.index-nodes-at.result
    c.requires.nodes h c.index-nodes-at.is (sym c.is_blank.ensures ∙ c.if-is_blank.true) in
    let most = c.loop-at.invariant.left_within in
    blank_on old w c.args.nodes.now c.args.args.now c.loop-at.made.items (c.loop-at.at - 1) c.loop-at.left c.index-nodes-at.result c.requires.nodes h
    c.index-nodes-at.is (sym c.is_blank.ensures ∙ c.if-is_blank.true) (get_or c.args.args.now (c.loop-at.left - 1) (record { 0 = 0 })) c.push.new.self.items
    (same_at c.args.args.now (c.loop-at.left - 1) (record { 0 = 0 }) (get_or c.args.args.now (c.loop-at.left - 1) (record { 0 = 0 }))
    (omega (arith, some, most))) c.in_ok-push.ensures.items

pub join-requires-clause-parts : goal.join-requires-clause-parts
join-requires-clause-parts g c =
    let old = g.B.TermBank.store c.args.bank.now in
    let w = g.B.TermBank.store c.loop-at.bank in
    let h = back old w c.args.nodes.now c.args.args.now c.loop-at.made.items c.loop-at.at c.loop-at.left (omega arith) c.loop-at.invariant in
    parts_there old w c.args.nodes.now c.args.args.now c.loop-at.made.items (c.loop-at.at - 1) c.loop-at.left c.index-nodes-at.result c.requires.nodes
    h c.index-nodes-at.is (sym c.is_blank.ensures ∙ c.if-is_blank.false)

pub join-requires-clause-valid : goal.join-requires-clause-valid
join-requires-clause-valid g c =
    let old = g.B.TermBank.store c.args.bank.now in
    let w = g.B.TermBank.store c.loop-at.bank in
    let h = back old w c.args.nodes.now c.args.args.now c.loop-at.made.items c.loop-at.at c.loop-at.left (omega arith) c.loop-at.invariant in
    valid_there old w c.args.nodes.now c.args.args.now c.loop-at.made.items (c.loop-at.at - 1) c.loop-at.left c.index-nodes-at.result c.requires.nodes
    h c.index-nodes-at.is

pub loop-at-preserved : goal.loop-at-preserved
loop-at-preserved g c =
    let old = g.B.TermBank.store c.args.bank.now in
    let w = g.B.TermBank.store c.loop-at.bank in
    let h = back old w c.args.nodes.now c.args.args.now c.loop-at.made.items c.loop-at.at c.loop-at.left (omega arith) c.loop-at.invariant in
    join_on old w c.args.nodes.now c.args.args.now c.loop-at.made.items (c.loop-at.at - 1) c.loop-at.left c.index-nodes-at.result c.requires.nodes h
    c.index-nodes-at.is (sym c.is_blank.ensures ∙ c.if-is_blank.false)
    (g.B.TermBank.store c.join.new.bank) c.join.new.made.items c.join.ensures.grows c.in_ok-join.ensures.made

pub unwrap-requires : goal.unwrap-requires
unwrap-requires g c =
    let old = g.B.TermBank.store c.args.bank.now in
    let w = g.B.TermBank.store c.loop-at.bank in
    let some = stack_there old w c.args.nodes.now c.args.args.now c.loop-at.made.items c.loop-at.at c.loop-at.left c.requires.nodes (omega arith)
    c.loop-at.invariant in
    search (rules, some)

pub unwrap-requires-2 : goal.unwrap-requires-2
unwrap-requires-2 g c =
    let old = g.B.TermBank.store c.args.bank.now in
    let w = g.B.TermBank.store c.loop-at.bank in
    some_made w c.unwrap.result _ (all_filled old w c.args.nodes.now c.args.args.now c.loop-at.made.items c.pop.new.self.items c.unwrap.result
    c.loop-at.at c.loop-at.left c.requires.nodes (omega arith) c.loop-at.invariant
    (popped c.loop-at.made.items c.pop.new.self.items c.pop.result c.unwrap.result c.pop.ensures.items c.unwrap.ensures))

pub returns-clause-made : goal.returns-clause-made
returns-clause-made g c = λ bs held.
    let old = g.B.TermBank.store c.args.bank.now in
    let w = g.B.TermBank.store c.loop-at.bank in
    made_tree old w c.args.nodes.now c.args.args.now c.unwrap.result c.unwrap-2.result bs
    (all_filled old w c.args.nodes.now c.args.args.now c.loop-at.made.items c.pop.new.self.items c.unwrap.result c.loop-at.at c.loop-at.left
    c.requires.nodes (omega arith) c.loop-at.invariant
    (popped c.loop-at.made.items c.pop.new.self.items c.pop.result c.unwrap.result c.pop.ensures.items c.unwrap.ensures)) c.unwrap-2.ensures held
