use Rattle.std.proofs.Common.{[], ◌∷◌, get_or, arith}
use Rattle.rx_term.proofs.StoreLemmas.{Grows-refl, Grows-trans}
use Rattle.rx_text.proofs.MakingLemmas.{begun, turn, turn_needs, ended, only_one, held_length, drop-past, no_node, next_node}
use Rattle.rx_text.proofs.build.build.Goals as goal

pub loop-node-init : goal.loop-node-init
loop-node-init g c = record {
  under_way = begun _ c.args.bytes.now _ c.args.nodes.now c.requires.0 c.new-made.ensures.items c.requires.1;
  grows = Grows-refl _;
}

pub make_node-requires : goal.make_node-requires
make_node-requires g c =
    let l = c.loop-node in
    let cut = next_node c.args.nodes.now l.node-index c.loop-node-test.true in
    let h = turn_needs (g.B.TermBank.store l.bank) c.args.bytes.now l.made.items c.args.nodes.now _ _ (get_or c.args.nodes.now l.node-index no_node)
    cut l.invariant.under_way in
    record { held = h.0; name = h.1 }

pub loop-node-preserved : goal.loop-node-preserved
loop-node-preserved g c =
    let l = c.loop-node in
    let cut = next_node c.args.nodes.now l.node-index c.loop-node-test.true in
    record {
      under_way = rw c.in_ok-push.ensures.items (turn (g.B.TermBank.store l.bank) (g.B.TermBank.store c.make_node.new.bank) c.args.bytes.now l.made.items _
          c.args.nodes.now _ _ (get_or c.args.nodes.now l.node-index no_node) cut l.invariant.under_way c.in_ok-term.ensures.made);
      grows = Grows-trans l.invariant.grows c.make_node.ensures.grows;
    }

pub index-requires : goal.index-requires
index-requires g c =
    let l = c.loop-node in
    let h = ended (g.B.TermBank.store l.bank) c.args.bytes.now l.made.items c.args.nodes.now _ c.requires.0
    (drop-past c.args.nodes.now l.node-index c.loop-node-test.false) l.invariant.under_way c.requires.1 in
    let one = held_length (g.B.TermBank.store l.bank) l.made.items (c.requires.0 ∷ []) h in
    omega (arith, one, l.made.ok.0)

pub returns-clause-made : goal.returns-clause-made
returns-clause-made g c = λ t nodes.
    let l = c.loop-node in
    let h = ended (g.B.TermBank.store l.bank) c.args.bytes.now l.made.items c.args.nodes.now _ t
    (drop-past c.args.nodes.now l.node-index c.loop-node-test.false) l.invariant.under_way nodes in
    only_one (g.B.TermBank.store l.bank) l.made.items c.index.result.now t h c.index.ensures

pub returns-in_err-term-clause-grows : goal.returns-in_err-term-clause-grows
returns-in_err-term-clause-grows g c = Grows-trans c.loop-node.invariant.grows c.make_node.ensures.grows

pub returns-in_err-push-clause-grows : goal.returns-in_err-push-clause-grows
returns-in_err-push-clause-grows g c = Grows-trans c.loop-node.invariant.grows c.make_node.ensures.grows

pub returns-clause-grows : goal.returns-clause-grows
returns-clause-grows g c = c.loop-node.invariant.grows
