use Rattle.std.proofs.Common.{◌+◌, ◌∙◌, ap, List, [], ◌∷◌, ◌++◌, map, drop, Option, Some, unwrap_or}
use Rattle.rx_term.specs.Tree.{Items, none}
use Rattle.rx_term.specs.Store.{tree_at}
use Rattle.rx_term.specs.declared.Term.{Term}
use Rattle.rx_term.proofs.StoreLemmas.{Grows-refl, Grows-trans}
use Rattle.rx_pattern.specs.Matching.{matching}
use Rattle.rx_pattern.specs.Nodes.{step_of, tree_of_nodes}
use Rattle.rx_pattern.proofs.SpellingLemmas.{one_piece, all_spelt}
use Rattle.rx_pattern.proofs.StackLemmas.{held_tree}
use Rattle.rx_pattern.proofs.MatchLemmas.{begun, turn_needs, turn_off, turn_on, not_matched, next_step, popped}
use Rattle.rx_pattern.proofs.BareListLemmas.{adds_nothing, adds_more}
use Rattle.rx_pattern.proofs.subjects.match_nodes.Goals as goal

pub loop-node-init : goal.loop-node-init
loop-node-init g c =
    let w = g.B.TermBank.store c.args.bank.now in
    let nodes = c.args.nodes.now in
    record {
      underway = begun w (map step_of nodes) (tree_of_nodes nodes) (unwrap_or (tree_at w c.args.t) (Items none none)) c.args.t c.push.new.self.items
          c.args.out.now.items (all_spelt nodes c.requires.nodes) (one_piece nodes c.requires.nodes)
          (held_tree (tree_at w c.args.t) (Items none none) c.requires.held)
          (c.in_ok-push.ensures.items ∙ ap (λ (xs : List (Option Term)). xs ++ Some c.args.t ∷ []) c.new-subjects.ensures.items) c.requires.empty;
      grows = Grows-refl w;
      added = adds_nothing w;
    }

pub match_node-requires : goal.match_node-requires
match_node-requires g c =
    let w = g.B.TermBank.store c.loop-node.bank in
    let nodes = c.args.nodes.now in
    let i = c.loop-node.node-index in
    let n = c.node-item.result in
    let h = rw (next_step nodes i n c.loop-node-test.true c.node-item.is) at c.loop-node.invariant.underway in
    turn_needs w (step_of n) (map step_of (drop (i + 1) nodes)) _ c.loop-node.subjects.items c.loop-node.out.items h c.pop.new.self.items
    c.unwrap-subject.result
    (popped c.loop-node.subjects.items c.pop.new.self.items c.pop.result c.unwrap-subject.result c.pop.ensures.items c.unwrap-subject.ensures)

pub returns-then-not-branch-clause-answer : goal.returns-then-not-branch-clause-answer
returns-then-not-branch-clause-answer g c = λ u e.
    let w = g.B.TermBank.store c.loop-node.bank in
    let nodes = c.args.nodes.now in
    let i = c.loop-node.node-index in
    let n = c.node-item.result in
    let h = rw (next_step nodes i n c.loop-node-test.true c.node-item.is) at c.loop-node.invariant.underway in
    let met = rw c.if-not-branch.true at c.in_ok-match_node.ensures.met in
    let off = turn_off w (step_of n) (map step_of (drop (i + 1) nodes))
    (matching (tree_of_nodes nodes) (unwrap_or (tree_at (g.B.TermBank.store c.args.bank.now) c.args.t) (Items none none)))
    c.loop-node.subjects.items c.loop-node.out.items h
    c.pop.new.self.items c.unwrap-subject.result (popped c.loop-node.subjects.items c.pop.new.self.items c.pop.result c.unwrap-subject.result
    c.pop.ensures.items c.unwrap-subject.ensures)
    (g.B.TermBank.store c.match_node.new.bank) c.match_node.new.subjects.items c.match_node.new.out.items met in
    not_matched (g.B.TermBank.store c.match_node.new.bank) _ c.match_node.new.out.items (rw e at off)

pub loop-node-preserved : goal.loop-node-preserved
loop-node-preserved g c =
    let w = g.B.TermBank.store c.loop-node.bank in
    let new = g.B.TermBank.store c.match_node.new.bank in
    let nodes = c.args.nodes.now in
    let i = c.loop-node.node-index in
    let n = c.node-item.result in
    let h = rw (next_step nodes i n c.loop-node-test.true c.node-item.is) at c.loop-node.invariant.underway in
    let met = rw c.if-not-branch.false at c.in_ok-match_node.ensures.met in
    record {
      underway = turn_on w (step_of n) (map step_of (drop (i + 1) nodes))
          (matching (tree_of_nodes nodes) (unwrap_or (tree_at (g.B.TermBank.store c.args.bank.now) c.args.t) (Items none none)))
          c.loop-node.subjects.items c.loop-node.out.items h
          c.pop.new.self.items c.unwrap-subject.result (popped c.loop-node.subjects.items c.pop.new.self.items c.pop.result c.unwrap-subject.result
          c.pop.ensures.items c.unwrap-subject.ensures) new c.match_node.new.subjects.items c.match_node.new.out.items met;
      grows = Grows-trans c.loop-node.invariant.grows c.match_node.ensures.grows;
      added = adds_more (g.B.TermBank.store c.args.bank.now) w new c.loop-node.invariant.added c.match_node.ensures.added;
    }

pub returns-in_err-match_node-clause-added : goal.returns-in_err-match_node-clause-added
returns-in_err-match_node-clause-added g c = adds_more (g.B.TermBank.store c.args.bank.now) (g.B.TermBank.store c.loop-node.bank)
    (g.B.TermBank.store c.match_node.new.bank) c.loop-node.invariant.added c.match_node.ensures.added

pub returns-then-not-branch-clause-added : goal.returns-then-not-branch-clause-added
returns-then-not-branch-clause-added g c = adds_more (g.B.TermBank.store c.args.bank.now) (g.B.TermBank.store c.loop-node.bank)
    (g.B.TermBank.store c.match_node.new.bank) c.loop-node.invariant.added c.match_node.ensures.added
