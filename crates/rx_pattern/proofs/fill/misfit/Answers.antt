use Rattle.std.proofs.Common.{◌+◌, ◌∙◌, sym, ap, map, drop}
use Rattle.rx_term.specs.declared.Term.{Term}
use Rattle.rx_pattern.specs.Nodes.{step_of}
use Rattle.rx_pattern.specs.Making.{blanks_of_steps}
use Rattle.rx_term.proofs.WalkLemmas.{AllHeld-at}
use Rattle.rx_pattern.proofs.FittingLemmas.{HaveTrees-length, at_place, turn_taken, turn_refused, turn_other, started, all_fit, as_many, drop-past}
use Rattle.rx_pattern.proofs.MatchLemmas.{next_step}
use Rattle.rx_pattern.proofs.fill.misfit.Goals as goal
use Rattle.rx_pattern.proofs.fill.misfit.Goals.{then-is_blank+else-not-takes, else-is_blank}

abbrev no_term : Term
no_term = record { 0 = 0 }

pub loop-node-init : goal.loop-node-init
loop-node-init g c = started (g.B.TermBank.store c.args.bank.now) (blanks_of_steps (map step_of c.args.nodes.now)) c.args.args.now
    (sym c.count_blanks.ensures ∙ c.if-count_blanks-args.false)

pub returns-then-count_blanks-args : goal.returns-then-count_blanks-args
returns-then-count_blanks-args g c = λ bs held same.
    c.if-count_blanks-args.true (c.count_blanks.ensures ∙ sym same ∙ sym (HaveTrees-length (g.B.TermBank.store c.args.bank.now) c.args.args.now bs held))

pub bounds-args-at : goal.bounds-args-at
bounds-args-at g c =
    let w = g.B.TermBank.store c.args.bank.now in
    let nodes = c.args.nodes.now in
    let i = c.loop-node.node-index in
    let n = c.node-item.result in
    at_place w (blanks_of_steps (map step_of nodes)) (blanks_of_steps (map step_of (drop i nodes)))
    (blanks_of_steps (map step_of (drop (i + 1) nodes))) (step_of n) c.args.args.now c.loop-node.at i
    (ap blanks_of_steps (next_step nodes i n c.loop-node-test.true c.node-item.is)) c.loop-node.invariant (sym c.is_blank.ensures ∙ c.if-is_blank.true)

pub takes-requires : goal.takes-requires
takes-requires g c =
    let w = g.B.TermBank.store c.args.bank.now in
    let nodes = c.args.nodes.now in
    let i = c.loop-node.node-index in
    let n = c.node-item.result in
    AllHeld-at w c.args.args.now c.loop-node.at no_term c.requires
    (at_place w (blanks_of_steps (map step_of nodes)) (blanks_of_steps (map step_of (drop i nodes)))
    (blanks_of_steps (map step_of (drop (i + 1) nodes))) (step_of n) c.args.args.now c.loop-node.at i
    (ap blanks_of_steps (next_step nodes i n c.loop-node-test.true c.node-item.is)) c.loop-node.invariant (sym c.is_blank.ensures ∙ c.if-is_blank.true))

pub returns-then-not-takes : goal.returns-then-not-takes
returns-then-not-takes g c = λ bs held.
    let w = g.B.TermBank.store c.args.bank.now in
    let nodes = c.args.nodes.now in
    let i = c.loop-node.node-index in
    let n = c.node-item.result in (
      as_many w c.args.args.now bs (blanks_of_steps (map step_of nodes)) c.count_blanks.result held c.count_blanks.ensures c.if-count_blanks-args.false,
      turn_refused w (blanks_of_steps (map step_of nodes)) (blanks_of_steps (map step_of (drop i nodes)))
          (blanks_of_steps (map step_of (drop (i + 1) nodes))) (step_of n) c.args.args.now c.loop-node.at i
          (ap blanks_of_steps (next_step nodes i n c.loop-node-test.true c.node-item.is)) c.loop-node.invariant (sym c.is_blank.ensures ∙ c.if-is_blank.true)
          no_term c.takes.result c.takes.ensures c.if-not-takes.true bs held,
    )

pub loop-node-preserved : goal.loop-node-preserved
loop-node-preserved g c =
    let bank = g.B.TermBank.store c.args.bank.now in
    let nodes = c.args.nodes.now in
    let i = c.loop-node.node-index in
    let n = c.node-item.result in
    let all = blanks_of_steps (map step_of nodes) in
    let here = blanks_of_steps (map step_of (drop i nodes)) in
    let left = blanks_of_steps (map step_of (drop (i + 1) nodes)) in
    let steps = ap blanks_of_steps (next_step nodes i n c.loop-node-test.true c.node-item.is) in
    elim c.if-is_blank.branch [
      | then-is_blank+else-not-takes w ↦ rw w.at-is (turn_taken bank all here left (step_of n) c.args.args.now c.loop-node.at i steps
          c.loop-node.invariant (sym c.is_blank.ensures ∙ w.if-is_blank.true) no_term w.takes.result w.takes.ensures w.if-not-takes.false)
      | else-is_blank w ↦ rw w.at-is (turn_other bank all here left (step_of n) c.args.args.now c.loop-node.at i steps c.loop-node.invariant
          (sym c.is_blank.ensures ∙ w.if-is_blank.false))
    ]

pub returns : goal.returns
returns g c = λ bs held.
    let w = g.B.TermBank.store c.args.bank.now in
    let nodes = c.args.nodes.now in (
      as_many w c.args.args.now bs (blanks_of_steps (map step_of nodes)) c.count_blanks.result held c.count_blanks.ensures c.if-count_blanks-args.false,
      all_fit w (blanks_of_steps (map step_of nodes)) (blanks_of_steps (map step_of (drop c.loop-node.node-index nodes))) c.args.args.now
          c.loop-node.at c.loop-node.node-index (ap (λ ns. blanks_of_steps (map step_of ns))
          (drop-past nodes c.loop-node.node-index c.loop-node-test.false)) c.loop-node.invariant bs held,
    )
