use Rattle.std.proofs.Common.{◌<◌, ◌≤◌, length, arith}
use Rattle.rx_arena.proofs.DealingLemmas.{gathering_begins, gather_within, gathered_on, gathered_gone, gathered_one, gathered_all, gathered_same}
use Rattle.rx_arena.proofs.arena.Arena.gather.Goals as goal

pub loop-from-init : goal.loop-from-init
loop-from-init c = gathering_begins c.args.self.now c.requires

pub move_chain-requires-clause-from : goal.move_chain-requires-clause-from
move_chain-requires-clause-from c =
    let high : c.loop-from.from < length c.args.self.now.chains = omega (arith, c.loop-from-test.true, c.chains-old.ensures.count) in
    gather_within c.args.self.now c.loop-from.from c.loop-from.self c.loop-from.invariant c.loop-from.auto.from high

pub loop-from-preserved : goal.loop-from-preserved
loop-from-preserved c =
    let e = c.move_chain.ensures in
    let high : c.loop-from.from < length c.args.self.now.chains = omega (arith, c.loop-from-test.true, c.chains-old.ensures.count) in
    gathered_on c.args.self.now c.loop-from.from c.loop-from.self c.loop-from.invariant c.loop-from.auto.from high c.move_chain.new.self e.chains
    e.rest e.others e.moved e.empty

pub keep_chains-requires : goal.keep_chains-requires
keep_chains-requires c =
    let all : length c.args.self.now.chains ≤ c.loop-from.from = omega (arith, c.loop-from-test.false, c.chains-old.ensures.count) in
    gathered_gone c.args.self.now c.loop-from.from c.loop-from.self c.loop-from.invariant all

pub returns-clause-one : goal.returns-clause-one
returns-clause-one c =
    let all : length c.args.self.now.chains ≤ c.loop-from.from = omega (arith, c.loop-from-test.false, c.chains-old.ensures.count) in
    gathered_one c.args.self.now c.loop-from.from c.loop-from.self c.loop-from.invariant all c.requires c.keep_chains.new.self c.keep_chains.ensures.after

pub returns-clause-all : goal.returns-clause-all
returns-clause-all c =
    let all : length c.args.self.now.chains ≤ c.loop-from.from = omega (arith, c.loop-from-test.false, c.chains-old.ensures.count) in
    gathered_all c.args.self.now c.loop-from.from c.loop-from.self c.loop-from.invariant all c.requires c.keep_chains.new.self c.keep_chains.ensures.after

pub returns-clause-rest : goal.returns-clause-rest
returns-clause-rest c =
    let all : length c.args.self.now.chains ≤ c.loop-from.from = omega (arith, c.loop-from-test.false, c.chains-old.ensures.count) in
    gathered_same c.args.self.now c.loop-from.from c.loop-from.self c.loop-from.invariant all c.requires c.keep_chains.new.self c.keep_chains.ensures.after
