use Rattle.std.proofs.Common.{◌≡◌, ◌+◌, ◌-◌, ◌≤◌, sym, subst, ◌∙◌, arith}
use Rattle.rx_sweep.proofs.HomingLemmas.{Sweeping, sweeping_begins, sweeping_there, sweeping_past, sweeping_on, sweeping_end}
use Rattle.rx_sweep.proofs.sweeping.sweep_by_hash.Goals as goal

pub loop-number-init : goal.loop-number-init
loop-number-init c = sweeping_begins c.args.arena.now c.slots-number.result c.slots-number.ensures.law c.requires.no_gray c.slots-number.ensures.past

pub drop_slot-requires-clause-there : goal.drop_slot-requires-clause-there
drop_slot-requires-clause-there c =
    let next : c.loop-number.number ≡ (c.loop-number.number - 1) + 1 = let pos = c.loop-number-test.true in omega (arith, pos) in
    let inv = subst (λ n. Sweeping c.args.arena.now n c.loop-number.arena) next c.loop-number.invariant in
    sweeping_there c.args.arena.now (c.loop-number.number - 1) c.loop-number.arena inv (sym c.holds_unmarked.ensures ∙ c.if-holds_unmarked.true)
    c.requires.chained c.requires.homed

pub loop-number-preserved-then-holds_unmarked : goal.loop-number-preserved-then-holds_unmarked
loop-number-preserved-then-holds_unmarked c =
    let next : c.loop-number.number ≡ (c.loop-number.number - 1) + 1 = let pos = c.loop-number-test.true in omega (arith, pos) in
    let inv = subst (λ n. Sweeping c.args.arena.now n c.loop-number.arena) next c.loop-number.invariant in
    let white = sym c.holds_unmarked.ensures ∙ c.if-holds_unmarked.true in
    let there = sweeping_there c.args.arena.now (c.loop-number.number - 1) c.loop-number.arena inv white c.requires.chained c.requires.homed in
    sweeping_on c.args.arena.now (c.loop-number.number - 1) c.loop-number.arena inv white there c.drop_slot.new.arena c.drop_slot.ensures.after
    c.requires.homed c.drop_slot.ensures.law

pub loop-number-preserved : goal.loop-number-preserved
loop-number-preserved c =
    let next : c.loop-number.number ≡ (c.loop-number.number - 1) + 1 = let pos = c.loop-number-test.true in omega (arith, pos) in
    let inv = subst (λ n. Sweeping c.args.arena.now n c.loop-number.arena) next c.loop-number.invariant in
    sweeping_past c.args.arena.now (c.loop-number.number - 1) c.loop-number.arena inv c.slots-number.ensures.law
    (sym c.holds_unmarked.ensures ∙ c.if-holds_unmarked.false)

pub returns-clause-swept : goal.returns-clause-swept
returns-clause-swept c =
    let inv = c.loop-number.invariant in
    let zero : c.loop-number.number ≤ 0 = let end = c.loop-number-test.false in omega (arith, end) in
    record {
      cells = λ s. inv.cells.done s (omega (arith, zero));
      chains = sweeping_end c.args.arena.now c.loop-number.number c.loop-number.arena inv zero;
      no_gray = inv.cells.gray;
      spare = inv.cells.spare;
      cap = inv.cells.cap;
    }
