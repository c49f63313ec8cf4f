use Rattle.std.proofs.Common.{◌<◌, ◌≤◌, ap, arith}
use Rattle.rx_term.specs.Store.{Store}
use Rattle.rx_shared.specs.State.{store_of}
use Rattle.psilt_core.specs.Names.{names_of}
use Rattle.psilt_core.proofs.NameLemmas.{one_more_name, known_before, still_counted, still_same}
use Rattle.psilt_core.proofs.limited.LimitedBank.add.Goals as goal

pub invariant_of-self-then-symbol-from : goal.invariant_of-self-then-symbol-from
invariant_of-self-then-symbol-from c =
    let old = c.args.self.now.shared in let new = c.symbol.new.self in let s = c.in-Ok.symbol in
    let le : names_of (store_of old) ≤ s.0 = omega (arith, c.args.self.now.counted, c.if-symbol-from.true, c.from.ensures) in
    record { counted = omega (arith, c.args.self.now.counted, one_more_name old new _ s c.in-Ok.ensures le); same = tt }

pub invariant_of-self-else-symbol-from : goal.invariant_of-self-else-symbol-from
invariant_of-self-else-symbol-from c =
    let old = c.args.self.now.shared in let new = c.symbol.new.self in let s = c.in-Ok.symbol in
    let lt : s.0 < names_of (store_of old) = omega (arith, c.args.self.now.counted, c.if-symbol-from.false, c.from.ensures) in
    let same = ap (λ (w : Store). w.symbols) (known_before old new _ s c.in-Ok.ensures lt) in
    record {
      counted = still_counted c.args.self.now.names (store_of old) (store_of new) same c.args.self.now.counted;
      same = still_same c.args.self.now.known (store_of old) (store_of new) same c.args.self.now.same;
    }
