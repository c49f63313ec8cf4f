use Rattle.std.proofs.Common.{sym, subst}
use Rattle.std.specs.FinMap as map
use Rattle.std.specs.Prelude.{◌≢◌, ℕ, Some}
use Rattle.rx_shared.specs.State.{store_of}
use Rattle.rx_shared.specs.declared.bank.SharedBank.{SharedBank}
use Rattle.psilt_core.proofs.NameLemmas.{found_symbols, still_counted, still_same}
use Rattle.psilt_core.proofs.limited.LimitedBank.find.Goals as goal

pub invariant_of-self : goal.invariant_of-self
invariant_of-self c =
    let mid = c.is_known.new.self in let new = c.symbol.new.self in
    let has = subst (λ (b : SharedBank). ((s : ℕ) → map.get (store_of b).symbols s ≢ Some
    (record { name = c.args.name.now; quoted = c.args.quoted; arity = c.args.arity })) → ⊥) (sym c.is_known.ensures.shared)
    (c.in-Ok-true.ensures.has c.in-Ok-true.field-0-test) in
    let same = found_symbols mid.shared new _ c.symbol.result c.symbol.ensures has in
    record {
      counted = still_counted mid.names (store_of mid.shared) (store_of new) same mid.counted;
      same = still_same mid.known (store_of mid.shared) (store_of new) same mid.same;
    }
