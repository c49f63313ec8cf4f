use Rattle.std.proofs.Common.{◌≡◌, ◌≤◌, length, drop}
use Rattle.rec_sorts.specs.Lookup.{declared, symbol, symbols}
use Rattle.psilt_core.proofs.calling.named.Given as goal

abbrev pub invariant-loop-number : goal.invariant-loop-number
invariant-loop-number l = record {
  within : l.number ≤ length (symbols l.checked.spec);
  rest : symbol l.checked.spec l.name ≡ declared (drop l.number (symbols l.checked.spec)) l.name;
}
