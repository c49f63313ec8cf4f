use Rattle.std.proofs.Common.{◌≡◌, true, take, nat_lt}
use Rattle.std.specs.List.{list_all}
use Rattle.rx_names.proofs.words.copy_of.Given as goal

abbrev pub invariant-loop-byte : goal.invariant-loop-byte
invariant-loop-byte l = record {
  same : l.copy.items ≡ take l.byte-index l.bytes;
  fit : list_all (λ b. nat_lt b 256) l.copy.items ≡ true;
}
