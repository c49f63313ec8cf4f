use Rattle.std.proofs.Common.{ℕ, ◌≡◌, ◌<◌, ◌≤◌, length, get_or}
use Rattle.rec_match.specs.Parts.{coded_of}
use Rattle.rec_match.specs.Inner.Shares.{AddsRow}
use Rattle.rec_match.specs.declared.shares.Share.{Share}
use Rattle.rec_match.proofs.parts.Parts.push_to_each.Given as goal

abbrev pub invariant-loop-i : goal.invariant-loop-i
invariant-loop-i l = record {
  counted : length l.shares ≡ length l.fn.shares;
  done : (j : ℕ) (d : Share) → j < l.i → AddsRow l.self l.opening.register l.opening.base (coded_of l.row) (get_or l.fn.shares j d) (get_or l.shares j d);
  others : (j : ℕ) (d : Share) → l.i ≤ j → get_or l.shares j d ≡ get_or l.fn.shares j d;
}
