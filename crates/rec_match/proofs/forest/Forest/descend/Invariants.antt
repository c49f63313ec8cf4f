use Rattle.std.proofs.Common.{◌<◌, ◌-◌, length, drop}
use Rattle.rx_term.specs.Walks.{AllHeld}
use Rattle.rec_match.specs.Forests.{AllStand, Extends}
use Rattle.rec_match.proofs.forest.Forest.descend.Given as goal

abbrev pub invariant-switches : goal.invariant-switches
invariant-switches g l = record {
  held : AllHeld (g.B.TermBank.store l.bank) l.work.items;
  behind : Extends l.fn.work.items l.work.items;
  there : l.at < length l.self.nodes.items;
  stands : AllStand (g.B.TermBank.store l.bank) l.self l.root 0 (drop l.first l.fn.work.items) l.at (drop l.first l.work.items);
}

abbrev pub decreases-switches : goal.decreases-switches
decreases-switches g l = length l.self.nodes.items - l.at
