use Rattle.std.proofs.Common.{◌<◌, ◌-◌, length, drop}
use Rattle.rx_term.specs.Walks.{AllHeld}
use Rattle.rec_match.specs.Forests.{AllStand, Extends}
use Rattle.rec_match.proofs.forest.Forest.walk.Given as goal

abbrev pub invariant-loop-rule : goal.invariant-loop-rule
invariant-loop-rule g l = record {
  held : AllHeld (g.B.TermBank.store l.bank) l.work.items;
  behind : Extends l.fn.work.items l.work.items;
  there : l.at < length l.self.nodes.items;
  stands : AllStand (g.B.TermBank.store l.bank) l.self l.root l.least (drop l.first l.fn.work.items) l.at (drop l.first l.work.items);
}

abbrev pub decreases-loop-rule : goal.decreases-loop-rule
decreases-loop-rule g l = length l.self.nodes.items - l.at
