use Rattle.std.proofs.Common.{ℕ, ◌≡◌, ◌≤◌, List, length, take}
use Rattle.rec_match.specs.Parts.{Coded}
use Rattle.rec_match.specs.Inner.Shares.{symbols_of, AreShares}
use Rattle.rec_match.specs.Inner.Tasks.{tasks_of, BranchesOut}
use Rattle.rec_match.specs.Matching.{numbers_of}
use Rattle.rec_match.proofs.grow.Grower.add_children.Given as goal

abbrev pub invariant-loop-share : goal.invariant-loop-share
invariant-loop-share l = record {
  front : take (length l.shares.items) l.fn.shares.items ≡ l.shares.items;
  long : length l.children.items ≡ l.window.span;
  longer : length l.fn.growth.forest.nodes.items ≤ length l.growth.forest.nodes.items;
  out : (register : ℕ) (coded : List Coded) → AreShares l.self.left.now.parts register l.width (symbols_of l.fn.shares.items) coded l.fn.shares.items
      → BranchesOut l.self.checked.now.spec (numbers_of l.self.links.now) l.self.left.now.parts l.fn.growth.forest (tasks_of l.fn.growth) l.width
      coded l.growth.forest (tasks_of l.growth) register l.window.low (symbols_of l.fn.shares.items) l.children.items (length l.shares.items);
}

abbrev pub decreases-loop-share : goal.decreases-loop-share
decreases-loop-share l = length l.shares.items
