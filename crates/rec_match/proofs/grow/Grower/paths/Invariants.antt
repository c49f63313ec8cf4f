use Rattle.std.proofs.Common.{ℕ, List, [], map, take}
use Rattle.rec_sorts.specs.Numbering.{variable_count}
use Rattle.rec_match.specs.Inner.Growing.{State}
use Rattle.rec_match.specs.Parts.{coded_of}
use Rattle.rec_match.specs.Inner.Paths.{TreesGoOn}
use Rattle.rec_match.specs.Placed.{ArePlaces}
use Rattle.rec_match.specs.Rows.{Row}
use Rattle.rec_match.specs.Inner.Tasks.{Growing, AreLeft}
use Rattle.rec_match.specs.Matching.{numbers_of}
use Rattle.rec_match.proofs.grow.Grower.paths.Given as goal

abbrev pub invariant-loop-row : goal.invariant-loop-row
invariant-loop-row l = record {
  given : ArePlaces [] (variable_count l.self.checked.now.spec) l.given;
  trees : (s : ℕ → State) (rows : List Row) → Growing l.self.checked.now.spec (numbers_of l.self.links.now) l.self.left.now.parts l.fn.forest [] s
      → AreLeft l.self.checked.now.spec l.self.left.now.parts l.width (map coded_of l.rows) rows
      → TreesGoOn l.self.checked.now.spec (numbers_of l.self.links.now) l.self.left.now.parts l.fn.forest s l.width (take l.row-index rows) l.forest
      l.roots.items;
}
