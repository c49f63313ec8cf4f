-- Straight paths: trees for one rule, with one row at each node.
use Rattle.std.specs.Prelude.{ℕ, ◌≡◌, ◌+◌, ◌-◌, ◌*◌, ◌^◌, ◌<◌, List, [], ◌∷◌, ◌++◌, All, length}
use Rattle.std.specs.Prelude.{reverse}
use Rattle.rec_syntax.specs.Syntax.{Spec}
use Rattle.rec_sorts.specs.Lookup.{symbols}
use Rattle.rec_sorts.specs.Numbering.{name_of, arity_of, variable_count}
use Rattle.rec_sorts.specs.declared.letters.Meaning.TheVariants.{Symbol}
use Rattle.rec_match.specs.Inner.Growing.{State, StandFor}
use Rattle.rec_match.specs.Leaves.{IsValue}
use Rattle.rec_match.specs.Parts.{part_at, IsCode, Coded}
use Rattle.rec_match.specs.Rows.{Row}
use Rattle.rec_match.specs.Inner.Running.{root_rows}
use Rattle.rec_match.specs.Inner.Tasks.{Task, AreLeft, Growing, GoesOn}
use Rattle.rec_match.specs.Matching.{numbers_of}
use Rattle.rec_match.specs.declared.forest.Forest.{Forest}
use Rattle.rec_match.specs.declared.grow.Grower.{Grower}
use Rattle.rec_match.specs.declared.parts.Code.{Code}
use Rattle.rec_match.specs.declared.parts.Parts.{Parts}
use Rattle.rec_match.specs.declared.path.Path.{Path}

-- waiting p left: the pending node of a path, with the variables and the tests that remain
abbrev pub waiting : Path → List Code → Task
waiting p left = record {
  node = p.node;
  width = p.width;
  rows = (record { number = p.rule; codes = p.values.items ++ left }) ∷ [];
}

-- path_task p: the pending node of a path
abbrev pub path_task : Path → Task
path_task p = waiting p (reverse p.rest.items)

-- left_to_ask p f: a measure of the remaining tests; each symbol takes nodes, whose number is
-- bounded
abbrev pub left_to_ask : Path → Forest → ℕ
left_to_ask p f = (2 ^ 33 - length f.nodes.items) * 2 ^ 64 + length p.rest.items

-- AsksFor g c k: the test is for symbol `k`
pub record AsksFor (g : Grower) (c : Code) (k : ℕ) : Type 0 where
  pub code : IsCode g.left.now.parts c
  pub declared : k < length (symbols g.checked.now.spec)
  pub meaning : (part_at g.left.now.parts c.part).meaning ≡ Symbol k

-- AreValues g cs: each of these tests is for a variable
abbrev pub AreValues : Grower → List Code → Type 0
AreValues g cs = All
    (λ (c : Code). IsValue (part_at g.left.now.parts c.part).meaning
    (variable_count g.checked.now.spec)) cs

-- TreesGoOn: the forest has grown, and the roots represent these rows
pub record TreesGoOn (y : Spec) (ns : List ℕ) (ps : Parts) (f : Forest) (s : ℕ → State) (width : ℕ)
    (rows : List Row) (g : Forest) (roots : List ℕ) : Type 0 where
  pub goes : GoesOn y ns ps f [] s g []
  pub stand : StandFor g goes.states width roots rows

-- AreTrees: trees have grown for these rows
abbrev pub AreTrees : Spec → List ℕ → Parts → Forest → ℕ → List Coded → Forest → List ℕ → Type 0
AreTrees y ns ps f width coded g roots = (s : ℕ → State) (rows : List Row)
    → Growing y ns ps f [] s → AreLeft y ps width coded rows
    → TreesGoOn y ns ps f s width rows g roots

-- AreTreesOf: trees have grown for the rules of a symbol
abbrev pub AreTreesOf : Grower → Forest → ℕ → Forest → List ℕ → Type 0
AreTreesOf g f k h roots = (s : ℕ → State)
    → Growing g.checked.now.spec (numbers_of g.links.now) g.left.now.parts f [] s
    → TreesGoOn g.checked.now.spec (numbers_of g.links.now) g.left.now.parts f s
    (arity_of g.checked.now.spec k)
    (root_rows (name_of g.checked.now.spec (Symbol k)) (arity_of g.checked.now.spec k) 0
    g.checked.now.spec.rules) h roots
