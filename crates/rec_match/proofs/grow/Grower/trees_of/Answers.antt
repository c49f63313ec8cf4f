use Rattle.std.proofs.Common.{ℕ, refl, sym, subst, ◌≡◌, List, [], ◌∷◌, map, append-nil}
use Rattle.std.specs.Prelude.{◌≢◌}
use Rattle.rec_syntax.specs.Syntax.{Spec}
use Rattle.rec_match.specs.Inner.Growing.{State, StandFor}
use Rattle.rec_match.specs.Inner.Paths.{TreesGoOn}
use Rattle.rec_match.specs.Inner.Tasks.{AreLeft, TreeGoesOn}
use Rattle.rec_match.specs.Matching.{numbers_of}
use Rattle.rec_match.specs.Parts.{coded_of}
use Rattle.rec_match.specs.Rows.{Row}
use Rattle.rec_match.specs.declared.forest.Forest.{Forest}
use Rattle.rec_match.specs.declared.parts.Parts.{Parts}
use Rattle.rec_match.proofs.GrownLemmas.{whole_rows}
use Rattle.rec_match.proofs.TaskLemmas.{goes_more}
use Rattle.rec_match.proofs.grow.Grower.trees_of.Goals as goal

-- a root that is there represents all rows
one_tree : (y : Spec) (ns : List ℕ) (ps : Parts) (f g : Forest) (s : ℕ → State) (width : ℕ) (rows : List Row) (root : ℕ) (roots : List ℕ)
    → TreeGoesOn y ns ps f s width rows g root → root ≢ 0 → roots ≡ root ∷ [] → TreesGoOn y ns ps f s width rows g roots
one_tree y ns ps f g s width rows root roots t some e =
    let there = t.stands some in
    record { goes = t.goes; stand = subst (λ rs. StandFor g t.goes.states width rs rows) (sym e) (rows, [], sym (append-nil rows), there.0, there.1, refl) }

pub returns-then-root-ne0-clause-trees : goal.returns-then-root-ne0-clause-trees
returns-then-root-ne0-clause-trees c s grow =
    let y = c.args.self.now.checked.now.spec in
    let ns = numbers_of c.args.self.now.links.now in
    let ps = c.args.self.now.left.now.parts in
    let rows = whole_rows y c.args.symbol in
    let left = subst (λ w. AreLeft y ps w (map coded_of c.in_ok-rows.rows.items) rows) (sym c.arity-width.ensures) c.in_ok-rows.ensures in
    subst (λ w. TreesGoOn y ns ps c.args.work.now.growth.forest s w rows c.tree.new.work.growth.forest c.in_ok-one.one.items) c.arity-width.ensures
    (one_tree y ns ps c.args.work.now.growth.forest c.tree.new.work.growth.forest s c.arity-width.result rows c.in_ok-root.root c.in_ok-one.one.items
    (c.in_ok-root.ensures.tree s rows grow left) c.if-root-ne0.true (c.in_ok-one.ensures.items_if_clones_equal (λ x e. e)))

pub paths-requires-clause-can : goal.paths-requires-clause-can
paths-requires-clause-can c =
    let y = c.args.self.now.checked.now.spec in
    let ps = c.args.self.now.left.now.parts in
    let rows = whole_rows y c.args.symbol in
    let left = subst (λ w. AreLeft y ps w (map coded_of c.in_ok-rows.rows.items) rows) (sym c.arity-width.ensures) c.in_ok-rows.ensures in
    let again = subst (λ w. AreLeft y ps w (map coded_of c.in_ok-rows-2.rows.items) rows) (sym c.arity-width.ensures) c.in_ok-rows-2.ensures in
    let can = c.requires.can in
    let t = c.in_ok-root.ensures.tree can.0 rows can.1 left in
    record {
      states = t.goes.states;
      rows = rows;
      growing = t.goes.growing;
      left =
          subst (λ xs. AreLeft y ps c.arity-width.result (map coded_of xs) rows) (sym c.deref.ensures.value) again;
    }

pub returns-clause-trees : goal.returns-clause-trees
returns-clause-trees c s grow =
    let y = c.args.self.now.checked.now.spec in
    let ns = numbers_of c.args.self.now.links.now in
    let ps = c.args.self.now.left.now.parts in
    let f = c.args.work.now.growth.forest in
    let rows = whole_rows y c.args.symbol in
    let left = subst (λ w. AreLeft y ps w (map coded_of c.in_ok-rows.rows.items) rows) (sym c.arity-width.ensures) c.in_ok-rows.ensures in
    let again = subst (λ w. AreLeft y ps w (map coded_of c.in_ok-rows-2.rows.items) rows) (sym c.arity-width.ensures) c.in_ok-rows-2.ensures in
    let t = c.in_ok-root.ensures.tree s rows grow left in
    let z = c.in_ok-roots.ensures t.goes.states rows t.goes.growing
    (subst (λ xs. AreLeft y ps c.arity-width.result (map coded_of xs) rows) (sym c.deref.ensures.value) again) in
    subst (λ w. TreesGoOn y ns ps f s w rows c.paths.new.forest c.in_ok-roots.roots.items) c.arity-width.ensures
    (record { goes = goes_more y ns ps f c.tree.new.work.growth.forest c.paths.new.forest [] [] [] s t.goes z.goes; stand = z.stand })
