use Rattle.std.proofs.Common.{refl, sym, ap, subst, arith, ◌∙◌, ◌≡◌, ◌∷◌, [], get_or, map}
use Rattle.std.proofs.lemmas.List.{get_or-map, length-map, take_all}
use Rattle.rec_match.specs.Inner.Growing.{StandFor}
use Rattle.rec_match.specs.Parts.{coded_of}
use Rattle.rec_match.specs.Inner.Paths.{TreesGoOn, AreTrees}
use Rattle.rec_match.specs.Placed.{ArePlacesIn}
use Rattle.rec_match.specs.Rows.{Row}
use Rattle.rec_match.specs.Inner.Tasks.{AreLeft}
use Rattle.rec_match.specs.Matching.{numbers_of}
use Rattle.rec_match.proofs.PathLemmas.{left_at, left_long, trees_on}
use Rattle.rec_match.proofs.TaskLemmas.{steps_none}
use Rattle.rec_match.proofs.grow.Grower.paths.Goals as goal

no_row : Row
no_row = record { number = 0; cells = [] }

pub loop-row-init : goal.loop-row-init
loop-row-init c = record {
  given = subst (λ n. ArePlacesIn [] n c.in_ok-given.given.of.items) c.variables.ensures c.in_ok-given.ensures;
  trees = λ s rows grow left.
      (let z = steps_none c.args.self.now.checked.now.spec (numbers_of c.args.self.now.links.now) c.args.self.now.left.now.parts c.args.forest.now [] s grow in
      record { goes = z; stand = subst (λ rs. StandFor c.args.forest.now z.states c.args.width rs []) (sym c.new-roots.ensures.items) refl });
}

pub path-requires-clause-can : goal.path-requires-clause-can
path-requires-clause-can c =
    let y = c.args.self.now.checked.now.spec in
    let ns = numbers_of c.args.self.now.links.now in
    let ps = c.args.self.now.left.now.parts in
    let rows = c.args.rows.now in
    let i = c.loop-row.row-index in
    let item = c.row-item.result in
    let k = c.requires.can in
    let x = c.loop-row.invariant.trees k.states k.rows k.growing k.left in
    let t = c.loop-row-test.true in
    let long = length-map rows coded_of in
    let coded : get_or (map coded_of rows) i (coded_of item) ≡ coded_of item =
    get_or-map coded_of rows i item (coded_of item) t ∙ ap coded_of (sym c.row-item.is) in
    record {
      states = x.goes.states;
      rows = get_or k.rows i no_row ∷ [];
      growing = x.goes.growing;
      left = subst (λ z. AreLeft y ps c.args.width (z ∷ []) (get_or k.rows i no_row ∷ [])) coded
          (left_at y ns ps c.args.width (map coded_of rows) k.rows i (coded_of item) no_row k.left (omega (arith, t, long)));
    }

pub loop-row-preserved : goal.loop-row-preserved
loop-row-preserved c =
    let y = c.args.self.now.checked.now.spec in
    let ns = numbers_of c.args.self.now.links.now in
    let ps = c.args.self.now.left.now.parts in
    let rows = c.args.rows.now in
    let i = c.loop-row.row-index in
    let item = c.row-item.result in
    let t = c.loop-row-test.true in
    let long = length-map rows coded_of in
    let coded : get_or (map coded_of rows) i (coded_of item) ≡ coded_of item =
    get_or-map coded_of rows i item (coded_of item) t ∙ ap coded_of (sym c.row-item.is) in
    record {
      given = c.in_ok-path.ensures.given;
      trees = λ s bs grow left.
          trees_on y ns ps c.args.forest.now c.loop-row.forest c.path.new.forest s c.args.width (map coded_of rows) bs i (coded_of item) no_row
          c.loop-row.roots.items c.push.new.self.items c.in_ok-path.field-0 (omega (arith, t, long)) left
          (c.loop-row.invariant.trees s bs grow left)
          (subst (λ z. AreTrees y ns ps c.loop-row.forest c.args.width (z ∷ []) c.path.new.forest (c.in_ok-path.field-0 ∷ [])) (sym coded)
          c.in_ok-path.ensures.tree) c.in_ok-push.ensures.items;
    }

pub returns : goal.returns
returns c s bs grow left =
    let y = c.args.self.now.checked.now.spec in
    let ns = numbers_of c.args.self.now.links.now in
    let ps = c.args.self.now.left.now.parts in
    let t = c.loop-row-test.false in
    let long = length-map c.args.rows.now coded_of in
    let rows = left_long y ns ps c.args.width (map coded_of c.args.rows.now) bs left in
    subst (λ xs. TreesGoOn y ns ps c.args.forest.now s c.args.width xs c.loop-row.forest c.loop-row.roots.items)
    (take_all c.loop-row.row-index bs (omega (arith, t, long, rows))) (c.loop-row.invariant.trees s bs grow left)
