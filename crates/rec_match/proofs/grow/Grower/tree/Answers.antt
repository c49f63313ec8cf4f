use Rattle.std.proofs.Common.{ap, subst, arith, ◌∙◌, ◌≡◌, length, map, take}
use Rattle.rec_match.specs.Parts.{coded_of}
use Rattle.rec_match.specs.Inner.Tasks.{tasks_of, GrowsOut, task_of, Adds}
use Rattle.rec_match.specs.Matching.{numbers_of}
use Rattle.rec_match.proofs.TreeLemmas.{tree_grown, tree_cut, can_root}
use Rattle.rec_match.proofs.grow.Grower.tree.Goals as goal

pub grow-requires-clause-can : goal.grow-requires-clause-can
grow-requires-clause-can c =
    let k = c.requires.can in
    can_root c.args.self.now.checked.now.spec (numbers_of c.args.self.now.links.now) c.args.self.now.left.now.parts c.args.work.now.growth.forest
    c.add.new.self.forest (tasks_of c.add.new.self) c.args.width (map coded_of c.args.rows.items) c.in_ok-root.root k.states k.rows
    (subst (λ ws. Adds c.args.work.now.growth.forest (map task_of ws) c.add.new.self.forest (tasks_of c.add.new.self) c.args.width
    (map coded_of c.args.rows.items) c.in_ok-root.root) c.clear.ensures.items c.in_ok-root.ensures) k.growing k.left

pub returns-then-branch-clause-tree : goal.returns-then-branch-clause-tree
returns-then-branch-clause-tree c =
    let y = c.args.self.now.checked.now.spec in
    let ns = numbers_of c.args.self.now.links.now in
    let ps = c.args.self.now.left.now.parts in
    let us = tasks_of c.add.new.self in
    tree_grown y ns ps c.args.work.now.growth.forest c.add.new.self.forest c.grow.new.work.growth.forest us c.args.width
    (map coded_of c.args.rows.items) c.in_ok-root.root c.requires.some
    (subst (λ ws. Adds c.args.work.now.growth.forest (map task_of ws) c.add.new.self.forest us c.args.width (map coded_of c.args.rows.items)
    c.in_ok-root.root) c.clear.ensures.items c.in_ok-root.ensures)
    (subst (GrowsOut c.args.self.now c.add.new.self c.grow.new.work.growth.forest) c.if-branch.true c.in_ok-grow.ensures.grows)

pub returns-clause-tree : goal.returns-clause-tree
returns-clause-tree c =
    let y = c.args.self.now.checked.now.spec in
    let ns = numbers_of c.args.self.now.links.now in
    let ps = c.args.self.now.left.now.parts in
    let us = tasks_of c.add.new.self in
    let out = subst (GrowsOut c.args.self.now c.add.new.self c.grow.new.work.growth.forest) c.if-branch.false c.in_ok-grow.ensures.grows in
    tree_cut y ns ps c.args.work.now.growth.forest c.add.new.self.forest c.grow.new.work.growth.forest _ us out.0 c.args.width
    (map coded_of c.args.rows.items) c.in_ok-root.root
    (subst (λ ws. Adds c.args.work.now.growth.forest (map task_of ws) c.add.new.self.forest us c.args.width (map coded_of c.args.rows.items)
    c.in_ok-root.root) c.clear.ensures.items c.in_ok-root.ensures)
    out.1
    (c.truncate.ensures.items ∙ ap (λ k. take k c.grow.new.work.growth.forest.nodes.items) (let e = c.len-nodes.ensures in let v =
    c.args.work.now.growth.forest.nodes.ok.0 in let q : c.len-nodes.result ≡ length c.args.work.now.growth.forest.nodes.items = omega (arith, e, v) in q))
    (c.truncate-2.ensures.items ∙ ap (λ k. take k c.grow.new.work.growth.forest.places.items) (let e = c.len-places.ensures in let v =
    c.args.work.now.growth.forest.places.ok.0 in let q : c.len-places.result ≡ length c.args.work.now.growth.forest.places.items =
    omega (arith, e, v) in q))
    (c.truncate-3.ensures.items ∙ ap (λ k. take k c.grow.new.work.growth.forest.children.items) (let e = c.len-children.ensures in let v =
    c.args.work.now.growth.forest.children.ok.0 in let q : c.len-children.result ≡ length c.args.work.now.growth.forest.children.items =
    omega (arith, e, v) in q))
