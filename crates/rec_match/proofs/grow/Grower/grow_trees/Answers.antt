use Rattle.std.proofs.Common.{refl, ap, arith, ◌∙◌, map}
use Rattle.std.proofs.lemmas.List.{map-append}
use Rattle.rec_match.specs.Matching.{numbers_of}
use Rattle.rec_match.proofs.GrownLemmas.{trees_none, trees_more, trees_done}
use Rattle.rec_match.proofs.grow.Grower.grow_trees.Goals as goal

pub loop-symbol-init : goal.loop-symbol-init
loop-symbol-init c = record {
  marks = c.requires.marks;
  trees = trees_none c.args.self.now.checked.now.spec (numbers_of c.args.self.now.links.now) c.args.self.now.left.now.parts _ _ c.requires.nodes
      (ap (map (λ v. v.items)) c.new-roots.ensures.items);
}

pub trees_of-requires-clause-some : goal.trees_of-requires-clause-some
trees_of-requires-clause-some c = c.loop-symbol.invariant.trees.some

pub trees_of-requires-clause-can : goal.trees_of-requires-clause-can
trees_of-requires-clause-can c = (c.loop-symbol.invariant.trees.states, c.loop-symbol.invariant.trees.growing)

pub loop-symbol-preserved : goal.loop-symbol-preserved
loop-symbol-preserved c =
    let h = c.loop-symbol.invariant.trees in
    record {
      marks = c.in_ok-trees_of.ensures.marks;
      trees = trees_more c.args.self.now.checked.now.spec (numbers_of c.args.self.now.links.now) c.args.self.now.left.now.parts
          c.loop-symbol.work.growth.forest c.trees_of.new.work.growth.forest _ _ c.loop-symbol.symbol _ h
          (c.in_ok-trees_of.ensures.trees h.states h.growing) (ap (map (λ v. v.items)) c.in_ok-push.ensures.items
          ∙ map-append (λ v. v.items) c.loop-symbol.roots.items _);
    }

pub returns : goal.returns
returns c =
    let t = c.loop-symbol-test.false in
    let q = c.loop-symbol.auto.symbol-end in
    let n = c.symbols-symbol-end.ensures in
    trees_done c.args.self.now.checked.now.spec c.syntax-kept.ensures.kept (numbers_of c.args.self.now.links.now) c.args.self.now.left.now.parts
    c.loop-symbol.work.growth.forest _ _ c.requires.ready.chains.symbols_of c.loop-symbol.symbol c.requires.ready.chains.heads c.loop-symbol.invariant.trees
    (omega (arith, t, q, n)) refl refl refl refl
