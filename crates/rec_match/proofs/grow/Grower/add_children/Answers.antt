use Rattle.std.proofs.Common.{sym, ap, subst, arith, ◌∙◌, ◌≡◌, ◌+◌, ◌-◌, length}
use Rattle.std.specs.Prelude.{set, [], ◌∷◌}
use Rattle.std.proofs.lemmas.List.{length-set, length-append, take_all}
use Rattle.rec_match.specs.declared.forest.Node.TheVariants.{Fail}
use Rattle.rec_match.specs.Forests.{number_at}
use Rattle.rec_match.specs.Parts.{opened_codes, changed_codes}
use Rattle.rec_match.specs.Inner.Shares.{symbols_of}
use Rattle.rec_match.specs.Inner.Tasks.{tasks_of, Branched, BranchesOut, Adds}
use Rattle.rec_match.specs.Matching.{numbers_of}
use Rattle.rec_match.proofs.BranchLemmas.{branched_none, branched_more, next_share, share_rows, number_is}
use Rattle.rec_match.proofs.ShareLemmas.{symbols_long, popped_front}
use Rattle.rec_match.proofs.grow.Grower.add_children.Goals as goal

pub arity-count-requires : goal.arity-count-requires
arity-count-requires c =
    (next_share _ (numbers_of c.args.self.now.links.now) c.args.shares.items c.loop-share.shares.items c.pop.new.self.items c.in-Some.share
    c.args.window.low c.args.window.span c.loop-share.invariant.front c.in-Some.ensures.items c.requires.declared c.requires.covers).declared

pub symbol_of-requires : goal.symbol_of-requires
symbol_of-requires c =
    let linked = c.requires.ready.linked in
    let declared = (next_share _ (numbers_of c.args.self.now.links.now) c.args.shares.items c.loop-share.shares.items c.pop.new.self.items
    c.in-Some.share c.args.window.low c.args.window.span c.loop-share.invariant.front c.in-Some.ensures.items c.requires.declared
    c.requires.covers).declared in
    omega (arith, linked, declared)

pub overflow_sub-at : goal.overflow_sub-at
overflow_sub-at c =
    let linked = c.requires.ready.linked in
    let next = next_share _ (numbers_of c.args.self.now.links.now) c.args.shares.items c.loop-share.shares.items c.pop.new.self.items c.in-Some.share
    c.args.window.low c.args.window.span c.loop-share.invariant.front c.in-Some.ensures.items c.requires.declared c.requires.covers in
    let declared = next.declared in
    let is = number_is c.args.self.now.links.now c.in-Some.share.symbol c.symbol_of.result (omega (arith, linked, declared)) c.symbol_of.ensures in
    let low = next.from_low in
    omega (arith, is, low)

pub index_mut-requires : goal.index_mut-requires
index_mut-requires c =
    let linked = c.requires.ready.linked in
    let next = next_share _ (numbers_of c.args.self.now.links.now) c.args.shares.items c.loop-share.shares.items c.pop.new.self.items c.in-Some.share
    c.args.window.low c.args.window.span c.loop-share.invariant.front c.in-Some.ensures.items c.requires.declared c.requires.covers in
    let declared = next.declared in
    let is = number_is c.args.self.now.links.now c.in-Some.share.symbol c.symbol_of.result (omega (arith, linked, declared)) c.symbol_of.ensures in
    let low = next.from_low in
    let below = next.below in
    let long = c.loop-share.invariant.long in
    let v = c.loop-share.children.ok.0 in
    omega (arith, is, low, below, long, v)

pub loop-share-init : goal.loop-share-init
loop-share-init c = record {
  front = take_all (length c.args.shares.items) c.args.shares.items (omega arith);
  long = c.in_ok-children.ensures.long;
  longer = omega arith;
  out = λ register coded shares n s grow.
      subst (Branched c.args.self.now.checked.now.spec (numbers_of c.args.self.now.links.now) c.args.self.now.left.now.parts c.args.growth.now.forest
      (tasks_of c.args.growth.now) s (record { node = n; width = c.args.width; rows = coded }) c.args.growth.now.forest
      (tasks_of c.args.growth.now) register c.args.window.low (symbols_of c.args.shares.items) c.in_ok-children.children.items)
      (symbols_long c.args.shares.items)
      (branched_none c.args.self.now.checked.now.spec (numbers_of c.args.self.now.links.now) c.args.self.now.left.now.parts c.args.growth.now.forest _
      s _ register c.args.window.low (symbols_of c.args.shares.items) c.in_ok-children.children.items c.in_ok-children.ensures.none grow);
}

pub loop-share-preserved : goal.loop-share-preserved
loop-share-preserved c = record {
  front = (popped_front c.args.shares.items c.loop-share.shares.items c.pop.new.self.items c.in-Some.share c.loop-share.invariant.front
      c.in-Some.ensures.items).front;
  long = length-set c.loop-share.children.items (c.symbol_of.result.0 - c.args.window.low)
      (record { node = c.in_ok-node.node; count = c.arity-count.result }) ∙ c.loop-share.invariant.long;
  longer = (let l = c.loop-share.invariant.longer in let m = ap length c.in_ok-node.ensures.one.nodes
      ∙ length-append c.loop-share.growth.forest.nodes.items (Fail ∷ []) in omega (arith, l, m));
  out = λ register coded shares n s grow.
      (let linked = c.requires.ready.linked in
      let share = c.in-Some.share in
      let k = share.symbol in
      let rest = c.pop.new.self.items in
      let popped = popped_front c.args.shares.items c.loop-share.shares.items rest share c.loop-share.invariant.front c.in-Some.ensures.items in
      let next = next_share _ (numbers_of c.args.self.now.links.now) c.args.shares.items c.loop-share.shares.items rest share c.args.window.low
      c.args.window.span c.loop-share.invariant.front c.in-Some.ensures.items c.requires.declared c.requires.covers in
      let declared = next.declared in
      let is = number_is c.args.self.now.links.now k c.symbol_of.result (omega (arith, linked, declared)) c.symbol_of.ensures in
      let low = next.from_low in
      let below = next.below in
      let long = c.loop-share.invariant.long in
      let one = ap length c.in-Some.ensures.items ∙ length-append rest (share ∷ []) in
      branched_more c.args.self.now.checked.now.spec (numbers_of c.args.self.now.links.now) c.args.self.now.left.now.parts c.requires.ready.ground
      c.args.growth.now.forest _ s n c.args.width coded c.loop-share.growth.forest c.add.new.self.forest _ _ register c.args.window.low
      (symbols_of c.args.shares.items)
      c.loop-share.children.items (set c.loop-share.children.items (c.symbol_of.result.0 - c.args.window.low)
      (record { node = c.in_ok-node.node; count = c.arity-count.result })) (length rest) (length c.loop-share.shares.items) k c.in_ok-node.node
      one declared next.at low (omega (arith, low, below, long)) (c.loop-share.invariant.out register coded shares n s grow)
      (subst (λ m. Adds c.loop-share.growth.forest (tasks_of c.loop-share.growth) c.add.new.self.forest (tasks_of c.add.new.self) (c.args.width + m)
      (changed_codes (opened_codes c.args.self.now.left.now.parts register k c.args.width) coded) c.in_ok-node.node) c.arity-count.ensures
      (subst (λ xs. Adds c.loop-share.growth.forest (tasks_of c.loop-share.growth) c.add.new.self.forest (tasks_of c.add.new.self)
      (c.args.width + c.arity-count.result) xs c.in_ok-node.node) (share_rows c.args.self.now.left.now.parts register c.args.width coded
      c.args.shares.items rest share shares popped) c.in_ok-node.ensures))
      (ap (λ j. set c.loop-share.children.items (j - c.args.window.low) (record { node = c.in_ok-node.node; count = c.arity-count.result })) (sym is)
      ∙ ap (λ m. set c.loop-share.children.items (number_at (numbers_of c.args.self.now.links.now) k - c.args.window.low)
      (record { node = c.in_ok-node.node; count = m })) c.arity-count.ensures));
}

pub returns-clause-branches : goal.returns-clause-branches
returns-clause-branches c register coded shares =
    let cases = c.in_default.ensures.cases.0 in
    let v = c.loop-share.shares.ok.0 in
    let none : length c.loop-share.shares.items ≡ 0 = omega (arith, cases, v) in
    subst (BranchesOut c.args.self.now.checked.now.spec (numbers_of c.args.self.now.links.now) c.args.self.now.left.now.parts c.args.growth.now.forest
    (tasks_of c.args.growth.now) c.args.width coded c.loop-share.growth.forest (tasks_of c.loop-share.growth) register c.args.window.low
    (symbols_of c.args.shares.items) c.loop-share.children.items)
    none (c.loop-share.invariant.out register coded shares)
