use Rattle.std.proofs.Common.{◌≡◌, ◌++◌, ◌∷◌, [], ◌∙◌, ℕ, Some, cond, ap, rules}
use Rattle.std.specs.Prelude.{nat_eq}
use Rattle.indexmap.specs.IndexMap.{get}
use Rattle.rec_engine.specs.Inner.Given.{IsNode}
use Rattle.rec_engine.specs.declared.terms.visits.Visit.{Visit}
use Rattle.rec_engine.specs.declared.terms.visits.Visit.TheVariants.{Enter, Leave}
use Rattle.rec_engine.proofs.GivenLemmas.{has-arguments}
use Rattle.rec_engine.proofs.VisitLemmas.{last-can, others-can, left-fewer, skipped-fewer, entered-fewer, entered-can, root-of}
use Rattle.rec_engine.proofs.ShapeLemmas.{shapes-more}
use Rattle.rec_engine.proofs.vm.Machine.visit_all.Goals as goal

pub loop-visit-smaller-in_ok-insert-in-Leave : goal.loop-visit-smaller-in_ok-insert-in-Leave
loop-visit-smaller-in_ok-insert-in-Leave g c =
    left-fewer (g.B.TermBank.store c.args.self.now.heap.bank) c.loop-visit.visits.items c.pop.new.self.items c.in-Leave.node
    (c.in-Some.ensures.items ∙ ap (λ (v : Visit). c.pop.new.self.items ++ v ∷ []) c.in-Leave.is)

pub loop-visit-preserved-in_ok-insert-in-Leave : goal.loop-visit-preserved-in_ok-insert-in-Leave
loop-visit-preserved-in_ok-insert-in-Leave g c =
    let w = g.B.TermBank.store c.args.self.now.heap.bank in
    let y = c.args.self.now.checked.spec in
    let i = c.loop-visit.invariant in
    let is : c.loop-visit.visits.items ≡ c.pop.new.self.items ++ Leave c.in-Leave.node ∷ [] =
    c.in-Some.ensures.items ∙ ap (λ (v : Visit). c.pop.new.self.items ++ v ∷ []) c.in-Leave.is in
    let updates : (q : ℕ) → get nat_eq c.insert.new.self q ≡ cond (nat_eq c.in-Leave.node.0 q) (Some c.shape-shape.result) (get nat_eq c.loop-visit.shapes q) =
    search rules in
    record {
      can = others-can (IsNode y) w c.loop-visit.visits.items c.pop.new.self.items (Leave c.in-Leave.node) is i.can;
      shapes = shapes-more y c.args.self.now.code.matcher w c.loop-visit.shapes c.insert.new.self c.in-Leave.node c.shape-shape.result i.shapes
          c.shape-shape.ensures updates;
    }

pub enter_node-requires : goal.enter_node-requires
enter_node-requires g c =
    let y = c.args.self.now.checked.spec in
    let w = g.B.TermBank.store c.args.self.now.heap.bank in
    let is : c.loop-visit.visits.items ≡ c.pop.new.self.items ++ Enter c.in-Enter.node ∷ [] =
    c.in-Some.ensures.items ∙ ap (λ (v : Visit). c.pop.new.self.items ++ v ∷ []) c.in-Enter.is in
    let can = last-can (IsNode y) w c.loop-visit.visits.items c.pop.new.self.items (Enter c.in-Enter.node) is c.loop-visit.invariant.can in
    has-arguments y w c.in-Enter.node can.held (root-of (IsNode y) _ can.nodes)

pub loop-visit-smaller-in-Continue-branch-2 : goal.loop-visit-smaller-in-Continue-branch-2
loop-visit-smaller-in-Continue-branch-2 g c =
    entered-fewer (g.B.TermBank.store c.args.self.now.heap.bank) c.loop-visit.visits.items c.pop.new.self.items c.enter_node.new.visits.items
    c.in-Enter.node (c.in-Some.ensures.items ∙ ap (λ (v : Visit). c.pop.new.self.items ++ v ∷ []) c.in-Enter.is)
    c.in_ok-enter_node-in-Enter.ensures

pub loop-visit-preserved-in-Continue-branch-2 : goal.loop-visit-preserved-in-Continue-branch-2
loop-visit-preserved-in-Continue-branch-2 g c = record {
  can = entered-can (IsNode c.args.self.now.checked.spec) (g.B.TermBank.store c.args.self.now.heap.bank) c.loop-visit.visits.items c.pop.new.self.items
      c.enter_node.new.visits.items c.in-Enter.node (c.in-Some.ensures.items ∙ ap (λ (v : Visit). c.pop.new.self.items ++ v ∷ []) c.in-Enter.is)
      c.loop-visit.invariant.can c.in_ok-enter_node-in-Enter.ensures;
  shapes = c.loop-visit.invariant.shapes;
}

pub loop-visit-smaller : goal.loop-visit-smaller
loop-visit-smaller g c =
    skipped-fewer (g.B.TermBank.store c.args.self.now.heap.bank) c.loop-visit.visits.items c.pop.new.self.items c.in-Enter.node
    (c.in-Some.ensures.items ∙ ap (λ (v : Visit). c.pop.new.self.items ++ v ∷ []) c.in-Enter.is)
