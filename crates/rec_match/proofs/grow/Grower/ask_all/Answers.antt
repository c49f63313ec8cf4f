use Rattle.std.proofs.Common.{sym, subst, [], ◌∷◌}
use Rattle.std.proofs.lemmas.List.Elements.{All-nil}
use Rattle.rec_match.specs.Inner.Paths.{path_task, AreValues}
use Rattle.rec_match.specs.Leaves.{IsValue}
use Rattle.rec_match.specs.Matching.{numbers_of}
use Rattle.rec_match.specs.Parts.{part_at}
use Rattle.rec_match.specs.declared.parts.Code.{Code}
use Rattle.rec_sorts.specs.Numbering.{variable_count}
use Rattle.rec_match.proofs.PathLemmas.{steps_taken}
use Rattle.rec_match.proofs.TaskLemmas.{steps_none, steps_more}
use Rattle.rec_match.proofs.grow.Grower.ask_all.Goals as goal

pub loop-code-init : goal.loop-code-init
loop-code-init c =
    let g = c.args.self.now in
    record {
      steps = steps_none g.checked.now.spec (numbers_of g.links.now) g.left.now.parts c.args.forest.now (path_task c.args.path.now ∷ []);
      values = subst (AreValues g) (sym c.requires.none) (All-nil (λ (d : Code).
          IsValue (part_at g.left.now.parts d.part).meaning (variable_count g.checked.now.spec)));
    }

pub ask-requires-clause-can : goal.ask-requires-clause-can
ask-requires-clause-can c =
    let g = c.args.self.now in
    let p = c.loop-code.path in
    let x = steps_taken g.checked.now.spec (numbers_of g.links.now) g.left.now.parts c.args.forest.now c.loop-code.forest
    (path_task c.args.path.now ∷ []) p.node p.width p.rule p.values.items p.rest.items c.pop.new.self.items c.in-Some.code c.in-Some.ensures.items
    c.loop-code.invariant.steps c.requires.can.0 c.requires.can.1 in
    (x.states, x.growing)

pub loop-code-preserved : goal.loop-code-preserved
loop-code-preserved c =
    let g = c.args.self.now in
    let y = g.checked.now.spec in
    let ns = numbers_of g.links.now in
    let ps = g.left.now.parts in
    let p = c.loop-code.path in
    let steps = steps_taken y ns ps c.args.forest.now c.loop-code.forest (path_task c.args.path.now ∷ []) p.node p.width p.rule p.values.items
    p.rest.items c.pop.new.self.items c.in-Some.code c.in-Some.ensures.items c.loop-code.invariant.steps in
    record {
      steps = steps_more y ns ps c.args.forest.now c.loop-code.forest c.ask.new.forest _ _ _ steps c.in_ok-ask.ensures.steps;
      values = c.in_ok-ask.ensures.values;
    }
