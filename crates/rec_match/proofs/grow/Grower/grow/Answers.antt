use Rattle.std.proofs.Common.{refl, sym, ap, subst, arith, ◌∙◌, ◌≡◌, ◌++◌, ◌∷◌, [], length, map, List}
use Rattle.std.proofs.lemmas.List.{map-append}
use Rattle.rec_match.specs.Inner.Tasks.{tasks_of, StepsBy, StepsOrStays, Task, task_of}
use Rattle.rec_match.specs.Matching.{numbers_of}
use Rattle.rec_match.specs.declared.forest.Forest.{Forest}
use Rattle.rec_match.specs.declared.grow.Grower.{Grower}
use Rattle.rec_match.specs.declared.grow.Pending.{Pending}
use Rattle.rec_match.proofs.TaskLemmas.{steps_none, steps_last, steps_more}
use Rattle.rec_match.proofs.grow.Grower.grow.Goals as goal

-- the last one that waits is taken
popped : (g : Grower) (f h : Forest) (ts : List Task) (work rest : List Pending) (p : Pending) → StepsBy g f ts h (map task_of work)
    → work ≡ rest ++ p ∷ [] → StepsBy g f ts h (task_of p ∷ map task_of rest)
popped g f h ts work rest p a e =
    let y = g.checked.now.spec in
    let ns = numbers_of g.links.now in
    let ps = g.left.now.parts in
    steps_more y ns ps f h h ts (map task_of work) (task_of p ∷ map task_of rest) a
    (subst (λ us. StepsBy g h us h (task_of p ∷ map task_of rest)) (sym (ap (map task_of) e ∙ map-append task_of rest (p ∷ [])))
    (steps_last y ns ps h (map task_of rest) (task_of p)))

no_tasks : (work : List Pending) → length work ≡ 0 → map task_of work ≡ []
no_tasks [] e = refl
no_tasks (p ∷ work) e = absurd (let bad : ⊥ = omega (arith, e) in bad)

pub loop-pending-init : goal.loop-pending-init
loop-pending-init c = record {
  marks = c.requires.marks;
  steps = steps_none c.args.self.now.checked.now.spec (numbers_of c.args.self.now.links.now) c.args.self.now.left.now.parts
      c.args.work.now.growth.forest (tasks_of c.args.work.now.growth);
}

pub step-requires-clause-can : goal.step-requires-clause-can
step-requires-clause-can c =
    let old = c.args.work.now.growth in
    let mid = c.loop-pending.work.growth in
    let x = popped c.args.self.now old.forest mid.forest (tasks_of old) mid.pending.items c.pop.new.self.items c.in-Some.pending
    c.loop-pending.invariant.steps c.in-Some.ensures.items c.requires.can.0 c.requires.can.1 in
    (x.states, x.growing)

pub returns-then-not-branch-clause-grows : goal.returns-then-not-branch-clause-grows
returns-then-not-branch-clause-grows c =
    let g = c.args.self.now in
    let old = c.args.work.now.growth in
    let mid = c.loop-pending.work.growth in
    let ts = task_of c.in-Some.pending ∷ map task_of c.pop.new.self.items in
    let before = popped g old.forest mid.forest (tasks_of old) mid.pending.items c.pop.new.self.items c.in-Some.pending c.loop-pending.invariant.steps
    c.in-Some.ensures.items in
    let same = subst (StepsOrStays g mid.forest ts c.step.new.work.growth) c.if-not-branch.true c.in_ok-step.ensures.steps in
    (ts, subst (λ f. StepsBy g old.forest (tasks_of old) f ts) same before)

pub loop-pending-preserved : goal.loop-pending-preserved
loop-pending-preserved c =
    let g = c.args.self.now in
    let old = c.args.work.now.growth in
    let mid = c.loop-pending.work.growth in
    let new = c.step.new.work.growth in
    let ts = task_of c.in-Some.pending ∷ map task_of c.pop.new.self.items in
    let before = popped g old.forest mid.forest (tasks_of old) mid.pending.items c.pop.new.self.items c.in-Some.pending c.loop-pending.invariant.steps
    c.in-Some.ensures.items in
    let own = subst (StepsOrStays g mid.forest ts new) c.if-not-branch.false c.in_ok-step.ensures.steps in
    record {
      marks = c.in_ok-step.ensures.marks;
      steps = steps_more g.checked.now.spec (numbers_of g.links.now) g.left.now.parts old.forest mid.forest
          new.forest (tasks_of old) ts (tasks_of new) before own;
    }

pub returns-clause-grows : goal.returns-clause-grows
returns-clause-grows c =
    let cases = c.in_default.ensures.cases.0 in
    let old = c.args.work.now.growth in
    let last = c.loop-pending.work.growth in
    let v = last.pending.ok.0 in
    subst (StepsBy c.args.self.now old.forest (tasks_of old) last.forest) (no_tasks last.pending.items (omega (arith, cases, v))) c.loop-pending.invariant.steps
