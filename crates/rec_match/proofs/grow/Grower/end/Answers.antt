use Rattle.std.proofs.Common.{sym, ap, subst, ◌∙◌, ◌++◌, ◌∷◌, [], reverse, append-nil}
use Rattle.rec_match.specs.Leaves.{code_places}
use Rattle.rec_match.specs.Inner.Tasks.{Steps, WritesTry}
use Rattle.rec_match.specs.Matching.{numbers_of}
use Rattle.rec_match.proofs.PathLemmas.{row_task, end_steps}
use Rattle.rec_match.proofs.grow.Grower.end.Goals as goal

pub returns-clause-steps : goal.returns-clause-steps
returns-clause-steps c =
    let y = c.args.self.now.checked.now.spec in
    let ns = numbers_of c.args.self.now.links.now in
    let ps = c.args.self.now.left.now.parts in
    let f = c.args.forest.now in
    let h = c.write_try.new.self in
    let p = c.args.path.now in
    let values = p.values.items in
    subst (λ xs. Steps y ns ps f (row_task p.node p.width p.rule (values ++ reverse xs) ∷ []) h []) (sym c.requires.done)
    (subst (λ cs. Steps y ns ps f (row_task p.node p.width p.rule cs ∷ []) h []) (sym (append-nil values))
    (end_steps y ns ps c.requires.ready.ground f c.add_node.new.self h p.node p.width p.rule c.in_ok-places.places.items values c.in_ok-next.next
    c.in_ok-next.ensures.adds
    (subst (λ pl. WritesTry c.add_node.new.self h p.node p.rule pl c.in_ok-next.next) c.deref-2.ensures.value c.in_ok-write_try.ensures)
    c.requires.can.1.tasks.0.there
    (ap (code_places ps []) (sym c.deref.ensures.value) ∙ c.in_ok-places.ensures.places)))
