use Rattle.std.proofs.Common.{sym, ap, subst, arith, ◌∙◌, ◌≡◌}
use Rattle.std.proofs.lemmas.List.{get_or_default}
use Rattle.std.proofs.lemmas.List.Elements.{All-push}
use Rattle.std.specs.Prelude.{All, ◌++◌, ◌∷◌, [], reverse}
use Rattle.rec_sorts.specs.Numbering.{variable_count}
use Rattle.rec_sorts.specs.declared.letters.Meaning.TheVariants.{Symbol, Variable}
use Rattle.rec_match.specs.Inner.Tasks.{StepsBy}
use Rattle.rec_match.specs.Leaves.{IsValue}
use Rattle.rec_match.specs.Matching.{numbers_of}
use Rattle.rec_match.specs.Parts.{part_at, no_part}
use Rattle.rec_match.specs.declared.parts.Code.{Code}
use Rattle.rec_match.specs.declared.parts.Part.{Part}
use Rattle.rec_match.proofs.LeftLemmas.{is_code}
use Rattle.rec_match.proofs.PathLemmas.{row_task, asks_next, value_taken}
use Rattle.rec_match.proofs.TaskLemmas.{steps_none}
use Rattle.rec_match.proofs.grow.Grower.ask.Goals as goal

pub index-requires : goal.index-requires
index-requires c =
    let ps = c.args.self.now.left.now.parts in
    let p = c.args.path.now in
    let there = (asks_next c.args.self.now.checked.now.spec (numbers_of c.args.self.now.links.now) ps c.args.forest.now p.node p.width p.rule
    p.values.items (reverse p.rest.items) c.args.code c.requires.can).there in
    let v = ps.parts.ok.0 in
    omega (arith, there, v)

pub pass-requires-clause-asks : goal.pass-requires-clause-asks
pass-requires-clause-asks c =
    let ps = c.args.self.now.left.now.parts in
    let p = c.args.path.now in
    let next = asks_next c.args.self.now.checked.now.spec (numbers_of c.args.self.now.links.now) ps c.args.forest.now p.node p.width p.rule
    p.values.items (reverse p.rest.items) c.args.code c.requires.can in
    let meant : (part_at ps c.args.code.part).meaning ≡ Symbol c.in-Symbol.symbol =
    ap (λ (q : Part). q.meaning) (get_or_default ps.parts.items c.args.code.part no_part c.index.result.now next.there ∙ sym c.index.ensures)
    ∙ c.in-Symbol.is in
    record { code = is_code ps c.requires.ready.ground.whole c.args.code next.there; declared = next.symbol c.in-Symbol.symbol meant; meaning = meant }

pub returns-in_ok-push-in-Variable-clause-steps : goal.returns-in_ok-push-in-Variable-clause-steps
returns-in_ok-push-in-Variable-clause-steps c =
    let g = c.args.self.now in
    let f = c.args.forest.now in
    let p = c.args.path.now in
    let old = row_task p.node p.width p.rule (p.values.items ++ c.args.code ∷ reverse p.rest.items) ∷ [] in
    subst (λ cs. StepsBy g f old f (row_task p.node p.width p.rule cs ∷ []))
    (value_taken p.values.items c.push.new.self.items (reverse p.rest.items) c.args.code c.in_ok-push-in-Variable.ensures.items)
    (steps_none g.checked.now.spec (numbers_of g.links.now) g.left.now.parts f old)

pub returns-in_ok-push-in-Variable-clause-values : goal.returns-in_ok-push-in-Variable-clause-values
returns-in_ok-push-in-Variable-clause-values c =
    let ps = c.args.self.now.left.now.parts in
    let p = c.args.path.now in
    let next = asks_next c.args.self.now.checked.now.spec (numbers_of c.args.self.now.links.now) ps c.args.forest.now p.node p.width p.rule
    p.values.items (reverse p.rest.items) c.args.code c.requires.can in
    let meant : (part_at ps c.args.code.part).meaning ≡ Variable c.in-Variable.field-0 =
    ap (λ (q : Part). q.meaning) (get_or_default ps.parts.items c.args.code.part no_part c.index.result.now next.there ∙ sym c.index.ensures)
    ∙ c.in-Variable.is in
    let P = λ (d : Code). IsValue (part_at ps d.part).meaning (variable_count c.args.self.now.checked.now.spec) in
    subst (All P) (sym c.in_ok-push-in-Variable.ensures.items)
    (All-push P p.values.items c.args.code c.requires.values (subst (λ m. IsValue m (variable_count c.args.self.now.checked.now.spec)) (sym meant)
    (next.variable c.in-Variable.field-0 meant)))
