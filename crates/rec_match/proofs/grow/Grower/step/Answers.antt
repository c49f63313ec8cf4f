use Rattle.std.proofs.Common.{refl, sym, ap, subst, arith, ◌∙◌, ◌≡◌, ◌<◌, length, map}
use Rattle.std.proofs.lemmas.Bool.{eqb-true, eqb-false}
use Rattle.std.specs.Prelude.{List, [], ◌∷◌, All}
use Rattle.rec_match.specs.Parts.{coded_of, IsCode}
use Rattle.rec_match.specs.Matching.{numbers_of}
use Rattle.rec_match.specs.declared.parts.Code.{Code}
use Rattle.rec_match.specs.declared.parts.CodeRow.{CodeRow}
use Rattle.rec_match.proofs.LeftLemmas.{rows_there, rows_within}
use Rattle.rec_match.proofs.TaskLemmas.{empty_steps}
use Rattle.rec_match.proofs.grow.Grower.step.Goals as goal

no_rows : (xs : List CodeRow) → length xs ≡ 0 → xs ≡ []
no_rows [] e = refl
no_rows (x ∷ xs) e = absurd (let bad : ⊥ = omega (arith, e) in bad)

pub returns-then-is_empty-clause-steps : goal.returns-then-is_empty-clause-steps
returns-then-is_empty-clause-steps c =
    let none = eqb-true _ 0 (sym c.is_empty.ensures ∙ c.if-is_empty.true) in
    let v = c.args.rows.ok.0 in
    empty_steps c.args.self.now.checked.now.spec (numbers_of c.args.self.now.links.now) c.args.self.now.left.now.parts c.args.work.now.growth.forest _
    _ c.args.node c.args.width (map coded_of c.args.rows.items)
    (ap (map coded_of) (no_rows c.args.rows.items (omega (arith, none, v)))) refl refl refl

pub switch-requires-clause-some : goal.switch-requires-clause-some
switch-requires-clause-some c =
    let some : (Rattle.std.specs.Vec.vec_len c.args.rows ≡ 0) → ⊥ = eqb-false _ 0 (sym c.is_empty.ensures ∙ c.if-is_empty.false) in
    let v = c.args.rows.ok.0 in
    let l = ap length c.deref-2.ensures.value in
    omega (arith, some, v, l)

pub switch-requires-clause-registers : goal.switch-requires-clause-registers
switch-requires-clause-registers c =
    subst (λ xs. All (λ (row : CodeRow). All (λ (d : Code). d.register < c.args.width) row.codes.items) xs) (sym c.deref-2.ensures.value)
    (rows_within c.args.self.now.checked.now.spec c.args.self.now.left.now.parts c.args.width c.args.rows.items _ c.requires.can.1.tasks.0.rows)

pub switch-requires-clause-codes : goal.switch-requires-clause-codes
switch-requires-clause-codes c =
    subst (λ xs. All (λ (row : CodeRow). All (IsCode c.args.self.now.left.now.parts) row.codes.items) xs) (sym c.deref-2.ensures.value)
    (rows_there c.args.self.now.left.now.parts c.requires.ready.ground.whole c.args.rows.items c.requires.can.1.tasks.0.rows.there)
