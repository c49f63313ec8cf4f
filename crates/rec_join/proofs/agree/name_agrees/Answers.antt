use Rattle.std.proofs.Common.{◌≡◌, ◌+◌, ◌-◌, ◌<◌, ◌∙◌, ap, arith, length, sym}
use Rattle.std.proofs.lemmas.Grind.{common_steps}
use Rattle.rec_syntax.specs.Syntax.{Sourced}
use Rattle.rec_join.specs.Join.{unplaced}
use Rattle.rec_join.proofs.JoinLemmas.{last_is}
use Rattle.rec_join.proofs.agree.name_agrees.Goals as goal

pub returns : goal.returns
returns c = λ e.
    let parts = c.args.parts.now in
    let some : 0 < length parts = grind (arith, common_steps) in
    let last : length parts - 1 + 1 ≡ length parts = omega (arith, some) in
    ap unplaced (sym c.name.ensures.name) ∙ c.same_word.ensures e
    ∙ ap unplaced (c.name-2.ensures.name ∙ ap (λ (s : Sourced). s.spec.name) c.index-parts-parts.is
    ∙ sym (last_is parts (length parts - 1) c.index-parts-parts.result last))
