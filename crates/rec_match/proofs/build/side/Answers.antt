use Rattle.std.proofs.Common.{arith, sym, subst, ap, refl, ◌∙◌, ◌-◌, length, take, []}
use Rattle.std.specs.Prelude.{get_or}
use Rattle.std.proofs.lemmas.List.Elements.{All-take}
use Rattle.rec_sorts.specs.Numbering.{IsMeaning}
use Rattle.rec_sorts.specs.declared.letters.Letter.{Letter}
use Rattle.rec_syntax.specs.Syntax.{Rule, Apply}
use Rattle.rec_syntax.specs.Syntax as X
use Rattle.rec_match.specs.Ordered.{numbers_in, AreAllBelow}
use Rattle.rec_match.proofs.LetterLemmas.{left-some, left-letters, letters-below, is-left}
use Rattle.rec_match.proofs.build.side.Goals as goal

no_rule : Rule
no_rule = record { left = Apply (record { at = 0; bytes = [] }) X.none; right = Apply (record { at = 0; bytes = [] }) X.none; conditions = [] }

pub overflow_sub-size : goal.overflow_sub-size
overflow_sub-size c =
    let some = left-some c.args.checked.now.spec c.args.rules.now c.args.rule c.index-rules-rule.result c.requires.letters c.requires.rule in
    let l = c.len-size.ensures ∙ (get_or c.args.rules.now c.args.rule c.index-rules-rule.result).left.ok.0 in
    omega (arith, some, l)

pub index-requires : goal.index-requires
index-requires c =
    let some = left-some c.args.checked.now.spec c.args.rules.now c.args.rule c.index-rules-rule.result c.requires.letters c.requires.rule in
    let e = c.len-size.ensures in
    let l = (get_or c.args.rules.now c.args.rule c.index-rules-rule.result).left.ok.0 in
    omega (arith, some, e, l)

pub variables_of-requires-clause-below : goal.variables_of-requires-clause-below
variables_of-requires-clause-below c =
    let y = c.args.checked.now.spec in
    let ls = (get_or c.args.rules.now c.args.rule c.index-rules-rule.result).left.items in
    let letters = left-letters y c.args.rules.now c.args.rule c.index-rules-rule.result no_rule c.requires.letters c.requires.rule in
    subst (λ xs. AreAllBelow (length c.args.places.now.of.items) (take (c.len-size.result - 1) xs)) (sym c.deref.ensures.value)
    (letters-below y (length c.args.places.now.of.items) (take (c.len-size.result - 1) ls) c.requires.places.counted
    (All-take (λ (l : Letter). IsMeaning y l.meaning) (c.len-size.result - 1) ls letters.0))

pub returns-clause-side : goal.returns-clause-side
returns-clause-side c r =
    let l = c.len-size.ensures ∙ (get_or c.args.rules.now c.args.rule c.index-rules-rule.result).left.ok.0 in
    is-left c.args.checked.now.spec c.requires.kept c.args.rules.now c.args.rule (c.len-size.result - 1) c.index-rules-rule.result c.index.result.now
    r _ c.requires.letters c.requires.rule (ap (λ n. n - 1) l) c.index.ensures (c.head-symbol.ensures r) refl
    (c.in_ok-variables.ensures.variables ∙ ap (λ xs. numbers_in [] (take (c.len-size.result - 1) xs)) c.deref.ensures.value)
