use Rattle.std.proofs.Common.{◌∙◌, [], ◌∷◌, ◌++◌, map, sym}
use Rattle.rec_syntax.specs.Inner.Machine.{with_rule}
use Rattle.rec_syntax.specs.Parts.{term_of, condition_of}
use Rattle.rec_syntax.proofs.ExpectingLemmas.{rule_ends, conditions_end}
use Rattle.rec_syntax.proofs.reader.expected.is_after_whole.Goals as goal

pub returns-in_default-kind : goal.returns-in_default-kind
returns-in_default-kind c =
    λ bytes t y.
    let l = term_of bytes c.in-Right.field-0 in
    rw c.in-Right.is (c.is_after_item.ensures (with_rule y (record { left = l; right = t; conditions = [] }))
    ∙ sym (rule_ends l t y c.args.kind c.in_default-kind.not-If))

pub returns-in_default-kind-2 : goal.returns-in_default-kind-2
returns-in_default-kind-2 c =
    λ bytes t y.
    let rule = c.in-ConditionRight.field-0 in
    let l = term_of bytes rule.left in
    let r = term_of bytes rule.right in
    let cs = map (condition_of bytes) rule.conditions.items in
    let x = term_of bytes c.in-ConditionRight.field-1 in
    let e = c.in-ConditionRight.field-2 in
    let whole = with_rule y (record { left = l; right = r; conditions = cs ++ record { left = x; right = t; equal = e } ∷ [] }) in
    rw c.in-ConditionRight.is (c.is_after_item-in_default-kind-2.ensures whole ∙ sym (conditions_end l r cs x e t y c.args.kind c.in_default-kind-2.not-AndIf))
