use Rattle.std.proofs.Common.{◌<◌, ap, arith, get_or, length, subst, sym, ◌∙◌}
use Rattle.rec_syntax.specs.Syntax.{Rule}
use Rattle.rec_sorts.specs.declared.letters.LetterCondition.{LetterCondition}
use Rattle.rec_sorts.specs.Numbering.{IsLetterRule}
use Rattle.rec_match.proofs.LetterLemmas.{pair-long}
use Rattle.rec_trace.specs.Inner.Sides.{HasSide, IsRow, side_of}
use Rattle.rec_trace.proofs.SideLemmas.{rule-at, rule-read, some-same}
use Rattle.rec_trace.proofs.sides.letters_of.Goals as goal

pub bounds-rules-rule : goal.bounds-rules-rule
bounds-rules-rule c =
    let y = c.args.checked.now.spec in
    let long = pair-long (IsLetterRule y) c.rules-rules.result.now y.rules c.rules-rules.ensures.letters in
    let within = (rule-at y c.args.rule c.requires.0 c.requires.1).within in
    omega (arith, long, within)

pub index-requires : goal.index-requires
index-requires c =
    let x = c.index-rules-rule.result in
    let lt = subst (HasSide c.requires.0) c.in-Left.is c.requires.2 in
    let counted = (rule-read c.args.checked.now.spec c.rules-rules.ensures.kept c.rules-rules.result.now c.rules-rules.ensures.letters c.args.rule
    c.requires.0 x c.requires.1 c.index-rules-rule.is).counted in
    let v = x.conditions.ok.0 in
    omega (arith, lt, counted, v)

pub index-requires-in-Right : goal.index-requires-in-Right
index-requires-in-Right c =
    let x = c.index-rules-rule.result in
    let lt = subst (HasSide c.requires.0) c.in-Right.is c.requires.2 in
    let counted = (rule-read c.args.checked.now.spec c.rules-rules.ensures.kept c.rules-rules.result.now c.rules-rules.ensures.letters c.args.rule
    c.requires.0 x c.requires.1 c.index-rules-rule.is).counted in
    let v = x.conditions.ok.0 in
    omega (arith, lt, counted, v)

pub returns-in-Contractum-clause-letters : goal.returns-in-Contractum-clause-letters
returns-in-Contractum-clause-letters c = λ r q.
    let y = c.args.checked.now.spec in
    let x = c.index-rules-rule.result in
    let read = rule-read y c.rules-rules.ensures.kept c.rules-rules.result.now c.rules-rules.ensures.letters c.args.rule r x q c.index-rules-rule.is in
    subst (λ ls. IsRow y r ls (side_of r c.args.side)) (sym c.deref.ensures.value)
    (subst (λ side. IsRow y r x.right.items (side_of r side)) (sym c.in-Contractum.is) read.right)

pub returns-in-Left-clause-letters : goal.returns-in-Left-clause-letters
returns-in-Left-clause-letters c = λ r q.
    let y = c.args.checked.now.spec in
    let x = c.index-rules-rule.result in
    let i = c.in-Left.i in
    let read = rule-read y c.rules-rules.ensures.kept c.rules-rules.result.now c.rules-rules.ensures.letters c.args.rule r x q c.index-rules-rule.is in
    let same = some-same c.requires.0 r (sym c.requires.1 ∙ q) in
    let lt = subst (λ (z : Rule). i < length z.conditions) same (subst (HasSide c.requires.0) c.in-Left.is c.requires.2) in
    subst (λ ls. IsRow y r ls (side_of r c.args.side)) (sym (c.deref-in-Left.ensures.value ∙ ap (λ (z : LetterCondition). z.left.items) c.index.ensures))
    (subst (λ side. IsRow y r (get_or x.conditions.items i c.index.result.now).left.items (side_of r side)) (sym c.in-Left.is)
    (read.lefts i c.index.result.now lt))

pub returns-in-Right-clause-letters : goal.returns-in-Right-clause-letters
returns-in-Right-clause-letters c = λ r q.
    let y = c.args.checked.now.spec in
    let x = c.index-rules-rule.result in
    let i = c.in-Right.i in
    let read = rule-read y c.rules-rules.ensures.kept c.rules-rules.result.now c.rules-rules.ensures.letters c.args.rule r x q c.index-rules-rule.is in
    let same = some-same c.requires.0 r (sym c.requires.1 ∙ q) in
    let lt = subst (λ (z : Rule). i < length z.conditions) same (subst (HasSide c.requires.0) c.in-Right.is c.requires.2) in
    subst (λ ls. IsRow y r ls (side_of r c.args.side)) (sym (c.deref-in-Right.ensures.value
    ∙ ap (λ (z : LetterCondition). z.right.items) c.index-in-Right.ensures))
    (subst (λ side. IsRow y r (get_or x.conditions.items i c.index-in-Right.result.now).right.items (side_of r side)) (sym c.in-Right.is)
    (read.rights i c.index-in-Right.result.now lt))
