use Rattle.std.proofs.Common.{◌≡◌, ◌<◌, ◌+◌, ◌-◌, length, get_or, nat_eq, ap, arith, refl, subst, sym, ◌∙◌}
use Rattle.std.specs.Prelude.{Bool, is_some, vec_len}
use Rattle.std.specs.Bool.{beq}
use Rattle.rx_term.specs.Tree.{list_of, none, tree_eq}
use Rattle.rx_term.specs.Walks.{held_tree}
use Rattle.rec_sorts.specs.Numbering.{IsLetterRule, Pairwise}
use Rattle.rec_syntax.specs.Syntax.{Rule}
use Rattle.rec_sorts.specs.declared.letters.LetterCondition.{LetterCondition}
use Rattle.rec_sorts.specs.declared.letters.LetterRule.{LetterRule}
use Rattle.rec_match.proofs.RunLemmas.{same_trees}
use Rattle.rec_match.proofs.LetterLemmas.{pair-long}
use Rattle.rec_trace.specs.Inner.Sides.{no_condition}
use Rattle.rec_trace.specs.Tracing.{stack_at}
use Rattle.rec_trace.proofs.SideLemmas.{rule-at, rule-read, some-same}
use Rattle.rec_trace.proofs.TopLemmas.{is-first, is-second}
use Rattle.rec_trace.proofs.TurnLemmas.{has-cut}
use Rattle.rec_trace.proofs.tracer.Tracer.compare.Goals as goal

pub bounds-rules-rule : goal.bounds-rules-rule
bounds-rules-rule g c =
    let y = c.args.engine.now.spec in
    let letters = subst (λ z. Pairwise (IsLetterRule z) c.rules.result.now z.rules) c.checked.ensures c.rules.ensures.letters in
    let long = pair-long (IsLetterRule y) c.rules.result.now y.rules letters in
    let within = (rule-at y c.args.rule c.requires.can.0 c.requires.can.1).within in
    omega (arith, long, within)

pub index-requires : goal.index-requires
index-requires g c =
    let y = c.args.engine.now.spec in
    let x = c.index-rules-rule.result in
    let letters = subst (λ z. Pairwise (IsLetterRule z) c.rules.result.now z.rules) c.checked.ensures c.rules.ensures.letters in
    let counted = (rule-read y c.requires.order.good c.rules.result.now letters c.args.rule c.requires.can.0 x c.requires.can.1
    c.index-rules-rule.is).counted in
    let v = x.conditions.ok.0 in
    let lt = c.requires.can.2 in
    let same = ap (λ (z : LetterRule). vec_len z.conditions) c.index-rules-rule.is in
    omega (arith, lt, counted, v, same)

pub returns-clause-order : goal.returns-clause-order
returns-clause-order g c =
    let a = c.args.self.now in
    let long = c.len-at.ensures in
    let counted = a.row.values.ok.0 in
    (has-cut c.args.engine.now.spec (g.B.TermBank.store c.args.engine.now.bank) a (record a { row = c.cut.new.self }) (c.len-at.result - 2)
    c.requires.order c.requires.two c.requires.clear (omega (arith, long, counted)) c.cut.ensures.values c.cut.ensures.steps c.cut.ensures.low refl).order

pub returns-clause-stack : goal.returns-clause-stack
returns-clause-stack g c =
    let a = c.args.self.now in
    let long = c.len-at.ensures in
    let counted = a.row.values.ok.0 in
    (has-cut c.args.engine.now.spec (g.B.TermBank.store c.args.engine.now.bank) a (record a { row = c.cut.new.self }) (c.len-at.result - 2)
    c.requires.order c.requires.two c.requires.clear (omega (arith, long, counted)) c.cut.ensures.values c.cut.ensures.steps c.cut.ensures.low refl).stack

pub returns-clause-answer : goal.returns-clause-answer
returns-clause-answer g c = λ r e.
    let y = c.args.engine.now.spec in
    let w = g.B.TermBank.store c.args.engine.now.bank in
    let a = c.args.self.now in
    let x = c.index-rules-rule.result in
    let letters = subst (λ z. Pairwise (IsLetterRule z) c.rules.result.now z.rules) c.checked.ensures c.rules.ensures.letters in
    let same = some-same c.requires.can.0 r (sym c.requires.can.1 ∙ e) in
    let read = rule-read y c.requires.order.good c.rules.result.now letters c.args.rule r x e c.index-rules-rule.is in
    let equal : c.index.result.now.equal ≡ (get_or r.conditions c.args.i no_condition).equal =
    ap (λ (z : LetterCondition). z.equal) c.index.ensures
    ∙ ap (λ (z : LetterRule). (get_or z.conditions.items c.args.i c.index.result.now).equal) (sym c.index-rules-rule.is)
    ∙ read.equals c.args.i c.index.result.now (subst (λ (z : Rule). c.args.i < length z.conditions) same c.requires.can.2) in
    let two = c.requires.two in
    let long = c.len-at.ensures in
    let counted = a.row.values.ok.0 in
    let left = c.index-2.result.now in
    let right = c.index-3.result.now in
    let below : c.len-at.result - 2 ≡ length a.row.values.items - 2 = omega (arith, long, counted) in
    let above : c.len-at.result - 2 + 1 ≡ length a.row.values.items - 1 = omega (arith, long, counted, two) in
    let second = is-second y w a left c.requires.order two (c.index-2.ensures ∙ ap (λ k. get_or a.row.values.items k left) below) in
    let first = is-first y w a right c.requires.order (omega (arith, two)) (c.index-3.ensures ∙ ap (λ k. get_or a.row.values.items k right) above) in
    let test = same_trees w left right (g.met.B.TermBank.sound c.args.engine.now.bank) (ap is_some second.held) (ap is_some first.held) in
    let shown : tree_eq (get_or (stack_at w a) 1 (list_of none)) (get_or (stack_at w a) 0 (list_of none)) ≡ nat_eq left.0 right.0 =
    ap (λ u. tree_eq u (get_or (stack_at w a) 0 (list_of none))) (sym second.tree) ∙ ap (λ u. tree_eq (held_tree w left) u) (sym first.tree) ∙ test in
    ap (λ (v : Bool). beq v c.index.result.now.equal) (sym shown)
    ∙ ap (λ (v : Bool). beq (tree_eq (get_or (stack_at w a) 1 (list_of none)) (get_or (stack_at w a) 0 (list_of none))) v) equal
