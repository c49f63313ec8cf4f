use Rattle.std.proofs.Common.{◌≡◌, arith, get_or, subst, sym, ◌∙◌}
use Rattle.std.specs.Prelude.{Bool, true, false, Some, slice_get, ◌≤◌, refl}
use Rattle.std.specs.Bool.{beq}
use Rattle.rx_term.specs.Tree.{Tree, list_of, none, tree_eq}
use Rattle.rec_syntax.specs.Syntax.{Rule}
use Rattle.rec_sorts.specs.Binding.{Substitution}
use Rattle.rec_sorts.specs.Evaluation.{Call, evaluate}
use Rattle.rec_trace.specs.Inner.Sides.{IsMatch, no_condition, side_of}
use Rattle.rec_trace.specs.Tracing.{Adds, Gives, IsInOrder, moves_at, on_top, stack_at}
use Rattle.rec_trace.specs.Inner.Turns.{CanTake}
use Rattle.rec_trace.specs.declared.sides.Side.TheVariants.{Left, Right}
use Rattle.rec_trace.proofs.ConditionLemmas.{can-take, clear-below, compared, held-as, is-under, more-reach, over-left, over-right, side-gave}
use Rattle.rec_trace.proofs.TopLemmas.{is-top}
use Rattle.rec_trace.proofs.tracer.Tracer.condition.Given as given
use Rattle.rec_trace.proofs.tracer.Tracer.condition.Goals.{After-len, In_ok-side, In_ok-side-2}
use Rattle.rec_trace.proofs.tracer.Tracer.condition.Goals as goal

-- the tree on top matches, so the left side gives
left : (g : given.Over) (c : In_ok-side g) (z : Bool) → c.in_ok-side.field-0 ≡ z → (r : Rule) (s : Substitution)
    → let y = c.args.engine.now.spec in
    let w = g.B.TermBank.store c.args.engine.now.bank in
    let a = c.args.self.now in
    IsMatch y c.args.rule (on_top (stack_at w a)) r s
    → Gives y w (g.B.TermBank.store c.side.new.engine.bank) a c.side.new.self (evaluate (Call y) a.left s (side_of r (Left c.args.i))) z
left g c z is =
    let y = c.args.engine.now.spec in
    let w = g.B.TermBank.store c.args.engine.now.bank in
    let a = c.args.self.now in
    let top = is-top y w a c.top-redex.result c.requires.top.order c.requires.top.some c.top-redex.ensures in
    side-gave y y w (g.B.TermBank.store c.side.new.engine.bank) a c.side.new.self c.args.rule (Left c.args.i) c.top-redex.result (on_top (stack_at w a))
    c.in_ok-side.field-0 z refl c.in_ok-side.ensures.gives top.tree is

-- it is below the left side's value, so the right side gives
right : (g : given.Over) (c : In_ok-side-2 g) (z : Bool) → c.in_ok-side-2.field-0 ≡ z → (v : Tree)
    → let y = c.args.engine.now.spec in
    let w = g.B.TermBank.store c.args.engine.now.bank in
    let a = c.args.self.now in
    let w1 = g.B.TermBank.store c.side.new.engine.bank in
    let b = c.side.new.self in
    Adds y w w1 a b v → (r : Rule) (s : Substitution) → IsMatch y c.args.rule (on_top (stack_at w a)) r s
    → Gives y w1 (g.B.TermBank.store c.side-2.new.engine.bank) b c.side-2.new.self (evaluate (Call y) b.left s (side_of r (Right c.args.i))) z
right g c z is v adds =
    let y = c.args.engine.now.spec in
    let w = g.B.TermBank.store c.args.engine.now.bank in
    let a = c.args.self.now in
    let w1 = g.B.TermBank.store c.side.new.engine.bank in
    let b = c.side.new.self in
    let redex = c.index-redex.result.now in
    let u = on_top (stack_at w a) in
    let under = is-under y w w1 a b v redex c.len.result adds c.requires.top.some (c.len.ensures ∙ b.row.values.ok.0) c.index-redex.ensures in
    side-gave c.side.new.engine.spec y w1 (g.B.TermBank.store c.side-2.new.engine.bank) b c.side-2.new.self c.args.rule (Right c.args.i) redex u
    c.in_ok-side-2.field-0 z c.side.ensures.relists.same.spec c.in_ok-side-2.ensures.gives (held-as w1 redex u under) is

two : (g : given.Over) (c : After-len g) (v : Tree)
    → Adds c.args.engine.now.spec (g.B.TermBank.store c.args.engine.now.bank) (g.B.TermBank.store c.side.new.engine.bank) c.args.self.now c.side.new.self v
    → 2 ≤ c.len.result
two g c v adds =
    let more = more-reach c.args.engine.now.spec (g.B.TermBank.store c.args.engine.now.bank) (g.B.TermBank.store c.side.new.engine.bank) c.args.self.now
    c.side.new.self v 0 adds c.requires.top.some in
    let long = c.len.ensures in
    let counted = c.side.new.self.row.values.ok.0 in
    omega (arith, more, long, counted)

pub side-requires-clause-can : goal.side-requires-clause-can
side-requires-clause-can g c =
    let y = c.args.engine.now.spec in
    let w = g.B.TermBank.store c.args.engine.now.bank in
    let a = c.args.self.now in
    let top = is-top y w a c.top-redex.result c.requires.top.order c.requires.top.some c.top-redex.ensures in
    let q = c.requires.can in
    can-take y w c.args.rule (Left c.args.i) c.top-redex.result (on_top (stack_at w a)) q.0 q.1 q.2 q.3 top.held

pub returns-then-not-branch-clause-answers : goal.returns-then-not-branch-clause-answers
returns-then-not-branch-clause-answers g c = λ r s match.
    let at = goal.at.returns-then-not-branch-clause-answers g c in
    over-left c.args.engine.now.spec c.args.self.now.left s (get_or r.conditions c.args.i no_condition)
    (left g at.In_ok-side false c.if-not-branch.true r s match)

pub overflow_sub-len : goal.overflow_sub-len
overflow_sub-len g c =
    let at = goal.at.overflow_sub-len g c in
    let q = c.requires.can in
    let first = left g at.In_ok-side true c.if-not-branch.false q.0 q.1 q.2 in
    let more = two g at.After-len first.0 first.2 in
    omega (arith, more)

pub index-redex-requires : goal.index-redex-requires
index-redex-requires g c =
    let at = goal.at.index-redex-requires g c in
    let q = c.requires.can in
    let first = left g at.In_ok-side true c.if-not-branch.false q.0 q.1 q.2 in
    let more = two g at.After-len first.0 first.2 in
    let long = c.len.ensures in
    let counted = c.side.new.self.row.values.ok.0 in
    omega (arith, more, long, counted)

pub side-requires-2-clause-order : goal.side-requires-2-clause-order
side-requires-2-clause-order g c =
    let at = goal.at.side-requires-2-clause-order g c in
    let q = c.requires.can in
    let first = left g at.In_ok-side true c.if-not-branch.false q.0 q.1 q.2 in
    subst (λ z. IsInOrder z (g.B.TermBank.store c.side.new.engine.bank) c.side.new.self) (sym c.side.ensures.relists.same.spec) first.2.order

pub side-requires-2-clause-can : goal.side-requires-2-clause-can
side-requires-2-clause-can g c =
    let at = goal.at.side-requires-2-clause-can g c in
    let y = c.args.engine.now.spec in
    let w = g.B.TermBank.store c.args.engine.now.bank in
    let a = c.args.self.now in
    let w1 = g.B.TermBank.store c.side.new.engine.bank in
    let b = c.side.new.self in
    let q = c.requires.can in
    let first = left g at.In_ok-side true c.if-not-branch.false q.0 q.1 q.2 in
    let redex = c.index-redex.result.now in
    let under = is-under y w w1 a b first.0 redex c.len.result first.2 c.requires.top.some (c.len.ensures ∙ b.row.values.ok.0) c.index-redex.ensures in
    subst (λ z. CanTake z w1 c.args.rule (Right c.args.i) redex) (sym c.side.ensures.relists.same.spec)
    (can-take y w1 c.args.rule (Right c.args.i) redex (on_top (stack_at w a)) q.0 q.1 q.2 q.3 under)

pub returns-then-not-branch-2-clause-answers : goal.returns-then-not-branch-2-clause-answers
returns-then-not-branch-2-clause-answers g c = λ r s match.
    let at = goal.at.returns-then-not-branch-2-clause-answers g c in
    let first = left g at.In_ok-side true c.if-not-branch.false r s match in
    over-right c.args.engine.now.spec c.args.self.now.left c.side.new.self.left s (get_or r.conditions c.args.i no_condition) first.0 first.1
    (right g at.In_ok-side-2 false c.if-not-branch-2.true first.0 first.2 r s match)

pub compare-requires-clause-order : goal.compare-requires-clause-order
compare-requires-clause-order g c =
    let at = goal.at.compare-requires-clause-order g c in
    let q = c.requires.can in
    let first = left g at.In_ok-side true c.if-not-branch.false q.0 q.1 q.2 in
    let second = right g at.In_ok-side-2 true c.if-not-branch-2.false first.0 first.2 q.0 q.1 q.2 in
    subst (λ z. IsInOrder z (g.B.TermBank.store c.side-2.new.engine.bank) c.side-2.new.self)
    (sym (c.side-2.ensures.relists.same.spec ∙ c.side.ensures.relists.same.spec)) second.2.order

pub compare-requires-clause-two : goal.compare-requires-clause-two
compare-requires-clause-two g c =
    let at = goal.at.compare-requires-clause-two g c in
    let y = c.args.engine.now.spec in
    let w1 = g.B.TermBank.store c.side.new.engine.bank in
    let b = c.side.new.self in
    let q = c.requires.can in
    let first = left g at.In_ok-side true c.if-not-branch.false q.0 q.1 q.2 in
    let second = right g at.In_ok-side-2 true c.if-not-branch-2.false first.0 first.2 q.0 q.1 q.2 in
    let more = more-reach y (g.B.TermBank.store c.args.engine.now.bank) w1 c.args.self.now b first.0 0 first.2 c.requires.top.some in
    let most = more-reach y w1 (g.B.TermBank.store c.side-2.new.engine.bank) b c.side-2.new.self second.0 1 second.2 more in
    omega (arith, most)

pub compare-requires-clause-clear : goal.compare-requires-clause-clear
compare-requires-clause-clear g c =
    let at = goal.at.compare-requires-clause-clear g c in
    let q = c.requires.can in
    let first = left g at.In_ok-side true c.if-not-branch.false q.0 q.1 q.2 in
    let second = right g at.In_ok-side-2 true c.if-not-branch-2.false first.0 first.2 q.0 q.1 q.2 in
    clear-below c.args.engine.now.spec (g.B.TermBank.store c.args.engine.now.bank) (g.B.TermBank.store c.side.new.engine.bank)
    (g.B.TermBank.store c.side-2.new.engine.bank) c.args.self.now c.side.new.self c.side-2.new.self first.0 second.0 c.requires.top.order first.2 second.2

pub returns-clause-answers : goal.returns-clause-answers
returns-clause-answers g c = λ r s match.
    let at = goal.at.returns-clause-answers g c in
    let y = c.args.engine.now.spec in
    let w2 = g.B.TermBank.store c.side-2.new.engine.bank in
    let d = c.side-2.new.self in
    let first = left g at.In_ok-side true c.if-not-branch.false r s match in
    let second = right g at.In_ok-side-2 true c.if-not-branch-2.false first.0 first.2 r s match in
    let spec = c.side-2.ensures.relists.same.spec ∙ c.side.ensures.relists.same.spec in
    let e = c.compare.new.self in
    let order = subst (λ z. IsInOrder z w2 e) spec c.compare.ensures.order in
    let moves = subst (λ z. moves_at z w2 e ≡ moves_at z w2 d) spec c.compare.ensures.moves in
    let answer = subst (λ z. (r : Rule) → slice_get z.rules c.args.rule ≡ Some r
    → c.compare.result ≡ beq (tree_eq (get_or (stack_at w2 d) 1 (list_of none)) (get_or (stack_at w2 d) 0 (list_of none)))
    (get_or r.conditions c.args.i no_condition).equal) spec c.compare.ensures.answer in
    compared y (g.B.TermBank.store c.args.engine.now.bank) (g.B.TermBank.store c.side.new.engine.bank) w2 c.args.self.now c.side.new.self d e s
    (get_or r.conditions c.args.i no_condition) c.compare.result first second c.compare.ensures.left order moves
    c.compare.ensures.stack c.compare.ensures.steps c.compare.ensures.long (answer r match.rule)
