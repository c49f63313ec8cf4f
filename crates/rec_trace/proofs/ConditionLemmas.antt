-- Conditions of a rule that matches the tree on top.
use Rattle.std.proofs.Common.{◌+◌, ◌-◌, ◌<◌, ◌≤◌, ℕ, arith, refl, sym, ap, subst, ◌∙◌, length, drop, get_or}
use Rattle.std.specs.Prelude.{suc, ◌≡◌, Bool, true, false, List, [], ◌∷◌, Option, Some, None, is_some, reverse, unwrap_or, Vec}
use Rattle.std.specs.Bool.{beq}
use Rattle.std.specs.declared.alloc.Global.{Global}
use Rattle.rx_term.specs.Tree.{Tree, list_of, none, tree_eq}
use Rattle.rx_term.specs.Store.{Store, tree_at}
use Rattle.rx_term.specs.Walks.{held_tree}
use Rattle.rx_term.specs.declared.Term.{Term as Reference}
use Rattle.rec_syntax.specs.Syntax.{Condition, Rule, Spec}
use Rattle.rec_sorts.specs.Binding.{Substitution}
use Rattle.rec_sorts.specs.Evaluation.{Outcome, Done, Over, ◌then◌, Call, Eval, Holds, evaluate}
use Rattle.rec_sorts.proofs.RuleLemmas.{after_left}
use Rattle.rec_engine.proofs.TermLemmas.{drop-at, drop-end}
use Rattle.rec_trace.specs.Inner.Sides.{HasSide, IsMatch, no_condition, side_of}
use Rattle.rec_trace.specs.Tracing.{Adds, AreAnswered, Gives, IsInOrder, IsSame, moves_at, on_top, stack_at}
use Rattle.rec_trace.specs.Inner.Turns.{CanTake}
use Rattle.rec_trace.specs.Rows.{IsClear, IsRow, floor_of, moves_in, reach_of, stack_in}
use Rattle.rec_trace.specs.declared.row.Row.{Row}
use Rattle.rec_trace.specs.Lists.{IsSaved}
use Rattle.rec_trace.specs.declared.sides.Side.{Side}
use Rattle.rec_trace.specs.declared.row.Step.{Step}
use Rattle.rec_trace.specs.declared.tracer.Tracer.{Tracer}
use Rattle.rec_trace.proofs.RunLemmas.{called-is}
use Rattle.rec_trace.proofs.TopLemmas.{is-second}

pub held-as : (w : Store) (t : Reference) (u : Tree) → tree_at w t ≡ Some u → held_tree w t ≡ u
held-as w t u e = ap (λ (o : Option Tree). unwrap_or o (list_of none)) e

-- a side can be taken where its tree is held
pub can-take : (y : Spec) (w : Store) (i : ℕ) (side : Side) (redex : Reference) (u : Tree) (r : Rule) (s : Substitution) → IsMatch y i u r s
    → HasSide r side → tree_at w redex ≡ Some u → CanTake y w i side redex
can-take y w i side redex u r s match has e = (r, s, subst (λ v. IsMatch y i v r s) (sym (held-as w redex u e)) match, has, ap is_some e)

-- what a side gives, by the tree that its redex holds
pub side-gave : (x y : Spec) (w w' : Store) (a b : Tracer) (i : ℕ) (side : Side) (redex : Reference) (u : Tree) (before z : Bool) → x ≡ y
    → ((r : Rule) (s : Substitution) → IsMatch x i (held_tree w redex) r s → Gives x w w' a b (evaluate (Call x) a.left s (side_of r side)) before)
    → held_tree w redex ≡ u → before ≡ z → (r : Rule) (s : Substitution) → IsMatch y i u r s
    → Gives y w w' a b (evaluate (Call y) a.left s (side_of r side)) z
side-gave x y w w' a b i side redex u before z spec gives tree is r s match =
    let given = subst (λ x. (r : Rule) (s : Substitution) → IsMatch x i (held_tree w redex) r s
    → Gives x w w' a b (evaluate (Call x) a.left s (side_of r side)) before) spec gives in
    subst (Gives y w w' a b (evaluate (Call y) a.left s (side_of r side))) is (given r s (subst (λ v. IsMatch y i v r s) (sym tree) match))

-- what a condition comes to, by what its sides come to
holds-is : (y : Spec) (n : ℕ) (s : Substitution) (c : Condition) (cs : List Condition) → Holds y n s (c ∷ cs) ≡ after_left y s c cs (Eval y n s c.left)
unfolding Holds
holds-is y n s c cs = refl

holds-end : (y : Spec) (n : ℕ) (s : Substitution) → Holds y n s [] ≡ Done true n
unfolding Holds
holds-end y n s = refl

abbrev and_then : Spec → Substitution → List Condition → Outcome Bool → Outcome Bool
and_then y s cs (Done true n) = Holds y n s cs
and_then y s cs (Done false n) = Done false n
and_then y s cs Over = Over

-- one condition, and then the others
pub holds-first : (y : Spec) (n : ℕ) (s : Substitution) (c : Condition) (cs : List Condition) → Holds y n s (c ∷ cs) ≡ and_then y s cs (Holds y n s (c ∷ []))
holds-first y n s c cs = holds-is y n s c cs ∙ by (Eval y n s c.left) ∙ ap (and_then y s cs) (sym (holds-is y n s c []))
  where
    answered : (b : Bool) (rest : ℕ) → ◌≡◌ {A = Outcome Bool} (elim b [ true ↦ Holds y rest s cs | false ↦ Done false rest ])
        (and_then y s cs (elim b [ true ↦ Holds y rest s [] | false ↦ Done false rest ]))
    answered true rest = ap (and_then y s cs) (sym (holds-end y rest s))
    answered false rest = refl

    second : (u : Tree) (o : Outcome Tree) → (o then λ v rest. elim (beq (tree_eq u v) c.equal) [ true ↦ Holds y rest s cs | false ↦ Done false rest ])
        ≡ and_then y s cs (o then λ v rest. elim (beq (tree_eq u v) c.equal) [ true ↦ Holds y rest s [] | false ↦ Done false rest ])
    second u Over = refl
    second u (Done v rest) = answered (beq (tree_eq u v) c.equal) rest

    by : (o : Outcome Tree) → after_left y s c cs o ≡ and_then y s cs (after_left y s c [] o)
    by Over = refl
    by (Done u left) = second u (Eval y left s c.right)

-- a condition whose first side is over the limit, or whose second one is
pub over-left : (y : Spec) (n : ℕ) (s : Substitution) (c : Condition) → evaluate (Call y) n s c.left ≡ Over → Holds y n s (c ∷ []) ≡ Over
over-left y n s c e = holds-is y n s c [] ∙ ap (after_left y s c []) (sym (called-is y n s c.left) ∙ e)

pub over-right : (y : Spec) (n left : ℕ) (s : Substitution) (c : Condition) (u : Tree) → evaluate (Call y) n s c.left ≡ Done u left
    → evaluate (Call y) left s c.right ≡ Over → Holds y n s (c ∷ []) ≡ Over
over-right y n left s c u e f =
    holds-is y n s c [] ∙ ap (after_left y s c []) (sym (called-is y n s c.left) ∙ e)
    ∙ ap (λ (o : Outcome Tree). o then λ v rest. elim (beq (tree_eq u v) c.equal) as (λ _. Outcome Bool)
    [ true ↦ Holds y rest s [] | false ↦ Done false rest ]) (sym (called-is y left s c.right) ∙ f)

both : (y : Spec) (n left rest : ℕ) (s : Substitution) (c : Condition) (u v : Tree) → evaluate (Call y) n s c.left ≡ Done u left
    → evaluate (Call y) left s c.right ≡ Done v rest → Holds y n s (c ∷ []) ≡ Done (beq (tree_eq u v) c.equal) rest
both y n left rest s c u v e f =
    holds-is y n s c [] ∙ ap (after_left y s c []) (sym (called-is y n s c.left) ∙ e)
    ∙ ap (λ (o : Outcome Tree). o then λ v rest. elim (beq (tree_eq u v) c.equal) as (λ _. Outcome Bool)
    [ true ↦ Holds y rest s [] | false ↦ Done false rest ]) (sym (called-is y left s c.right) ∙ f)
    ∙ by (beq (tree_eq u v) c.equal)
  where
    by : (b : Bool) → ◌≡◌ {A = Outcome Bool} (elim b [ true ↦ Holds y rest s [] | false ↦ Done false rest ]) (Done b rest)
    by true = holds-end y rest s
    by false = refl

-- the sides were compared, and went
pub compared : (y : Spec) (w w1 w2 : Store) (a b d e : Tracer) (s : Substitution) (c : Condition) (answer : Bool)
    → Gives y w w1 a b (evaluate (Call y) a.left s c.left) true → Gives y w1 w2 b d (evaluate (Call y) b.left s c.right) true → e.left ≡ d.left
    → IsInOrder y w2 e → moves_at y w2 e ≡ moves_at y w2 d → stack_at w2 e ≡ drop 2 (stack_at w2 d) → e.row.steps ≡ d.row.steps
    → length e.row.values.items + 2 ≡ length d.row.values.items
    → answer ≡ beq (tree_eq (get_or (stack_at w2 d) 1 (list_of none)) (get_or (stack_at w2 d) 0 (list_of none))) c.equal
    → AreAnswered y w w2 a e (Holds y a.left s (c ∷ [])) (Some answer)
compared y w w1 w2 a b d e s c answer first second left order moves gone steps long is =
    let stack : stack_at w2 d ≡ second.0 ∷ first.0 ∷ stack_at w a = second.2.stack ∙ ap (λ st. second.0 ∷ st) first.2.stack in
    let answered : answer ≡ beq (tree_eq first.0 second.0) c.equal =
    is ∙ ap (λ (st : List Tree). beq (tree_eq (get_or st 1 (list_of none)) (get_or st 0 (list_of none))) c.equal) stack in
    let longer = first.2.long in
    let longest = second.2.long in (
      both y a.left b.left d.left s c first.0 second.0 first.1 second.1
          ∙ ap (λ v. let o : Outcome Bool = Done v d.left in o) (sym answered) ∙ ap (λ n. let o : Outcome Bool = Done answer n in o) (sym left),
      record {
        order = order;
        moves = moves ∙ second.2.moves ∙ first.2.moves;
        stack = gone ∙ ap (drop 2) stack;
        steps = ap (λ (z : Vec Step Global). z.items) steps ∙ second.2.steps ∙ first.2.steps;
        long = omega (arith, long, longer, longest);
      },
    )

pub same-first : (y : Spec) (w : Store) (t : Tracer) → IsInOrder y w t → IsSame y w w t t
same-first y w t order = record { order = order; moves = refl; stack = refl; steps = refl; long = refl }

pub same-more : (y : Spec) (w w1 w2 : Store) (a b d : Tracer) → IsSame y w w1 a b → IsSame y w1 w2 b d → IsSame y w w2 a d
same-more y w w1 w2 a b d p q = record {
  order = q.order;
  moves = q.moves ∙ p.moves;
  stack = q.stack ∙ p.stack;
  steps = q.steps ∙ p.steps;
  long = q.long ∙ p.long;
}

-- a tracer with the same row is in the same state
pub order-row : (y : Spec) (w : Store) (a b : Tracer) → IsInOrder y w a → b.row ≡ a.row → b.saved ≡ a.saved → IsInOrder y w b
order-row y w a b order row saved = record {
  good = order.good;
  row = subst (IsRow y w) (sym row) order.row;
  saved = subst (IsSaved w b.row) (sym saved) (subst (λ r. IsSaved w r a.saved) (sym row) order.saved);
}

pub same-row : (y : Spec) (w w' : Store) (a b d : Tracer) → IsSame y w w' a b → d.row ≡ b.row → d.saved ≡ b.saved → IsSame y w w' a d
same-row y w w' a b d same row saved = record {
  order = order-row y w' b d same.order row saved;
  moves = ap (moves_in y w') row ∙ same.moves;
  stack = ap (stack_in w') row ∙ same.stack;
  steps = ap (λ (z : Row). z.steps.items) row ∙ same.steps;
  long = ap (λ (z : Row). length z.values.items) row ∙ same.long;
}

pub answered-row : (y : Spec) (w w' : Store) (a b d : Tracer) (o : Outcome Bool) (answer : Bool) → AreAnswered y w w' a b o (Some answer)
    → d.row ≡ b.row → d.saved ≡ b.saved → d.left ≡ b.left → AreAnswered y w w' a d o (Some answer)
answered-row y w w' a b d o answer h row saved left =
    (h.0 ∙ ap (λ n. let o : Outcome Bool = Done answer n in o) (sym left), same-row y w w' a b d h.1 row saved)

-- as much is within reach as was
pub same-reach : (y : Spec) (w w' : Store) (a b : Tracer) (k : ℕ) → IsSame y w w' a b → k < reach_of a.row → k < reach_of b.row
same-reach y w w' a b k same lt =
    let long = same.long in
    subst (λ (xs : List Step). k < length b.row.values.items - floor_of (reverse xs)) (sym same.steps) (omega (arith, long, lt))

-- and a value more, where one came on top
pub more-reach : (y : Spec) (w w' : Store) (a b : Tracer) (v : Tree) (k : ℕ) → Adds y w w' a b v → k < reach_of a.row → suc k < reach_of b.row
more-reach y w w' a b v k more lt =
    let long = more.long in
    subst (λ (xs : List Step). suc k < length b.row.values.items - floor_of (reverse xs)) (sym more.steps) (omega (arith, long, lt))

-- the tree that was on top is below the one that came
pub is-under : (y : Spec) (w w' : Store) (a b : Tracer) (v : Tree) (redex : Reference) (n : ℕ) → Adds y w w' a b v → 0 < reach_of a.row
    → n ≡ length b.row.values.items → redex ≡ get_or b.row.values.items (n - 2) redex → tree_at w' redex ≡ Some (on_top (stack_at w a))
is-under y w w' a b v redex n more some long at =
    (is-second y w' b redex more.order (more-reach y w w' a b v 0 more some) (at ∙ ap (λ k. get_or b.row.values.items (k - 2) redex) long)).held
    ∙ ap (λ (st : List Tree). let o : Option Tree = Some (get_or st 1 (list_of none)) in o) more.stack

-- below two values that came on top the steps find enough
pub clear-below : (y : Spec) (w w1 w2 : Store) (a b d : Tracer) (u v : Tree) → IsInOrder y w a → Adds y w w1 a b u → Adds y w1 w2 b d v
    → IsClear (reverse d.row.steps.items) (length d.row.values.items - 2)
clear-below y w w1 w2 a b d u v order first second =
    let one = first.long in
    let two = second.long in
    let same : length a.row.values.items ≡ length d.row.values.items - 2 = omega (arith, one, two) in
    subst (λ (xs : List Step). IsClear (reverse xs) (length d.row.values.items - 2)) (sym (second.steps ∙ first.steps))
    (subst (IsClear (reverse a.row.steps.items)) same order.row.clear)

-- the conditions from one on, by that one
unrolled : (y : Spec) (n : ℕ) (s : Substitution) (cs : List Condition) (i : ℕ) → i < length cs
    → Holds y n s (drop i cs) ≡ and_then y s (drop (i + 1) cs) (Holds y n s (get_or cs i no_condition ∷ []))
unrolled y n s cs i lt = ap (Holds y n s) (drop-at cs i no_condition lt) ∙ holds-first y n s (get_or cs i no_condition) (drop (i + 1) cs)

-- what the answer for a condition says of all of them
abbrev pub Asked : Spec → Store → Store → Tracer → Tracer → Substitution → List Condition → ℕ → Option Bool → Type 0
Asked y w w' a d s cs i (Some true) = (Holds y d.left s (drop (i + 1) cs) ≡ Holds y a.left s cs) × IsSame y w w' a d
Asked y w w' a d s cs i (Some false) = (Holds y a.left s cs ≡ Done false d.left) × IsSame y w w' a d
Asked y w w' a d s cs i None = Holds y a.left s cs ≡ Over

pub asked : (y : Spec) (w w1 w2 : Store) (a b d : Tracer) (s : Substitution) (cs : List Condition) (i : ℕ) (o : Option Bool) → IsSame y w w1 a b
    → Holds y b.left s (drop i cs) ≡ Holds y a.left s cs → i < length cs
    → AreAnswered y w1 w2 b d (Holds y b.left s (get_or cs i no_condition ∷ [])) o → Asked y w w2 a d s cs i o
asked y w w1 w2 a b d s cs i (Some true) state comes lt h = (
  sym (ap (and_then y s (drop (i + 1) cs)) h.0) ∙ sym (unrolled y b.left s cs i lt)
      ∙ comes,
  same-more y w w1 w2 a b d state h.1,
)
asked y w w1 w2 a b d s cs i (Some false) state comes lt h =
    (sym comes ∙ unrolled y b.left s cs i lt ∙ ap (and_then y s (drop (i + 1) cs)) h.0, same-more y w w1 w2 a b d state h.1)
asked y w w1 w2 a b d s cs i None state comes lt h = sym comes ∙ unrolled y b.left s cs i lt ∙ ap (and_then y s (drop (i + 1) cs)) h

-- all were asked
pub all-asked : (y : Spec) (w w1 : Store) (a b : Tracer) (s : Substitution) (cs : List Condition) (i : ℕ) → IsSame y w w1 a b
    → Holds y b.left s (drop i cs) ≡ Holds y a.left s cs → length cs ≤ i → AreAnswered y w w1 a b (Holds y a.left s cs) (Some true)
all-asked y w w1 a b s cs i state comes le = (sym comes ∙ ap (Holds y b.left s) (drop-end cs i le) ∙ holds-end y b.left s, state)
