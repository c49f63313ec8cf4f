-- The rules from a number on, and what is kept of a rule.
use Rattle.std.proofs.Common.{drop-cons, zero, suc, ℕ, ◌-◌, ◌<◌, length, get_or, drop, arith, ◌≡◌, List}
use Rattle.std.proofs.Common.{[], ◌∷◌, ◌++◌, Option, Some, None, refl, sym, ap, ◌∙◌, length-append, map}
use Rattle.std.proofs.lemmas.List.{get_or-map}
use Rattle.rx_term.specs.Tree.{Tree}
use Rattle.rx_term.specs.Store.{Store}
use Rattle.rx_term.specs.declared.Term.{Term}
use Rattle.rec_syntax.specs.Syntax.{Spec, Rule, Apply}
use Rattle.rec_syntax.specs.Syntax as X
use Rattle.rec_sorts.specs.Binding.{Substitution, binds, first_match, NumberedMatch}
use Rattle.rec_sorts.specs.Numbering.{arity_of}
use Rattle.rec_match.specs.Matching.{CanFind, count_at}
use Rattle.rec_match.specs.declared.matcher.Matcher.{Matcher}
use Rattle.rec_match.specs.declared.matcher.LeftSide.{LeftSide}

no_rule : Rule
no_rule = record { left = Apply (record { at = 0; bytes = [] }) X.none; right = Apply (record { at = 0; bytes = [] }) X.none; conditions = [] }

-- the rule at a number comes first among those from it on
pub first-matched : (y : Spec) (i : ℕ) (u : Tree) (d : Rule) (s : Substitution) → i < length y.rules → binds y (get_or y.rules i d).left u ≡ Some s
    → first_match y i (drop i y.rules) u ≡ Some (record { number = i; values = s })
first-matched y i u d s lt e = ap (λ rs. first_match y i rs u) (drop-cons y.rules i d lt) ∙ ap at e
  where
    at : Option Substitution → Option NumberedMatch
    at o = elim o [ Some s ↦ Some (record { number = i; values = s }) | None ↦ first_match y (suc i) (drop (suc i) y.rules) u ]

pub first-passed : (y : Spec) (i : ℕ) (u : Tree) (d : Rule) → i < length y.rules → binds y (get_or y.rules i d).left u ≡ None
    → first_match y i (drop i y.rules) u ≡ first_match y (suc i) (drop (suc i) y.rules) u
first-passed y i u d lt e = ap (λ rs. first_match y i rs u) (drop-cons y.rules i d lt) ∙ ap at e
  where
    at : Option Substitution → Option NumberedMatch
    at o = elim o [ Some s ↦ Some (record { number = i; values = s }) | None ↦ first_match y (suc i) (drop (suc i) y.rules) u ]

-- the side that is read
pub side-is : {A : Type 0} (f : LeftSide → A) (m : Matcher) (i : ℕ) (s : LeftSide) (d : A) → i < length m.sides.items → s ≡ get_or m.sides.items i s
    → f s ≡ get_or (map f m.sides.items) i d
side-is f m i s d lt e = ap f e ∙ sym (get_or-map f m.sides.items i s d lt)

-- a rule of the symbol has as many arguments as the symbol
pub own-count : (w : Store) (m : Matcher) (k n i : ℕ) (work : List Term) → CanFind w m k n i work → i < length m.sides.items → count_at m i ≡ n
own-count w m k n i work can lt =
    let ruled = can.matcher.ruled in
    let side = can.matcher.sides i no_rule (omega (arith, lt, ruled)) in
    side.filled ∙ ap (arity_of can.spec) (can.head lt) ∙ sym can.counted

pub last-args : (work below args : List Term) (n : ℕ) → work ≡ below ++ args → n ≡ length args → drop (length work - n) work ≡ args
last-args work below args n e c =
    let l = ap length e ∙ length-append below args in
    ap (drop (length work - n)) e ∙ front below args (length work - n) (omega (arith, l, c))
  where
    front : (xs zs : List Term) (k : ℕ) → k ≡ length xs → drop k (xs ++ zs) ≡ zs
    front [] zs k e = rw e refl
    front (x ∷ xs) zs zero e = absurd (let no : ⊥ = omega (arith, e) in no)
    front (x ∷ xs) zs (suc k) e = front xs zs k (omega (arith, e))
