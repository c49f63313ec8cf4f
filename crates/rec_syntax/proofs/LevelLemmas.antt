-- The order of the sections.
use Rattle.std.proofs.Common.{◌≡◌, true, List, [], ◌∷◌, refl}
use Rattle.rec_syntax.specs.Tokens.{Section, Sorts, Cons, Opns, Vars, Rules, Eval, Token}
use Rattle.rec_syntax.specs.Syntax.{Spec}
use Rattle.rec_syntax.specs.Inner.Machine.{Level, Top, In, later}
use Rattle.rec_syntax.proofs.SectionLemmas.{sections, Empty, left_out}

-- the level before a section
abbrev pub before : Section → Level
before Sorts = Top
before Cons = In Sorts
before Opns = In Cons
before Vars = In Opns
before Rules = In Vars
before Eval = In Rules

-- the sections up to a level, the last first
abbrev pub up_to : Level → List Section
up_to Top = []
up_to (In Sorts) = Sorts ∷ []
up_to (In Cons) = Cons ∷ Sorts ∷ []
up_to (In Opns) = Opns ∷ Cons ∷ Sorts ∷ []
up_to (In Vars) = Vars ∷ Opns ∷ Cons ∷ Sorts ∷ []
up_to (In Rules) = Rules ∷ Vars ∷ Opns ∷ Cons ∷ Sorts ∷ []
up_to (In Eval) = Eval ∷ Rules ∷ Vars ∷ Opns ∷ Cons ∷ Sorts ∷ []

pub up_to_in : (s : Section) → up_to (In s) ≡ s ∷ up_to (before s)
up_to_in Sorts = refl
up_to_in Cons = refl
up_to_in Opns = refl
up_to_in Vars = refl
up_to_in Rules = refl
up_to_in Eval = refl

-- a level is no later than another
abbrev pub AtMost : Level → Level → Type 0
AtMost m l = (s : Section) → later l s ≡ true → later m s ≡ true

pub after_before : (s : Section) → later (before s) s ≡ true
after_before Sorts = refl
after_before Cons = refl
after_before Opns = refl
after_before Vars = refl
after_before Rules = refl
after_before Eval = refl

pub before_in : (s : Section) → AtMost (before s) (In s)
before_in Sorts s e = refl
before_in Cons Sorts e = absurd cc
before_in Cons s e = refl
before_in Opns Vars e = refl
before_in Opns Rules e = refl
before_in Opns Eval e = refl
before_in Opns s e = absurd cc
before_in Vars Rules e = refl
before_in Vars Eval e = refl
before_in Vars s e = absurd cc
before_in Rules Eval e = refl
before_in Rules s e = absurd cc
before_in Eval s e = absurd cc

-- the later sections have no items
abbrev pub Empties : Level → Spec → Type 0
Empties l y = (s : Section) → later l s ≡ true → Empty s y

pub one : (s : Section) (y : Spec) (ts l : List Token) → sections (up_to (before s)) y ts l → Empty s y → sections (up_to (In s)) y ts l
one s y ts l k e = rw up_to_in (l, k, left_out s y l e)

-- sections that are left out, up to a later one
pub raise : (s : Section) (l : Level) (y : Spec) (ts m : List Token) → later l s ≡ true → sections (up_to l) y ts m → Empties l y
    → sections (up_to (before s)) y ts m
raise Sorts Top y ts m h k e = k
raise Sorts (In Sorts) y ts m h k e = absurd cc
raise Cons Top y ts m h k e = one Sorts y ts m k (e Sorts refl)
raise Cons (In Sorts) y ts m h k e = k
raise Opns Top y ts m h k e = one Cons y ts m (one Sorts y ts m k (e Sorts refl)) (e Cons refl)
raise Opns (In Sorts) y ts m h k e = one Cons y ts m k (e Cons refl)
raise Opns (In Cons) y ts m h k e = k
raise Vars Top y ts m h k e = one Opns y ts m (one Cons y ts m (one Sorts y ts m k (e Sorts refl)) (e Cons refl)) (e Opns refl)
raise Vars (In Sorts) y ts m h k e = one Opns y ts m (one Cons y ts m k (e Cons refl)) (e Opns refl)
raise Vars (In Cons) y ts m h k e = one Opns y ts m k (e Opns refl)
raise Vars (In Opns) y ts m h k e = k
raise Rules Top y ts m h k e = one Vars y ts m (one Opns y ts m (one Cons y ts m (one Sorts y ts m k (e Sorts refl)) (e Cons refl)) (e Opns refl)) (e Vars refl)
raise Rules (In Sorts) y ts m h k e = one Vars y ts m (one Opns y ts m (one Cons y ts m k (e Cons refl)) (e Opns refl)) (e Vars refl)
raise Rules (In Cons) y ts m h k e = one Vars y ts m (one Opns y ts m k (e Opns refl)) (e Vars refl)
raise Rules (In Opns) y ts m h k e = one Vars y ts m k (e Vars refl)
raise Rules (In Vars) y ts m h k e = k
raise Eval Top y ts m h k e = one Rules y ts m (one Vars y ts m
    (one Opns y ts m (one Cons y ts m (one Sorts y ts m k (e Sorts refl)) (e Cons refl)) (e Opns refl)) (e Vars refl)) (e Rules refl)
raise Eval (In Sorts) y ts m h k e =
    one Rules y ts m (one Vars y ts m (one Opns y ts m (one Cons y ts m k (e Cons refl)) (e Opns refl)) (e Vars refl)) (e Rules refl)
raise Eval (In Cons) y ts m h k e = one Rules y ts m (one Vars y ts m (one Opns y ts m k (e Opns refl)) (e Vars refl)) (e Rules refl)
raise Eval (In Opns) y ts m h k e = one Rules y ts m (one Vars y ts m k (e Vars refl)) (e Rules refl)
raise Eval (In Vars) y ts m h k e = one Rules y ts m k (e Rules refl)
raise Eval (In Rules) y ts m h k e = k
raise s l y ts m h k e = absurd cc

pub later_later : (s : Section) (l : Level) → later l s ≡ true → AtMost l (In s)
later_later Sorts Top h x g = before_in Sorts x g
later_later Sorts (In Sorts) h x g = absurd cc
later_later Cons Top h x g = before_in Sorts x (before_in Cons x g)
later_later Cons (In Sorts) h x g = before_in Cons x g
later_later Opns Top h x g = before_in Sorts x (before_in Cons x (before_in Opns x g))
later_later Opns (In Sorts) h x g = before_in Cons x (before_in Opns x g)
later_later Opns (In Cons) h x g = before_in Opns x g
later_later Vars Top h x g = before_in Sorts x (before_in Cons x (before_in Opns x (before_in Vars x g)))
later_later Vars (In Sorts) h x g = before_in Cons x (before_in Opns x (before_in Vars x g))
later_later Vars (In Cons) h x g = before_in Opns x (before_in Vars x g)
later_later Vars (In Opns) h x g = before_in Vars x g
later_later Rules Top h x g = before_in Sorts x (before_in Cons x (before_in Opns x (before_in Vars x (before_in Rules x g))))
later_later Rules (In Sorts) h x g = before_in Cons x (before_in Opns x (before_in Vars x (before_in Rules x g)))
later_later Rules (In Cons) h x g = before_in Opns x (before_in Vars x (before_in Rules x g))
later_later Rules (In Opns) h x g = before_in Vars x (before_in Rules x g)
later_later Rules (In Vars) h x g = before_in Rules x g
later_later Eval Top h x g = before_in Sorts x (before_in Cons x (before_in Opns x (before_in Vars x (before_in Rules x (before_in Eval x g)))))
later_later Eval (In Sorts) h x g = before_in Cons x (before_in Opns x (before_in Vars x (before_in Rules x (before_in Eval x g))))
later_later Eval (In Cons) h x g = before_in Opns x (before_in Vars x (before_in Rules x (before_in Eval x g)))
later_later Eval (In Opns) h x g = before_in Vars x (before_in Rules x (before_in Eval x g))
later_later Eval (In Vars) h x g = before_in Rules x (before_in Eval x g)
later_later Eval (In Rules) h x g = before_in Eval x g
later_later s l h x g = absurd cc
