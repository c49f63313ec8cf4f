-- What is read of the sections is spelled so.
use Rattle.std.proofs.Common.{◌≡◌, true, List, [], ◌∷◌, ◌++◌, refl, sym, subst}
use Rattle.rec_syntax.specs.Tokens.{Word, Section, Sorts, Cons, Opns, Vars, Rules, Eval, Token, Head}
use Rattle.rec_syntax.specs.Syntax.{Term, Declaration, Variables, Rule, Spec}
use Rattle.rec_syntax.specs.Grammar.{Phrase, ◌then◌, token, word, each, term, declaration, variables, rule}
use Rattle.rec_syntax.specs.Inner.Machine.{Level, Top, In, later, with_rule}
use Rattle.rec_syntax.proofs.SectionLemmas.{items, no_items, head_items, sections}
use Rattle.rec_syntax.proofs.LevelLemmas.{before, up_to, up_to_in, Empties, one, raise, later_later}

-- the tokens up to the open section and its items so far
abbrev pub Sofar : Level → Spec → Phrase
Sofar Top y ts l = sections [] y ts l × Empties Top y
Sofar (In s) y ts l = (sections (up_to (before s)) y then token (Head s) then items s y) ts l × Empties (In s) y

keep_sorts : (y : Spec) (xs : List Word) → Empties (In Sorts) y → Empties (In Sorts) (record y { sorts = xs })
keep_sorts y xs e Sorts h = absurd cc
keep_sorts y xs e Cons h = e Cons h
keep_sorts y xs e Opns h = e Opns h
keep_sorts y xs e Vars h = e Vars h
keep_sorts y xs e Rules h = e Rules h
keep_sorts y xs e Eval h = e Eval h

keep_cons : (y : Spec) (xs : List Declaration) → Empties (In Cons) y → Empties (In Cons) (record y { constructors = xs })
keep_cons y xs e Opns h = e Opns h
keep_cons y xs e Vars h = e Vars h
keep_cons y xs e Rules h = e Rules h
keep_cons y xs e Eval h = e Eval h
keep_cons y xs e s h = absurd cc

keep_opns : (y : Spec) (xs : List Declaration) → Empties (In Opns) y → Empties (In Opns) (record y { operators = xs })
keep_opns y xs e Vars h = e Vars h
keep_opns y xs e Rules h = e Rules h
keep_opns y xs e Eval h = e Eval h
keep_opns y xs e s h = absurd cc

keep_vars : (y : Spec) (xs : List Variables) → Empties (In Vars) y → Empties (In Vars) (record y { variables = xs })
keep_vars y xs e Rules h = e Rules h
keep_vars y xs e Eval h = e Eval h
keep_vars y xs e s h = absurd cc

keep_rules : (y : Spec) (xs : List Rule) → Empties (In Rules) y → Empties (In Rules) (record y { rules = xs })
keep_rules y xs e Eval h = e Eval h
keep_rules y xs e s h = absurd cc

keep_evals : (y : Spec) (xs : List Term) → Empties (In Eval) y → Empties (In Eval) (record y { terms = xs })
keep_evals y xs e s h = absurd cc

pub sofar_spelled : (l : Level) (y : Spec) (ts m : List Token) → Sofar l y ts m → sections (up_to l) y ts m × Empties l y
sofar_spelled Top y ts m k = k
sofar_spelled (In s) y ts m ((a, up, (b, e, k)), h) = (rw up_to_in (a, up, head_items s y a b m e k), h)

pub head_taken : (l : Level) (s : Section) (y : Spec) (ts m : List Token) → later l s ≡ true → Sofar l y ts (Head s ∷ m) → Sofar (In s) y ts m
head_taken l s y ts m h k =
    let q = sofar_spelled l y ts (Head s ∷ m) k in
    ((Head s ∷ m, raise s l y ts (Head s ∷ m) h q.0 q.1, (m, refl, no_items s y m (q.1 s h))), λ x g. q.1 x (later_later s l h x g))

-- all sections are spelled
pub all_spelled : (l : Level) (y : Spec) (ts m : List Token) → sections (up_to l) y ts m → Empties l y → sections (up_to (In Eval)) y ts m
all_spelled (In Eval) y ts m k e = k
all_spelled Top y ts m k e = one Eval y ts m (raise Eval Top y ts m refl k e) (e Eval refl)
all_spelled (In Sorts) y ts m k e = one Eval y ts m (raise Eval (In Sorts) y ts m refl k e) (e Eval refl)
all_spelled (In Cons) y ts m k e = one Eval y ts m (raise Eval (In Cons) y ts m refl k e) (e Eval refl)
all_spelled (In Opns) y ts m k e = one Eval y ts m (raise Eval (In Opns) y ts m refl k e) (e Eval refl)
all_spelled (In Vars) y ts m k e = one Eval y ts m (raise Eval (In Vars) y ts m refl k e) (e Eval refl)
all_spelled (In Rules) y ts m k e = one Eval y ts m (raise Eval (In Rules) y ts m refl k e) (e Eval refl)

pub each-last : {X : Type 0} (P : X → Phrase) (xs : List X) (x : X) (ts m l : List Token) → each P xs ts m → P x m l → each P (xs ++ x ∷ []) ts l
each-last P [] x ts m l e k = (l, subst (λ us. P x us l) (sym e) k, refl)
each-last P (y ∷ ys) x ts m l (a, h, r) k = (a, h, each-last P ys x a m l r k)

-- one more item of a section

pub sort_read : (y : Spec) (w : Word) (ts m l : List Token) → Sofar (In Sorts) y ts m → word w m l
    → Sofar (In Sorts) (record y { sorts = y.sorts ++ w ∷ [] }) ts l
sort_read y w ts m l ((a, up, (b, e, k)), h) x = ((a, up, (b, e, each-last word y.sorts w b m l k x)), keep_sorts y (y.sorts ++ w ∷ []) h)

pub cons_read : (y : Spec) (d : Declaration) (ts m l : List Token) → Sofar (In Cons) y ts m → declaration d m l
    → Sofar (In Cons) (record y { constructors = y.constructors ++ d ∷ [] }) ts l
cons_read y d ts m l ((a, up, (b, e, k)), h) x = ((a, up, (b, e, each-last declaration y.constructors d b m l k x)), keep_cons y (y.constructors ++ d ∷ []) h)

pub opns_read : (y : Spec) (d : Declaration) (ts m l : List Token) → Sofar (In Opns) y ts m → declaration d m l
    → Sofar (In Opns) (record y { operators = y.operators ++ d ∷ [] }) ts l
opns_read y d ts m l ((a, up, (b, e, k)), h) x = ((a, up, (b, e, each-last declaration y.operators d b m l k x)), keep_opns y (y.operators ++ d ∷ []) h)

pub vars_read : (y : Spec) (v : Variables) (ts m l : List Token) → Sofar (In Vars) y ts m → variables v m l
    → Sofar (In Vars) (record y { variables = y.variables ++ v ∷ [] }) ts l
vars_read y v ts m l ((a, up, (b, e, k)), h) x = ((a, up, (b, e, each-last variables y.variables v b m l k x)), keep_vars y (y.variables ++ v ∷ []) h)

pub rule_read : (y : Spec) (r : Rule) (ts m l : List Token) → Sofar (In Rules) y ts m → rule r m l → Sofar (In Rules) (with_rule y r) ts l
rule_read y r ts m l ((a, up, (b, e, k)), h) x = ((a, up, (b, e, each-last rule y.rules r b m l k x)), keep_rules y (y.rules ++ r ∷ []) h)

pub eval_read : (y : Spec) (t : Term) (ts m l : List Token) → Sofar (In Eval) y ts m → term t m l
    → Sofar (In Eval) (record y { terms = y.terms ++ t ∷ [] }) ts l
eval_read y t ts m l ((a, up, (b, e, k)), h) x = ((a, up, (b, e, each-last term y.terms t b m l k x)), keep_evals y (y.terms ++ t ∷ []) h)
