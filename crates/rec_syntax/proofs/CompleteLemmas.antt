-- What is spelled is taken, and read as it is spelled.
use Rattle.std.proofs.Common.{◌≡◌, Bool, true, List, [], ◌∷◌, Some, refl, sym, ap, ◌∙◌, inl, inr}
use Rattle.rec_syntax.specs.Tokens.{Section, Sorts, Cons, Opns, Vars, Rules, Eval, Token, EndSpec, End}
use Rattle.rec_syntax.specs.Syntax.{Term, Spec}
use Rattle.rec_syntax.specs.Grammar.{specification}
use Rattle.rec_syntax.specs.Inner.Machine.{Level, Top, In, Between, Done, to, later, when, run, start}
use Rattle.rec_syntax.proofs.SectionLemmas.{items, Empty, Stands, stands}
use Rattle.rec_syntax.proofs.LevelLemmas.{before, AtMost, after_before, before_in}
use Rattle.rec_syntax.proofs.CompleteItemLemmas.{words_taken, cons_taken, opns_taken, vars_taken, Ends, rules_taken, evals_taken}

-- a specification up to a section, the later ones empty
abbrev cut : Level → Spec → Spec
cut Top y = record { name = y.name; sorts = []; constructors = []; operators = []; variables = []; rules = []; terms = [] }
cut (In Sorts) y = record { name = y.name; sorts = y.sorts; constructors = []; operators = []; variables = []; rules = []; terms = [] }
cut (In Cons) y = record { name = y.name; sorts = y.sorts; constructors = y.constructors; operators = []; variables = []; rules = []; terms = [] }
cut (In Opns) y = record { name = y.name; sorts = y.sorts; constructors = y.constructors; operators = y.operators; variables = []; rules = []; terms = [] }
cut (In Vars) y = record {
  name = y.name;
  sorts = y.sorts;
  constructors = y.constructors;
  operators = y.operators;
  variables = y.variables;
  rules =
      [];
  terms = [];
}
cut (In Rules) y = record {
  name = y.name;
  sorts = y.sorts;
  constructors = y.constructors;
  operators = y.operators;
  variables = y.variables;
  rules =
      y.rules;
  terms = [];
}
cut (In Eval) y = y

items_taken : (s : Section) (y : Spec) (us l : List Token) → items s y us l → Ends l
    → run (to (Between (In s)) (cut (before s) y)) us ≡ run (to (Between (In s)) (cut (In s) y)) l
items_taken Sorts y us l k h = words_taken y.sorts (cut Top y) us l k
items_taken Cons y us l k h = cons_taken y.constructors (cut (In Sorts) y) us l k
items_taken Opns y us l k h = opns_taken y.operators (cut (In Cons) y) us l k
items_taken Vars y us l k h = vars_taken y.variables (cut (In Opns) y) us l k
items_taken Rules y us l k h = rules_taken y.rules (cut (In Vars) y) us l k h
items_taken Eval y us l k h = evals_taken y.terms (cut (In Rules) y) us l k h

cut_empty : (s : Section) (y : Spec) → Empty s y → cut (before s) y ≡ cut (In s) y
cut_empty Sorts y e = rw e refl
cut_empty Cons y e = rw e refl
cut_empty Opns y e = rw e refl
cut_empty Vars y e = rw e refl
cut_empty Rules y e = rw e refl
cut_empty Eval y e = ap (λ (ts : List Term). record y { terms = ts }) (sym e)

section_ends : (s : Section) (y : Spec) (us l : List Token) → Stands s y us l → Ends l → Ends us
section_ends s y us l (inl k) h = rw (k.0) h
section_ends s y us l (inr k) h = rw (k.1) tt

-- from the start, what is read up to a level leaves these tokens
abbrev Reaches : List Token → Level → Spec → List Token → Type 0
Reaches ts v y us = (m : Level) × AtMost m v × (run (Some start) ts ≡ run (to (Between m) (cut v y)) us)

section_reached : (s : Section) (y : Spec) (ts us l : List Token) → Stands s y us l → Ends l → Reaches ts (before s) y us → Reaches ts (In s) y l
section_reached s y ts us l (inl k) h (m, le, e) = (m, λ x g. le x (before_in s x g), e ∙ rw (k.0, cut_empty s y k.1) refl)
section_reached s y ts us l (inr (n, f, k)) h (m, le, e) =
    let opens : later m s ≡ true = le s (after_before s) in
    let head : run (to (Between m) (cut (before s) y)) us ≡ run (to (Between (In s)) (cut (before s) y)) n =
    rw f (ap (λ (b : Bool). run (when b (to (Between (In s)) (cut (before s) y))) n) opens) in
    (In s, λ x g. g, e ∙ head ∙ items_taken s y n l k h)

ended : (ts us l : List Token) (y : Spec) → Reaches ts (In Eval) y us → us ≡ EndSpec ∷ l → l ≡ End ∷ [] → run (Some start) ts ≡ to Done y
ended ts us l y (m, le, e) f g = e ∙ rw (f, g) refl

-- what spells a specification is read as that specification
pub text_taken : (us : List Token) (y : Spec) → specification y us [] → run (Some start) us ≡ to Done y
text_taken us y (a, e, (b, f, (c, k1, (d, k2, (g, k3, (h, k4, (i, k5, (j, k6, (l, m, n))))))))) =
    let sorts = stands Sorts y b c k1 in
    let cons = stands Cons y c d k2 in
    let opns = stands Opns y d g k3 in
    let vars = stands Vars y g h k4 in
    let rules = stands Rules y h i k5 in
    let evals = stands Eval y i j k6 in
    let behind_evals : Ends j = rw m tt in
    let behind_rules : Ends i = section_ends Eval y i j evals behind_evals in
    let behind_vars : Ends h = section_ends Rules y h i rules behind_rules in
    let behind_opns : Ends g = section_ends Vars y g h vars behind_vars in
    let behind_cons : Ends d = section_ends Opns y d g opns behind_opns in
    let behind_sorts : Ends c = section_ends Cons y c d cons behind_cons in
    let titled : Reaches us Top y b = (Top, λ x g. g, rw (e, f) refl) in
    ended us j l y
    (section_reached Eval y us i j evals behind_evals
    (section_reached Rules y us h i rules behind_rules
    (section_reached Vars y us g h vars behind_vars
    (section_reached Opns y us d g opns behind_opns
    (section_reached Cons y us c d cons behind_cons
    (section_reached Sorts y us b c sorts behind_sorts titled))))))
    m n
