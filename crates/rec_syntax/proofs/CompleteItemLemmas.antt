-- Declarations, variables, rules and terms of EVAL are taken, and read as they are spelled.
use Rattle.std.proofs.Common.{◌≡◌, Bool, true, false, List, [], ◌∷◌, ◌++◌, refl, ap, ◌∙◌, append_assoc}
use Rattle.std.proofs.lemmas.List.{append-nil}
use Rattle.rec_syntax.specs.Tokens.{Word, Sorts, Cons, Opns, Vars, Rules, Eval, Token, Plain, Head, EndSpec}
use Rattle.rec_syntax.specs.Syntax.{Term, Apply, Declaration, Variables, Condition, Rule, Spec}
use Rattle.rec_syntax.specs.Grammar.{each, word, term, declaration, variables, comparison, condition, conditions, rule}
use Rattle.rec_syntax.specs.Inner.Machine.{Left, Right, CondLeft, CondRight, InEval, In, Between, Args, Grouped, AtTerm, After, to, with_rule, run}
use Rattle.rec_syntax.proofs.LevelLemmas.{before}
use Rattle.rec_syntax.proofs.SoundTermLemmas.{further}
use Rattle.rec_syntax.proofs.CompleteTermLemmas.{takes, Follows}

pub words_taken : (ws : List Word) (y : Spec) (us l : List Token) → each word ws us l
    → run (to (Between (In Sorts)) y) us ≡ run (to (Between (In Sorts)) (record y { sorts = y.sorts ++ ws })) l
words_taken [] y us l e = rw (e, append-nil) refl
words_taken (w ∷ ws) y us l (a, e, k) = rw e (words_taken ws (record y { sorts = y.sorts ++ w ∷ [] }) a l k ∙ rw (append_assoc y.sorts (w ∷ []) ws) refl)

args_taken : (c : Bool) (w : Word) (vs ws : List Word) (y : Spec) (us l : List Token) → each word ws us l
    → run (to (Args c w vs) y) us ≡ run (to (Args c w (vs ++ ws)) y) l
args_taken c w vs [] y us l e = rw (e, append-nil) refl
args_taken c w vs (x ∷ ws) y us l (a, e, k) = rw e (args_taken c w (vs ++ x ∷ []) ws y a l k ∙ rw (append_assoc vs (x ∷ []) ws) refl)

group_taken : (w : Word) (vs ws : List Word) (y : Spec) (us l : List Token) → each word ws us l
    → run (to (Grouped w vs) y) us ≡ run (to (Grouped w (vs ++ ws)) y) l
group_taken w vs [] y us l e = rw (e, append-nil) refl
group_taken w vs (x ∷ ws) y us l (a, e, k) = rw e (group_taken w (vs ++ x ∷ []) ws y a l k ∙ rw (append_assoc vs (x ∷ []) ws) refl)

pub cons_taken : (ds : List Declaration) (y : Spec) (us l : List Token) → each declaration ds us l
    → run (to (Between (In Cons)) y) us ≡ run (to (Between (In Cons)) (record y { constructors = y.constructors ++ ds })) l
cons_taken [] y us l e = rw (e, append-nil) refl
cons_taken (d ∷ ds) y us l (a, (b, e, (c, f, (g, k, (h, i, j)))), r) =
    rw (e, f) (args_taken true d.name [] d.arguments y c g k ∙ rw (i, j)
    (cons_taken ds (record y { constructors = y.constructors ++ d ∷ [] }) a l r ∙ rw (append_assoc y.constructors (d ∷ []) ds) refl))

pub opns_taken : (ds : List Declaration) (y : Spec) (us l : List Token) → each declaration ds us l
    → run (to (Between (In Opns)) y) us ≡ run (to (Between (In Opns)) (record y { operators = y.operators ++ ds })) l
opns_taken [] y us l e = rw (e, append-nil) refl
opns_taken (d ∷ ds) y us l (a, (b, e, (c, f, (g, k, (h, i, j)))), r) =
    rw (e, f) (args_taken false d.name [] d.arguments y c g k ∙ rw (i, j)
    (opns_taken ds (record y { operators = y.operators ++ d ∷ [] }) a l r ∙ rw (append_assoc y.operators (d ∷ []) ds) refl))

pub vars_taken : (vs : List Variables) (y : Spec) (us l : List Token) → each variables vs us l
    → run (to (Between (In Vars)) y) us ≡ run (to (Between (In Vars)) (record y { variables = y.variables ++ vs })) l
vars_taken [] y us l e = rw (e, append-nil) refl
vars_taken (v ∷ vs) y us l (a, (b, e, (c, k, (d, f, g))), r) =
    rw e (group_taken v.first [] v.others y b c k ∙ rw (f, g) (vars_taken vs (record y { variables = y.variables ++ v ∷ [] }) a l r
    ∙ rw (append_assoc y.variables (v ∷ []) vs) refl))

-- what may be after a rule or a term of EVAL: a word, a section's word, or END-SPEC
abbrev pub Ends : List Token → Type 0
Ends (Plain w ∷ us) = Unit {0}
Ends (Head s ∷ us) = Unit {0}
Ends (EndSpec ∷ us) = Unit {0}
Ends us = ⊥

ends_follow : (us : List Token) → Ends us → Follows us
ends_follow (Plain w ∷ us) h = tt
ends_follow (Head s ∷ us) h = tt
ends_follow (EndSpec ∷ us) h = tt
ends_follow us h = absurd h

rule_complete : (x r : Term) (y : Spec) (us : List Token) → Ends us
    → run (to (After (Right x) r []) y) us ≡ run (to (Between (In Rules)) (with_rule y (record { left = x; right = r; conditions = [] }))) us
rule_complete x r y (Plain w ∷ us) h = refl
rule_complete x r y (Head s ∷ us) h = refl
rule_complete x r y (EndSpec ∷ us) h = refl
rule_complete x r y us h = absurd h

conditions_complete : (x r : Term) (cs : List Condition) (z : Term) (b : Bool) (t : Term) (y : Spec) (us : List Token) → Ends us
    → run (to (After (CondRight x r cs z b) t []) y) us ≡ run (to (Between (In Rules))
    (with_rule y (record { left = x; right = r; conditions = cs ++ record { left = z; right = t; equal = b } ∷ [] }))) us
conditions_complete x r cs z b t y (Plain w ∷ us) h = refl
conditions_complete x r cs z b t y (Head s ∷ us) h = refl
conditions_complete x r cs z b t y (EndSpec ∷ us) h = refl
conditions_complete x r cs z b t y us h = absurd h

eval_complete : (t : Term) (y : Spec) (us : List Token) → Ends us
    → run (to (After InEval t []) y) us ≡ run (to (Between (In Eval)) (record y { terms = y.terms ++ t ∷ [] })) us
eval_complete t y (Plain w ∷ us) h = refl
eval_complete t y (Head s ∷ us) h = refl
eval_complete t y (EndSpec ∷ us) h = refl
eval_complete t y us h = absurd h

mark_step : (x r : Term) (cs : List Condition) (z : Term) (b : Bool) (y : Spec) (us : List Token)
    → run (to (After (CondLeft x r cs) z []) y) (comparison b ∷ us) ≡ run (to (AtTerm (CondRight x r cs z b) []) y) us
mark_step x r cs z true y us = refl
mark_step x r cs z false y us = refl

mark_follows : (b : Bool) (us : List Token) → Follows (comparison b ∷ us)
mark_follows true us = tt
mark_follows false us = tt

condition_taken : (c : Condition) (x r : Term) (cs : List Condition) (y : Spec) (us l : List Token) → condition c us l → Follows l
    → run (to (AtTerm (CondLeft x r cs) []) y) us ≡ run (to (After (CondRight x r cs c.left c.equal) c.right []) y) l
condition_taken c x r cs y us l (m, s, (n, e, t)) h =
    takes c.left (CondLeft x r cs) [] y us m s (rw e (mark_follows c.equal n))
    ∙ ap (run (to (After (CondLeft x r cs) c.left []) y)) e
    ∙ mark_step x r cs c.left c.equal y n
    ∙ takes c.right (CondRight x r cs c.left c.equal) [] y n l t h

more_follow : (cs : List Condition) (us l : List Token) → each further cs us l → Ends l → Follows us
more_follow [] us l e h = rw e (ends_follow l h)
more_follow (c ∷ cs) us l (a, (b, e, k), r) h = rw e tt

conditions_follow : (cs : List Condition) (us l : List Token) → conditions cs us l → Ends l → Follows us
conditions_follow [] us l e h = rw e (ends_follow l h)
conditions_follow (c ∷ cs) us l (a, e, k) h = rw e tt

more_taken : (cs before : List Condition) (x r z : Term) (b : Bool) (t : Term) (y : Spec) (us l : List Token) → each further cs us l → Ends l
    → run (to (After (CondRight x r before z b) t []) y) us ≡ run
    (to (Between (In Rules)) (with_rule y (record { left = x; right = r; conditions = before ++ record { left = z; right = t; equal = b } ∷ cs }))) l
more_taken [] before x r z b t y us l e h = rw e (conditions_complete x r before z b t y l h)
more_taken (c ∷ cs) before x r z b t y us l (a, (d, e, k), q) h =
    let done : Condition = record { left = z; right = t; equal = b } in
    rw (e, ← append_assoc before (done ∷ []) (c ∷ cs))
    (condition_taken c x r (before ++ done ∷ []) y d a k (more_follow cs a l q h)
    ∙ more_taken cs (before ++ done ∷ []) x r c.left c.equal c.right y a l q h)

right_taken : (cs : List Condition) (x r : Term) (y : Spec) (us l : List Token) → conditions cs us l → Ends l
    → run (to (After (Right x) r []) y) us ≡ run (to (Between (In Rules)) (with_rule y (record { left = x; right = r; conditions = cs }))) l
right_taken [] x r y us l e h = rw e (rule_complete x r y l h)
right_taken (c ∷ cs) x r y us l (a, e, (b, k, q)) h =
    rw e
    (condition_taken c x r [] y a b k (more_follow cs b l q h)
    ∙ more_taken cs [] x r c.left c.equal c.right y b l q h)

first_left : (t : Term) (y : Spec) (us l : List Token) → term t us l → run (to (Between (In Rules)) y) us ≡ run (to (AtTerm Left []) y) us
first_left (Apply v args) y us l (a, e, k) = rw e refl

first_eval : (t : Term) (y : Spec) (us l : List Token) → term t us l → run (to (Between (In Eval)) y) us ≡ run (to (AtTerm InEval []) y) us
first_eval (Apply v args) y us l (a, e, k) = rw e refl

term_ends : (t : Term) (us l : List Token) → term t us l → Ends us
term_ends (Apply v args) us l (a, e, k) = rw e tt

rule_taken : (r : Rule) (y : Spec) (us l : List Token) → rule r us l → Ends l
    → run (to (Between (In Rules)) y) us ≡ run (to (Between (In Rules)) (with_rule y r)) l
rule_taken r y us l (a, s, (b, e, (c, t, k))) h =
    first_left r.left y us a s
    ∙ takes r.left Left [] y us a s (rw e tt)
    ∙ ap (run (to (After Left r.left []) y)) e
    ∙ takes r.right (Right r.left) [] y b c t (conditions_follow r.conditions c l k h)
    ∙ right_taken r.conditions r.left r.right y c l k h

rules_end : (rs : List Rule) (us l : List Token) → each rule rs us l → Ends l → Ends us
rules_end [] us l e h = rw e h
rules_end (r ∷ rs) us l (a, (b, s, k), q) h = term_ends r.left us b s

pub rules_taken : (rs : List Rule) (y : Spec) (us l : List Token) → each rule rs us l → Ends l
    → run (to (Between (In Rules)) y) us ≡ run (to (Between (In Rules)) (record y { rules = y.rules ++ rs })) l
rules_taken [] y us l e h = rw (e, append-nil) refl
rules_taken (r ∷ rs) y us l (a, k, q) h =
    rw (← append_assoc y.rules (r ∷ []) rs)
    (rule_taken r y us a k (rules_end rs a l q h) ∙ rules_taken rs (with_rule y r) a l q h)

evals_end : (ts : List Term) (us l : List Token) → each term ts us l → Ends l → Ends us
evals_end [] us l e h = rw e h
evals_end (t ∷ ts) us l (a, k, q) h = term_ends t us a k

pub evals_taken : (ts : List Term) (y : Spec) (us l : List Token) → each term ts us l → Ends l
    → run (to (Between (In Eval)) y) us ≡ run (to (Between (In Eval)) (record y { terms = y.terms ++ ts })) l
evals_taken [] y us l e h = rw (e, append-nil) refl
evals_taken (t ∷ ts) y us l (a, k, q) h =
    rw (← append_assoc y.terms (t ∷ []) ts)
    (first_eval t y us a k
    ∙ takes t InEval [] y us a k (ends_follow a (evals_end ts a l q h))
    ∙ eval_complete t y a (evals_end ts a l q h)
    ∙ evals_taken ts (record y { terms = y.terms ++ t ∷ [] }) a l q h)
