-- What the machine has taken is spelled so.
use Rattle.std.proofs.Common.{◌≡◌, Bool, true, false, List, [], ◌∷◌, ◌++◌, Option, Some, None, refl, sym, subst, inl, inr}
use Rattle.rec_syntax.specs.Tokens.{Word, Section, Sorts, Cons, Opns, Vars, Rules, Eval, Token, Plain, RecSpec, Head}
use Rattle.rec_syntax.specs.Tokens.{EndSpec, If, AndIf, Colon, Open, Close, Comma, Arrow, Equal, Unequal, End}
use Rattle.rec_syntax.specs.Syntax.{Term, Apply, none, Declaration, Condition, Rule, Spec}
use Rattle.rec_syntax.specs.Grammar.{Phrase, ◌then◌, token, word, each, term, declaration, specification}
use Rattle.rec_syntax.specs.Inner.Machine.{Frame, Role, Left, Right, CondLeft, CondRight, InEval, Level, Top, In, Due, Start, Title, Between}
use Rattle.rec_syntax.specs.Inner.Machine.{Named, Args, Result, Grouped, GroupSort, AtTerm, Called, First, After, Ended, Done, State, to}
use Rattle.rec_syntax.specs.Inner.Machine.{later, when, item, between, with_rule, declared, complete, after, step, then_step, run, start}
use Rattle.rec_syntax.proofs.SectionLemmas.{sections}
use Rattle.rec_syntax.proofs.LevelLemmas.{up_to, Empties}
use Rattle.rec_syntax.proofs.SoundSectionLemmas.{Sofar, sofar_spelled, head_taken, all_spelled, each-last}
use Rattle.rec_syntax.proofs.SoundSectionLemmas.{sort_read, cons_read, opns_read, vars_read, rule_read, eval_read}
use Rattle.rec_syntax.proofs.SoundTermLemmas.{opening, listed-snoc, closed_term, keyed-last, keyed-more, before_term}

-- CONS where the flag is set, otherwise OPNS
abbrev section_of : Bool → Section
section_of true = Cons
section_of false = Opns

-- the tokens that lead to a state
abbrev pub Taken : Due → Spec → Phrase
Taken Start y ts l = (ts ≡ l) × Empties Top y
Taken Title y ts l = (ts ≡ RecSpec ∷ l) × Empties Top y
Taken (Between v) y ts l = Sofar v y ts l
Taken (Named c w) y ts l = (Sofar (In (section_of c)) y then word w) ts l
Taken (Args c w ws) y ts l = (Sofar (In (section_of c)) y then word w then token Colon then each word ws) ts l
Taken (Result c w ws) y ts l = (Sofar (In (section_of c)) y then word w then token Colon then each word ws then token Arrow) ts l
Taken (Grouped w ws) y ts l = (Sofar (In Vars) y then word w then each word ws) ts l
Taken (GroupSort w ws) y ts l = (Sofar (In Vars) y then word w then each word ws then token Colon) ts l
Taken (AtTerm p fs) y ts l = (before_term p y then opening fs) ts l
Taken (Called p w fs) y ts l = (before_term p y then opening fs then word w) ts l
Taken (First p w fs) y ts l = (before_term p y then opening fs then word w then token Open) ts l
Taken (After p t fs) y ts l = (before_term p y then opening fs then term t) ts l
Taken Ended y ts l = (sections (up_to (In Eval)) y then token EndSpec) ts l
Taken Done y ts l = specification y ts l

-- the tokens that lead to a state, if there is one
abbrev IfTaken : Option State → Phrase
IfTaken None ts l = Unit {0}
IfTaken (Some c) ts l = Taken c.due c.read ts l

item_taken : (v : Level) (y : Spec) (w : Word) (ts l : List Token) → Sofar v y ts (Plain w ∷ l) → IfTaken (item v y w) ts l
item_taken Top y w ts l k = tt
item_taken (In Sorts) y w ts l k = sort_read y w ts (Plain w ∷ l) l k refl
item_taken (In Cons) y w ts l k = (Plain w ∷ l, k, refl)
item_taken (In Opns) y w ts l k = (Plain w ∷ l, k, refl)
item_taken (In Vars) y w ts l k = (Plain w ∷ l, k, (l, refl, refl))
item_taken (In Rules) y w ts l k = (Plain w ∷ l, k, (Plain w ∷ l, refl, refl))
item_taken (In Eval) y w ts l k = (Plain w ∷ l, k, (Plain w ∷ l, refl, refl))

when_taken : (b : Bool) (v : Level) (s : Section) (y : Spec) (ts l : List Token) → later v s ≡ b → Sofar v y ts (Head s ∷ l)
    → IfTaken (when b (to (Between (In s)) y)) ts l
when_taken true v s y ts l h k = head_taken v s y ts l h k
when_taken false v s y ts l h k = tt

between_taken : (v : Level) (y : Spec) (u : Token) (ts l : List Token) → Sofar v y ts (u ∷ l) → IfTaken (between v y u) ts l
between_taken v y (Plain w) ts l k = item_taken v y w ts l k
between_taken v y (Head s) ts l k = when_taken (later v s) v s y ts l refl k
between_taken v y EndSpec ts l k = let q = sofar_spelled v y ts (EndSpec ∷ l) k in (EndSpec ∷ l, all_spelled v y ts (EndSpec ∷ l) q.0 q.1, refl)
between_taken v y u ts l k = tt

declared_taken : (c : Bool) (d : Declaration) (y : Spec) (ts m l : List Token) → Sofar (In (section_of c)) y ts m → declaration d m l
    → IfTaken (declared c d y) ts l
declared_taken true d y ts m l k s = cons_read y d ts m l k s
declared_taken false d y ts m l k s = opns_read y d ts m l k s

complete_taken : (p : Role) (t : Term) (y : Spec) (u : Token) (ts m l : List Token) → before_term p y ts m → term t m (u ∷ l) → IfTaken (complete p t y u) ts l
complete_taken Left t y Arrow ts m l k s = (l, (m, k, (Arrow ∷ l, s, refl)), refl)
complete_taken Left t y u ts m l k s = tt
complete_taken (Right x) t y If ts m l (a, k, (b, h, e)) s = (l, (a, k, (b, h, (m, e, (If ∷ l, s, refl)))), refl)
complete_taken (Right x) t y u ts m l (a, k, (b, h, e)) s =
    let r : Rule = record { left = x; right = t; conditions = [] } in
    between_taken (In Rules) (with_rule y r) u ts l (rule_read y r ts a (u ∷ l) k (b, h, (m, e, (u ∷ l, s, refl))))
complete_taken (CondLeft x r cs) t y Equal ts m l k s = (l, (m, k, (Equal ∷ l, s, refl)), refl)
complete_taken (CondLeft x r cs) t y Unequal ts m l k s = (l, (m, k, (Unequal ∷ l, s, refl)), refl)
complete_taken (CondLeft x r cs) t y u ts m l k s = tt
complete_taken (CondRight x r cs z b) t y AndIf ts m l (j, (a, k, (n, h, (o, e, (q, g, i)))), (f, d, c)) s =
    (l, (a, k, (n, h, (o, e, (q, g, keyed-more If cs (record { left = z; right = t; equal = b }) q j l i (f, d, (m, c, s)))))), refl)
complete_taken (CondRight x r cs z b) t y u ts m l (j, (a, k, (n, h, (o, e, (q, g, i)))), (f, d, c)) s =
    let last : Condition = record { left = z; right = t; equal = b } in
    let whole : Rule = record { left = x; right = r; conditions = cs ++ last ∷ [] } in
    between_taken (In Rules) (with_rule y whole) u ts l (rule_read y whole ts a (u ∷ l) k (
      n,
      h,
      (o, e, (q, g, keyed-last cs last q j (u ∷ l) i (f, d, (m, c, s)))),
    ))
complete_taken InEval t y u ts m l k s = between_taken (In Eval) (record y { terms = y.terms ++ t ∷ [] }) u ts l (eval_read y t ts m (u ∷ l) k s)

after_taken : (p : Role) (t : Term) (fs : List Frame) (y : Spec) (u : Token) (ts l : List Token) → Taken (After p t fs) y ts (u ∷ l)
    → IfTaken (after p t fs y u) ts l
after_taken p t [] y u ts l (a, k, (b, e, s)) = complete_taken p t y u ts a l k (subst (λ us. term t us (u ∷ l)) (sym e) s)
after_taken p t (f ∷ fs) y Comma ts l (a, k, (b, (c, h, (d, e, (g, i, r))), s)) = (a, k, (c, h, (d, e, (g, i, listed-snoc f.arguments t g b l r s))))
after_taken p t (f ∷ fs) y Close ts l (a, k, (b, (c, h, (d, e, (g, i, r))), s)) = (a, k, (c, h, closed_term f.word f.arguments t c g b l (rw i at e) r s))
after_taken p t (f ∷ fs) y u ts l k = tt

plain_taken : (p : Role) (w : Word) (fs : List Frame) (y : Spec) (ts l : List Token) → Taken (Called p w fs) y ts l → Taken (After p (Apply w none) fs) y ts l
plain_taken p w fs y ts l (a, k, (b, h, e)) = (a, k, (b, h, (l, e, inl refl)))

title_empties : (y : Spec) (w : Word) → Empties Top y → Empties Top (record y { name = w })
title_empties y w e Sorts h = e Sorts h
title_empties y w e Cons h = e Cons h
title_empties y w e Opns h = e Opns h
title_empties y w e Vars h = e Vars h
title_empties y w e Rules h = e Rules h
title_empties y w e Eval h = e Eval h

-- all sections one after another are a specification
whole_text : (y : Spec) (ts m l : List Token) → sections (up_to (In Eval)) y ts m → m ≡ EndSpec ∷ End ∷ l → specification y ts l
whole_text y ts m l (a, (b, (c, (d, (e, (f, (g, h, i), j), k), n), o), p), q) z =
    (g, h, (f, i, (e, j, (d, k, (c, n, (b, o, (a, p, (m, q, (End ∷ l, z, refl)))))))))

step_taken : (d : Due) (y : Spec) (u : Token) (ts l : List Token) → Taken d y ts (u ∷ l) → IfTaken (step d y u) ts l
step_taken Start y RecSpec ts l k = k
step_taken Title y (Plain w) ts l k = ((Plain w ∷ l, k.0, refl), title_empties y w k.1)
step_taken (Between v) y u ts l k = between_taken v y u ts l k
step_taken (Named c w) y Colon ts l (a, k, e) = (a, k, (Colon ∷ l, e, (l, refl, refl)))
step_taken (Args c w ws) y (Plain v) ts l (a, k, (b, e, (m, f, r))) = (a, k, (b, e, (m, f, each-last word ws v m (Plain v ∷ l) l r refl)))
step_taken (Args c w ws) y Arrow ts l (a, k, (b, e, (m, f, r))) = (a, k, (b, e, (m, f, (Arrow ∷ l, r, refl))))
step_taken (Result c w ws) y (Plain v) ts l (a, k, (b, e, (m, f, (n, r, g)))) =
    declared_taken c (record { name = w; arguments = ws; sort = v }) y ts a l k (b, e, (m, f, (n, r, (Plain v ∷ l, g, refl))))
step_taken (Grouped w ws) y (Plain v) ts l (a, k, (b, e, r)) = (a, k, (b, e, each-last word ws v b (Plain v ∷ l) l r refl))
step_taken (Grouped w ws) y Colon ts l (a, k, (b, e, r)) = (a, k, (b, e, (Colon ∷ l, r, refl)))
step_taken (GroupSort w ws) y (Plain v) ts l (a, k, (b, e, (m, r, f))) =
    vars_read y (record { first = w; others = ws; sort = v }) ts a l k (b, e, (m, r, (Plain v ∷ l, f, refl)))
step_taken (AtTerm p fs) y (Plain w) ts l (a, k, h) = (a, k, (Plain w ∷ l, h, refl))
step_taken (First p x fs) y (Plain w) ts l (a, k, (b, h, (m, e, f))) = (a, k, (Plain w ∷ l, (b, h, (m, e, (Plain w ∷ l, f, refl))), refl))
step_taken (First p x fs) y Close ts l (a, k, (b, h, (m, e, f))) = (a, k, (b, h, (m, e, inr (Close ∷ l, f, refl))))
step_taken (Called p x fs) y Open ts l (a, k, (b, h, e)) = (a, k, (b, h, (Open ∷ l, e, refl)))
step_taken (Called p x fs) y u ts l k = after_taken p (Apply x none) fs y u ts l (plain_taken p x fs y ts (u ∷ l) k)
step_taken (After p t fs) y u ts l k = after_taken p t fs y u ts l k
step_taken Ended y End ts l (a, k, e) = whole_text y ts a l k e
step_taken d y u ts l k = tt

then_taken : (o : Option State) (u : Token) (ts l : List Token) → IfTaken o ts (u ∷ l) → IfTaken (then_step o u) ts l
then_taken None u ts l k = tt
then_taken (Some c) u ts l k = step_taken c.due c.read u ts l k

run_taken : (o : Option State) (ts us : List Token) → IfTaken o ts us → IfTaken (run o us) ts []
run_taken o ts [] k = k
run_taken o ts (u ∷ us) k = run_taken (then_step o u) ts us (then_taken o u ts us k)

start_empties : Empties Top start.read
start_empties Sorts h = refl
start_empties Cons h = refl
start_empties Opns h = refl
start_empties Vars h = refl
start_empties Rules h = refl
start_empties Eval h = refl

-- what the machine has read is a text
pub read_is_text : (us : List Token) (y : Spec) → run (Some start) us ≡ to Done y → specification y us []
read_is_text us y e = rw e at (run_taken (Some start) us us (refl, start_empties))
