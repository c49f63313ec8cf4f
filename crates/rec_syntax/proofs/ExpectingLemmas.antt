-- What may be at the place of a fault is what the machine takes there.
use Rattle.std.proofs.Common.{◌≡◌, ◌↔◌, ℕ, Bool, true, false, List, [], ◌∷◌, ◌++◌, Option, Some, None, is_some, refl, sym}
use Rattle.std.proofs.Common.{ap, subst, ◌∙◌, append_assoc, drop, length, reverse, arith, Contains, not, ◌⊎◌, inl, inr}
use Rattle.std.proofs.lemmas.List.{append-nil, length-reverse}
use Rattle.std.specs.List.{filter}
use Rattle.std.proofs.lemmas.Bool.{eqb-false, not-true}
use Rattle.std.proofs.lemmas.List.Elements.{All-contains, Contains-append_cases, filter_passes}
use Rattle.std.proofs.lemmas.List.Sorted.{Contains-permutation, IsPermutation-filter_both}
use Rattle.std.specs.Prelude.{◌==◌}
use Rattle.rec_syntax.specs.Tokens as tokens
use Rattle.rec_syntax.specs.Tokens.{Word, Token, Placed, placed_tokens, bare}
use Rattle.rec_syntax.specs.Syntax.{Term, Apply, none, Condition, Spec}
use Rattle.rec_syntax.specs.Place.{CanGoOn, IsFaultPlace}
use Rattle.rec_syntax.specs.Inner.Machine.{Frame, Role, Left, Right, CondLeft, CondRight, InEval, Level, Top}
use Rattle.rec_syntax.specs.Inner.Machine.{In, Due, Start, Title, Between, Named, Args, Result, Grouped}
use Rattle.rec_syntax.specs.Inner.Machine.{GroupSort, AtTerm, Called, First, After, Ended, Done, State, to}
use Rattle.rec_syntax.specs.Inner.Machine.{item, between, with_rule, complete, after, step, run, start}
use Rattle.rec_syntax.specs.Nodes.{newest}
use Rattle.rec_syntax.specs.Lexemes.{word_of}
use Rattle.rec_syntax.specs.Inner.Reader.{frames_of}
use Rattle.rec_syntax.specs.declared.reader.Call.{Call}
use Rattle.rec_syntax.specs.declared.lexer.Part.TheVariants.{Sorts, Cons, Opns, Vars, Rules, Eval}
use Rattle.rec_syntax.specs.Expected.{IsOf, MayStand, sample, is_taken}
use Rattle.rec_syntax.specs.declared.token_kind.TokenKind.{TokenKind}
use Rattle.rec_syntax.specs.declared.token_kind.TokenKind.TheVariants.{PlainWord, RecSpec, Section, EndSpec, If, AndIf, Colon}
use Rattle.rec_syntax.specs.declared.token_kind.TokenKind.TheVariants.{Open, Close, Comma, Arrow, Equal, Unequal, End}
use Rattle.rec_syntax.proofs.AnsweringLemmas.{placed}
use Rattle.rec_syntax.proofs.DecidingLemmas.{Over, step_over}
use Rattle.rec_syntax.proofs.PlaceLemmas.{bare-append, same_before, not_both}
use Rattle.rec_syntax.proofs.SoundLemmas.{read_is_text}
use Rattle.rec_syntax.proofs.VerdictLemmas.{run-append, taken_begins, refused_begins_none}

-- one plain word is taken where another one is
abbrev Alike : (Token → Option State) → Type 0
Alike f = (v w : Word) → is_some (f (tokens.Plain v)) ≡ is_some (f (tokens.Plain w))

alike_item : (l : Level) (y : Spec) (v w : Word) → is_some (item l y v) ≡ is_some (item l y w)
alike_item Top y v w = refl
alike_item (In tokens.Sorts) y v w = refl
alike_item (In tokens.Cons) y v w = refl
alike_item (In tokens.Opns) y v w = refl
alike_item (In tokens.Vars) y v w = refl
alike_item (In tokens.Rules) y v w = refl
alike_item (In tokens.Eval) y v w = refl

alike_complete : (p : Role) (t : Term) (y : Spec) → Alike (complete p t y)
alike_complete Left t y v w = refl
alike_complete (Right l) t y v w = refl
alike_complete (CondLeft l r cs) t y v w = refl
alike_complete (CondRight l r cs x e) t y v w = refl
alike_complete InEval t y v w = refl

alike_after : (p : Role) (t : Term) (fs : List Frame) (y : Spec) → Alike (after p t fs y)
alike_after p t [] y v w = alike_complete p t y v w
alike_after p t (f ∷ fs) y v w = refl

alike : (d : Due) (y : Spec) → Alike (step d y)
alike Start y v w = refl
alike Title y v w = refl
alike (Between l) y v w = alike_item l y v w
alike (Named c x) y v w = refl
alike (Args c x ws) y v w = refl
alike (Result true x ws) y v w = refl
alike (Result false x ws) y v w = refl
alike (Grouped x ws) y v w = refl
alike (GroupSort x ws) y v w = refl
alike (AtTerm p fs) y v w = refl
alike (Called p x fs) y v w = alike_after p (Apply x none) fs y v w
alike (First p x fs) y v w = refl
alike (After p t fs) y v w = alike_after p t fs y v w
alike Ended y v w = refl
alike Done y v w = refl

-- whether a token is taken is decided by its kind
pub by_kind : (d : Due) (y : Spec) (k : TokenKind) (t : Token) → IsOf k t → is_some (step d y t) ≡ is_taken (step d y) k
by_kind d y PlainWord t (w, e) = ap (λ (u : Token). is_some (step d y u)) e ∙ alike d y w (record { at = 0; bytes = [] })
by_kind d y RecSpec t e = ap (λ (u : Token). is_some (step d y u)) e
by_kind d y (Section p) t e = ap (λ (u : Token). is_some (step d y u)) e
by_kind d y EndSpec t e = ap (λ (u : Token). is_some (step d y u)) e
by_kind d y If t e = ap (λ (u : Token). is_some (step d y u)) e
by_kind d y AndIf t e = ap (λ (u : Token). is_some (step d y u)) e
by_kind d y Colon t e = ap (λ (u : Token). is_some (step d y u)) e
by_kind d y Open t e = ap (λ (u : Token). is_some (step d y u)) e
by_kind d y Close t e = ap (λ (u : Token). is_some (step d y u)) e
by_kind d y Comma t e = ap (λ (u : Token). is_some (step d y u)) e
by_kind d y Arrow t e = ap (λ (u : Token). is_some (step d y u)) e
by_kind d y Equal t e = ap (λ (u : Token). is_some (step d y u)) e
by_kind d y Unequal t e = ap (λ (u : Token). is_some (step d y u)) e
by_kind d y End t e = ap (λ (u : Token). is_some (step d y u)) e

-- after a right-hand side, and after a condition's right term, a rule may end
pub rule_ends : (l r : Term) (y : Spec) (k : TokenKind) → (k ≡ If → ⊥)
    → is_taken (complete (Right l) r y) k ≡ is_taken (between (In tokens.Rules) (with_rule y (record { left = l; right = r; conditions = [] }))) k
rule_ends l r y If h = absurd (h refl)
rule_ends l r y k h = refl

pub conditions_end : (l r : Term) (cs : List Condition) (x : Term) (e : Bool) (t : Term) (y : Spec) (k : TokenKind) → (k ≡ AndIf → ⊥)
    → is_taken (complete (CondRight l r cs x e) t y) k ≡ is_taken
    (between (In tokens.Rules) (with_rule y (record { left = l; right = r; conditions = cs ++ record { left = x; right = t; equal = e } ∷ [] }))) k
conditions_end l r cs x e t y AndIf h = absurd (h refl)
conditions_end l r cs x e t y k h = refl

-- after a whole argument
abbrev goes_on : TokenKind → Bool
goes_on Comma = true
goes_on Close = true
goes_on k = false

argument_ends : (p : Role) (t : Term) (f : Frame) (fs : List Frame) (y : Spec) (k : TokenKind) → is_taken (after p t (f ∷ fs) y) k ≡ goes_on k
argument_ends p t f fs y Comma = refl
argument_ends p t f fs y Close = refl
argument_ends p t f fs y k = refl

pub within_call : (bytes : List ℕ) (p : Role) (t : Term) (cs : List Call) (made : List Term) (y : Spec) (k : TokenKind) → (cs ≡ [] → ⊥)
    → is_taken (after p t (frames_of bytes cs made) y) k ≡ goes_on k
within_call bytes p t [] made y k h = absurd (h refl)
within_call bytes p t (c ∷ cs) made y k h = argument_ends p t (record { word = word_of bytes c.word; arguments = newest c.count made none })
    (frames_of bytes cs (drop c.count made)) y k

sample_is : (k : TokenKind) → IsOf k (sample k)
sample_is PlainWord = (record { at = 0; bytes = [] }, refl)
sample_is RecSpec = refl
sample_is (Section p) = refl
sample_is EndSpec = refl
sample_is If = refl
sample_is AndIf = refl
sample_is Colon = refl
sample_is Open = refl
sample_is Close = refl
sample_is Comma = refl
sample_is Arrow = refl
sample_is Equal = refl
sample_is Unequal = refl
sample_is End = refl

-- tokens that are taken, and one more
one_more : (us : List Token) (c : State) (t : Token) (o : Option State) → run (Some start) us ≡ Some c → step c.due c.read t ≡ o
    → run (Some start) (us ++ t ∷ []) ≡ o
one_more us c t o e f = rw (run-append, e) f

some_begins : (us : List Token) (o : Option State) → run (Some start) us ≡ o → is_some o ≡ true → CanGoOn us
some_begins us None e h = absurd cc
some_begins us (Some c) e h = taken_begins us c e

begins_some : (us : List Token) (c : State) (t : Token) (o : Option State) → run (Some start) us ≡ Some c → step c.due c.read t ≡ o
    → CanGoOn (us ++ t ∷ []) → is_some o ≡ true
begins_some us c t None e f h = absurd (refused_begins_none us c t e f h)
begins_some us c t (Some d) e f h = refl

-- after tokens that lead to a state, just the kinds that it takes may stand
pub may_stand : (us : List Token) (c : State) (k : TokenKind) → run (Some start) us ≡ Some c → (is_taken (step c.due c.read) k ≡ true) ↔ MayStand us k
may_stand us c k e = (
  λ h. (
    sample k,
    sample_is k,
    some_begins (us ++ sample k ∷ []) (step c.due c.read (sample k))
        (one_more us c (sample k) (step c.due c.read (sample k)) e refl) h,
  ),
  λ m. sym (by_kind c.due c.read k m.0 m.1) ∙ begins_some us c m.0 (step c.due c.read m.0) e refl m.2,
)

-- the tokens before these lead to the state
pub record Reached (bytes : List ℕ) (c : State) (ps : List Placed) : Type 0 where
  pub before : List Placed
  pub cut : placed_tokens bytes ≡ before ++ ps
  pub led : run (Some start) (bare before) ≡ Some c

-- a token that is taken leads on
pub reached_next : (bytes : List ℕ) (c d : State) (ps rest : List Placed) (t : Token) (at : ℕ) → Reached bytes c ps → ps ≡ placed t at ∷ rest
    → step c.due c.read t ≡ Some d → Reached bytes d rest
reached_next bytes c d ps rest t at r e f = record {
  before = r.before ++ placed t at ∷ [];
  cut = r.cut ∙ ap (λ (qs : List Placed). r.before ++ qs) e ∙ sym (append_assoc r.before (placed t at ∷ []) rest);
  led = rw (bare-append r.before (placed t at ∷ [])) (one_more (bare r.before) c t (Some d) r.led f);
}

-- a state is the one after the tokens before the fault
abbrev pub IsFaultState : List ℕ → State → Type 0
IsFaultState bytes c = (at : ℕ) (fault : IsFaultPlace bytes at) → run (Some start) (bare fault.before) ≡ Some c

-- a token that is refused is at the fault's place
pub refused_state : (bytes : List ℕ) (c : State) (ps rest : List Placed) (t : Token) (at : ℕ) → Reached bytes c ps → ps ≡ placed t at ∷ rest
    → step c.due c.read t ≡ None → IsFaultState bytes c
refused_state bytes c ps rest t at r e f place fault =
    let here : IsFaultPlace bytes at = record {
      before = r.before;
      token = t;
      after = rest;
      cut = r.cut ∙ ap (λ (qs : List Placed). r.before ++ qs) e;
      viable = taken_begins (bare r.before) c r.led;
      refused = refused_begins_none (bare r.before) c t r.led f;
    } in
    ap (λ (qs : List Placed). run (Some start) (bare qs)) (same_before bytes place at fault here) ∙ r.led

-- where the end is taken, there is no fault
pub ended_state : (bytes : List ℕ) (c d : State) (ps : List Placed) (at : ℕ) → Reached bytes c ps → ps ≡ placed tokens.End at ∷ []
    → step c.due c.read tokens.End ≡ Some d → IsFaultState bytes d
ended_state bytes c d ps at r e f place fault =
    let last = reached_next bytes c d ps [] tokens.End at r e f in
    let over : d.due ≡ Done = subst Over f (step_over c.due c.read) in
    let whole : placed_tokens bytes ≡ last.before = last.cut ∙ append-nil last.before in
    let done : run (Some start) (bare (placed_tokens bytes)) ≡ to Done d.read =
    ap (λ (qs : List Placed). run (Some start) (bare qs)) whole ∙ last.led ∙ ap (λ (x : Due). to x d.read) over in
    absurd (not_both bytes d.read place (read_is_text (bare (placed_tokens bytes)) d.read done) fault)

pub none_since : (o : Option State) → is_some o ≡ false → o ≡ None
none_since None h = refl
none_since (Some c) h = absurd cc

-- calls that are counted are there
pub calls_stand : (cs : List Call) (n : ℕ) → n ≡ length cs → (n == 0) ≡ false → reverse cs ≡ [] → ⊥
calls_stand cs n counted some empty = eqb-false n 0 some (counted ∙ sym (length-reverse cs) ∙ ap length empty)

pub not_goes_on : (k : TokenKind) → (k ≡ Comma → ⊥) → (k ≡ Close → ⊥) → goes_on k ≡ false
not_goes_on Comma h i = absurd (h refl)
not_goes_on Close h i = absurd (i refl)
not_goes_on k h i = refl

pub is_going_on : (k : TokenKind) → (k ≡ Comma) ⊎ (k ≡ Close) → goes_on k ≡ true
is_going_on k (inl e) = rw e refl
is_going_on k (inr e) = rw e refl

-- the kinds
abbrev pub all_kinds : List TokenKind
all_kinds = PlainWord ∷ RecSpec ∷ Section Sorts ∷ Section Cons ∷ Section Opns ∷ Section Vars ∷ Section Rules ∷ Section
    Eval ∷ EndSpec ∷ If ∷ AndIf ∷ Colon ∷ Open ∷ Close ∷ Comma ∷ Arrow ∷ Equal ∷ Unequal ∷ End ∷ []

listed : (k : TokenKind) → Contains all_kinds k
listed PlainWord = (0, omega arith, refl)
listed RecSpec = (1, omega arith, refl)
listed (Section Sorts) = (2, omega arith, refl)
listed (Section Cons) = (3, omega arith, refl)
listed (Section Opns) = (4, omega arith, refl)
listed (Section Vars) = (5, omega arith, refl)
listed (Section Rules) = (6, omega arith, refl)
listed (Section Eval) = (7, omega arith, refl)
listed EndSpec = (8, omega arith, refl)
listed If = (9, omega arith, refl)
listed AndIf = (10, omega arith, refl)
listed Colon = (11, omega arith, refl)
listed Open = (12, omega arith, refl)
listed Close = (13, omega arith, refl)
listed Comma = (14, omega arith, refl)
listed Arrow = (15, omega arith, refl)
listed Equal = (16, omega arith, refl)
listed Unequal = (17, omega arith, refl)
listed End = (18, omega arith, refl)

-- of all kinds those are kept that pass
pub kinds_passing : (p : TokenKind → Bool) (k : TokenKind) → Contains (filter p all_kinds) k ↔ (p k ≡ true)
kinds_passing p k = (
  All-contains (λ x. p x ≡ true) (filter p all_kinds) k (filter_passes p all_kinds),
  λ e. elim (Contains-append_cases (filter p all_kinds) (filter q all_kinds) k
      (Contains-permutation all_kinds _ k (IsPermutation-filter_both p q (λ x. refl) all_kinds) (listed k))) [
        | inl c ↦ c
        | inr c ↦ let fails = not-true (p k) (All-contains (λ x. q x ≡ true) (filter q all_kinds) k (filter_passes q all_kinds) c) in absurd (cc (fails, e))
      ],
)
  where
    q : TokenKind → Bool
    q x = not (p x)
