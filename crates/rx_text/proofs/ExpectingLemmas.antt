-- What may stand at the place of a fault is what the machine takes there.
use Rattle.std.proofs.Common.{◌≡◌, ◌↔◌, ℕ, ℤ, pos, Bool, true, false, List, [], ◌∷◌, ◌++◌, map, reverse, length, Option, Some}
use Rattle.std.proofs.Common.{None, is_some, refl, sym, ap, ◌∙◌, append_assoc, ◌<◌, ◌-◌, get_or, Contains, not, inl, inr, arith}
use Rattle.std.proofs.lemmas.List.{append-nil, map-append, length-reverse, get_or-reverse}
use Rattle.std.specs.List.{filter}
use Rattle.std.proofs.lemmas.Bool.{not-true}
use Rattle.std.proofs.lemmas.List.Elements.{All-contains, Contains-append_cases, filter_passes}
use Rattle.std.proofs.lemmas.List.Sorted.{Contains-permutation, IsPermutation-filter_both}
use Rattle.rx_term.specs.Tree.{Tree, none, Appl, annotated}
use Rattle.rx_text.specs.Token as tokens
use Rattle.rx_text.specs.Token.{Token, kinds}
use Rattle.rx_text.specs.Place.{CanGoOn, IsFaultPlace}
use Rattle.rx_text.specs.Machine as machine
use Rattle.rx_text.specs.Machine.{Due, State, start, close, first, whole, body, after_name, step, next_state, run, read, tree_of}
use Rattle.rx_text.specs.Reader.{frame_of}
use Rattle.rx_text.specs.Expected.{IsOf, MayStand, before, sample, is_taken}
use Rattle.rx_text.specs.declared.token_kind.TokenKind.{TokenKind}
use Rattle.rx_text.specs.declared.token_kind.TokenKind.TheVariants.{Integer, Name, Open, Close, OpenBracket, CloseBracket}
use Rattle.rx_text.specs.declared.token_kind.TokenKind.TheVariants.{OpenBrace, CloseBrace, Less, Greater, Comma, End}
use Rattle.rx_text.specs.declared.reader.Opening.{Opening}
use Rattle.rx_text.specs.declared.reader.Opening.TheVariants as opening
use Rattle.rx_text.proofs.DecidingLemmas.{step_ended, some_same}
use Rattle.rx_text.proofs.FaultLemmas.{not_both}
use Rattle.rx_text.proofs.MachineLemmas.{can_go_on_run, run_can_go_on, read_spelled}
use Rattle.rx_text.proofs.PlaceLemmas.{same_before}

-- one integer is taken where another one is, and one name where another one is
alike_integers : (m : Due) (fs : List machine.Frame) (y z : ℤ) → is_some (step m fs (tokens.Integer y)) ≡ is_some (step m fs (tokens.Integer z))
alike_integers machine.AtTerm fs y z = refl
alike_integers (machine.First f) fs y z = refl
alike_integers (machine.Named n q) fs y z = refl
alike_integers (machine.Body u) fs y z = refl
alike_integers (machine.Whole u) fs y z = refl
alike_integers (machine.Done u) fs y z = refl

alike_names : (m : Due) (fs : List machine.Frame) (x y : List ℕ) (p q : Bool) → is_some (step m fs (tokens.Name x p)) ≡ is_some (step m fs (tokens.Name y q))
alike_names machine.AtTerm fs x y p q = refl
alike_names (machine.First f) fs x y p q = refl
alike_names (machine.Named n r) fs x y p q = refl
alike_names (machine.Body u) fs x y p q = refl
alike_names (machine.Whole u) fs x y p q = refl
alike_names (machine.Done u) fs x y p q = refl

-- whether a token is taken is decided by its kind
pub by_kind : (m : Due) (fs : List machine.Frame) (k : TokenKind) (t : Token) → IsOf k t → is_some (step m fs t) ≡ is_taken (step m fs) k
by_kind m fs Integer t (z, e) = ap (λ (u : Token). is_some (step m fs u)) e ∙ alike_integers m fs z (pos 0)
by_kind m fs Name t (name, quoted, e) = ap (λ (u : Token). is_some (step m fs u)) e ∙ alike_names m fs name [] quoted false
by_kind m fs Open t e = ap (λ (u : Token). is_some (step m fs u)) e
by_kind m fs Close t e = ap (λ (u : Token). is_some (step m fs u)) e
by_kind m fs OpenBracket t e = ap (λ (u : Token). is_some (step m fs u)) e
by_kind m fs CloseBracket t e = ap (λ (u : Token). is_some (step m fs u)) e
by_kind m fs OpenBrace t e = ap (λ (u : Token). is_some (step m fs u)) e
by_kind m fs CloseBrace t e = ap (λ (u : Token). is_some (step m fs u)) e
by_kind m fs Less t e = ap (λ (u : Token). is_some (step m fs u)) e
by_kind m fs Greater t e = ap (λ (u : Token). is_some (step m fs u)) e
by_kind m fs Comma t e = ap (λ (u : Token). is_some (step m fs u)) e
by_kind m fs End t e = ap (λ (u : Token). is_some (step m fs u)) e

-- a name may be a whole term, and so may a body
pub name_ends : (name : List ℕ) (quoted : Bool) (fs : List machine.Frame) (k : TokenKind) → (k ≡ Open → ⊥) → (k ≡ OpenBrace → ⊥)
    → is_taken (after_name name quoted fs) k ≡ is_taken (whole (annotated (Appl name quoted none none) none) fs) k
name_ends name quoted fs Open h i = absurd (h refl)
name_ends name quoted fs OpenBrace h i = absurd (i refl)
name_ends name quoted fs k h i = refl

pub body_ends : (u : Tree) (fs : List machine.Frame) (k : TokenKind) → (k ≡ OpenBrace → ⊥) → is_taken (body u fs) k ≡ is_taken (whole (annotated u none) fs) k
body_ends u fs OpenBrace h = absurd (h refl)
body_ends u fs k h = refl

-- an item may be the last one
pub item_ends : (bytes : List ℕ) (o : Opening) (u : Tree) (n : ℕ) (made : List Tree) (fs : List machine.Frame) (k : TokenKind)
    → (o ≡ opening.Placeholder → ⊥) → (k ≡ Comma → ⊥)
    → is_taken (whole u (frame_of bytes o n made ∷ fs)) k ≡ is_taken (close (frame_of bytes o n made) fs) k
item_ends bytes opening.Placeholder u n made fs k h i = absurd (h refl)
item_ends bytes o u n made fs Comma h i = absurd (i refl)
item_ends bytes (opening.Arguments w) u n made fs k h i = refl
item_ends bytes opening.List u n made fs k h i = refl
item_ends bytes opening.Annotations u n made fs k h i = refl

-- behind an opening mark stands one of three marks, or a term
pub item_begins : (f : machine.Frame) (fs : List machine.Frame) (k : TokenKind) → (k ≡ Close → ⊥) → (k ≡ CloseBracket → ⊥) → (k ≡ CloseBrace → ⊥)
    → is_taken (first f fs) k ≡ is_taken (start (f ∷ fs)) k
item_begins f fs Close h i j = absurd (h refl)
item_begins f fs CloseBracket h i j = absurd (i refl)
item_begins f fs CloseBrace h i j = absurd (j refl)
item_begins f fs k h i j = refl

sample_is : (k : TokenKind) → IsOf k (sample k)
sample_is Integer = (pos 0, refl)
sample_is Name = ([], false, refl)
sample_is Open = refl
sample_is Close = refl
sample_is OpenBracket = refl
sample_is CloseBracket = refl
sample_is OpenBrace = refl
sample_is CloseBrace = refl
sample_is Less = refl
sample_is Greater = refl
sample_is Comma = refl
sample_is End = refl

-- more tokens go on from the state that the first ones lead to
run_by : (ts us : List Token) (s : State) (o : Option State)
    → ((n : Due) (gs : List machine.Frame) → run ts n gs ≡ Some s → run (ts ++ us) n gs ≡ run us s.0 s.1)
    → next_state None (λ n gs. run ts n gs) o ≡ Some s → next_state None (λ n gs. run (ts ++ us) n gs) o ≡ run us s.0 s.1
run_by ts us s None go e = absurd (cc e)
run_by ts us s (Some r) go e = go r.0 r.1 e

run_on : (ts us : List Token) (m : Due) (fs : List machine.Frame) (s : State) → run ts m fs ≡ Some s → run (ts ++ us) m fs ≡ run us s.0 s.1
run_on [] us m fs s e = ap (λ (r : State). run us r.0 r.1) (some_same e)
run_on (t ∷ ts) us m fs s e = run_by ts us s (step m fs t) (λ n gs h. run_on ts us n gs s h) e

one_token : (t : Token) (s : State) (o : Option State) → step s.0 s.1 t ≡ o → run (t ∷ []) s.0 s.1 ≡ o
one_token t s None e = rw e refl
one_token t s (Some r) e = rw e refl

-- tokens that are taken, and one more
one_more : (us : List Token) (s : State) (t : Token) (o : Option State) → run us machine.AtTerm [] ≡ Some s → step s.0 s.1 t ≡ o
    → run (us ++ t ∷ []) machine.AtTerm [] ≡ o
one_more us s t o e f = run_on us (t ∷ []) machine.AtTerm [] s e ∙ one_token t s o f

some_can_go_on : (us : List Token) (o : Option State) → run us machine.AtTerm [] ≡ o → is_some o ≡ true → CanGoOn us
some_can_go_on us None e h = absurd (cc h)
some_can_go_on us (Some s) e h = run_can_go_on us s e

-- tokens that the machine refuses begin no text
none_cannot_go_on : (us : List Token) → run us machine.AtTerm [] ≡ None → ¬ CanGoOn us
none_cannot_go_on us e b = let k = can_go_on_run us b in absurd (cc (e, k.1))

can_go_on_some : (us : List Token) (s : State) (t : Token) (o : Option State) → run us machine.AtTerm [] ≡ Some s → step s.0 s.1 t ≡ o
    → CanGoOn (us ++ t ∷ []) → is_some o ≡ true
can_go_on_some us s t None e f b = absurd (none_cannot_go_on (us ++ t ∷ []) (one_more us s t None e f) b)
can_go_on_some us s t (Some r) e f b = refl

-- behind tokens that lead to a state, just the kinds that it takes may stand
pub may_stand : (us : List Token) (s : State) (k : TokenKind) → run us machine.AtTerm [] ≡ Some s → (is_taken (step s.0 s.1) k ≡ true) ↔ MayStand us k
may_stand us s k e = (
  λ h. (sample k, sample_is k, some_can_go_on (us ++ sample k ∷ []) (step s.0 s.1 (sample k)) (one_more us s (sample k) (step s.0 s.1 (sample k)) e refl) h),
  λ m. sym (by_kind s.0 s.1 k m.0 m.1) ∙ can_go_on_some us s m.0 (step s.0 s.1 m.0) e refl m.2,
)

-- tokens without their places
abbrev bare : List (ℕ × Token) → List Token
bare ps = map (λ t. t.1) ps

-- the tokens before these lead to the state
pub record Reached (bytes : List ℕ) (s : State) (ps : List (ℕ × Token)) : Type 0 where
  pub front : List (ℕ × Token)
  pub cut : tokens.tokens bytes ≡ front ++ ps
  pub led : run (bare front) machine.AtTerm [] ≡ Some s

-- a token that is taken leads on
pub reached_next : (bytes : List ℕ) (s r : State) (ps rest : List (ℕ × Token)) (t : Token) (at : ℕ) → Reached bytes s ps → ps ≡ (at, t) ∷ rest
    → step s.0 s.1 t ≡ Some r → Reached bytes r rest
reached_next bytes s r ps rest t at h e f = record {
  front = h.front ++ (at, t) ∷ [];
  cut = h.cut ∙ ap (λ (qs : List (ℕ × Token)). h.front ++ qs) e ∙ sym (append_assoc h.front ((at, t) ∷ []) rest);
  led = ap (λ (us : List Token). run us machine.AtTerm []) (map-append (λ (p : ℕ × Token). p.1) h.front ((at, t) ∷ []))
      ∙ one_more (bare h.front) s t (Some r) h.led f;
}

-- a state is the one behind the tokens before the fault
abbrev pub IsFaultState : List ℕ → State → Type 0
IsFaultState bytes s = (at : ℕ) (place : IsFaultPlace bytes at) → run (before bytes at place) machine.AtTerm [] ≡ Some s

-- a token that is refused is at the fault's place
pub refused_state : (bytes : List ℕ) (s : State) (ps rest : List (ℕ × Token)) (t : Token) (at : ℕ) → Reached bytes s ps → ps ≡ (at, t) ∷ rest
    → step s.0 s.1 t ≡ None → IsFaultState bytes s
refused_state bytes s ps rest t at h e f x place =
    let here : IsFaultPlace bytes at = (
      h.front,
      rest,
      t,
      h.cut ∙ ap (λ (qs : List (ℕ × Token)). h.front ++ qs) e,
      run_can_go_on (bare h.front) s h.led,
      none_cannot_go_on (bare h.front ++ t ∷ []) (one_more (bare h.front) s t None h.led f),
    ) in
    ap (λ (qs : List (ℕ × Token)). run (bare qs) machine.AtTerm []) (same_before bytes x at place here) ∙ h.led

-- where the end is taken, there is no fault
pub ended_state : (bytes : List ℕ) (s r : State) (ps : List (ℕ × Token)) (at : ℕ) → Reached bytes s ps → ps ≡ (at, tokens.End) ∷ []
    → step s.0 s.1 tokens.End ≡ Some r → IsFaultState bytes r
ended_state bytes s r ps at h e f x place =
    let last = reached_next bytes s r ps [] tokens.End at h e f in
    let ended = step_ended s.0 s.1 r f in
    let all : tokens.tokens bytes ≡ last.front = last.cut ∙ append-nil last.front in
    let done : run (kinds bytes) machine.AtTerm [] ≡ Some (machine.Done ended.0, []) =
    ap (λ (qs : List (ℕ × Token)). run (bare qs) machine.AtTerm []) all ∙ last.led ∙ ap (λ (q : State). Some q) ended.1 in
    let is_read : read (kinds bytes) ≡ Some ended.0 = ap tree_of done in
    absurd (not_both bytes ended.0 x (read_spelled (kinds bytes) ended.0 is_read) place)

pub none_since : (o : Option State) → is_some o ≡ false → o ≡ None
none_since None h = refl
none_since (Some s) h = absurd (cc h)

-- the kinds
abbrev pub all_kinds : List TokenKind
all_kinds = Integer ∷ Name ∷ Open ∷ Close ∷ OpenBracket ∷ CloseBracket ∷ OpenBrace ∷ CloseBrace ∷ Less ∷ Greater ∷ Comma ∷ End ∷ []

listed : (k : TokenKind) → Contains all_kinds k
listed Integer = (0, omega arith, refl)
listed Name = (1, omega arith, refl)
listed Open = (2, omega arith, refl)
listed Close = (3, omega arith, refl)
listed OpenBracket = (4, omega arith, refl)
listed CloseBracket = (5, omega arith, refl)
listed OpenBrace = (6, omega arith, refl)
listed CloseBrace = (7, omega arith, refl)
listed Less = (8, omega arith, refl)
listed Greater = (9, omega arith, refl)
listed Comma = (10, omega arith, refl)
listed End = (11, omega arith, refl)

-- of all kinds those are kept that pass
pub kinds_passing : (p : TokenKind → Bool) (k : TokenKind) → Contains (filter p all_kinds) k ↔ (p k ≡ true)
kinds_passing p k = (
  All-contains (λ x. p x ≡ true) (filter p all_kinds) k (filter_passes p all_kinds),
  λ e. elim (Contains-append_cases (filter p all_kinds) (filter q all_kinds) k
      (Contains-permutation all_kinds _ k (IsPermutation-filter_both p q (λ x. refl) all_kinds) (listed k))) [
        | inl c ↦ c
        | inr c ↦ let fails = not-true (p k) (All-contains (λ x. q x ≡ true) (filter q all_kinds) k (filter_passes q all_kinds) c) in absurd (cc (fails, e))
      ],
)
  where
    q : TokenKind → Bool
    q x = not (p x)

head_is : {X : Type 0} → (ys : List X) (y : X) → 0 < length ys → get_or ys 0 y ≡ y → (rest : List X) × (ys ≡ y ∷ rest)
head_is [] y h e = absurd (omega (arith, h))
head_is (z ∷ ys) y h e = (ys, ap (λ x. x ∷ ys) e)

-- the last one of a list is the first one of it reversed
pub last_first : {X : Type 0} → (xs : List X) (x : X) → 0 < length xs → x ≡ get_or xs (length xs - 1) x → (rest : List X) × (reverse xs ≡ x ∷ rest)
last_first xs x h e =
    let long = length-reverse xs in
    let at : length xs - 1 - 0 ≡ length xs - 1 = omega arith in
    head_is (reverse xs) x (omega (arith, h, long)) (get_or-reverse xs 0 x h ∙ ap (λ n. get_or xs n x) at ∙ sym e)
