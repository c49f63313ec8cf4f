-- Calls over ground terms: their letters, their texts, and the left sides that do not match them.
use Rattle.std.proofs.Common.{refl, sym, ap, subst, arith, ◌∙◌, append_assoc, inl, inr, length-append}
use Rattle.std.proofs.lemmas.Bool.{cases_lt}
use Rattle.std.proofs.lemmas.List.{append-nil, length-map, length-take, map-append, take_all, take_more}
use Rattle.std.proofs.lemmas.List.Elements.{All-nil, All-append, All-push, All-take}
use Rattle.std.specs.Prelude.{ℕ, zero, suc, ◌≡◌, ◌≤◌, ◌<◌, ◌+◌, ◌-◌, ◌⊎◌, ◌&&◌, ◌||◌, Bool, true, false, not, All, Contains, List, []}
use Rattle.std.specs.Prelude.{◌∷◌, ◌++◌, Option, Some, None, bytes_eq, get_or, is_some, length, map, slice_get, take}
use Rattle.rx_term.specs.Name.{plain_name}
use Rattle.rx_text.specs.Canon.{canon, canon_all, canon_others, name_text, no_arguments}
use Rattle.rec_syntax.specs.Lexemes.{word_of}
use Rattle.rec_syntax.specs.Parts.{words_of}
use Rattle.rec_syntax.specs.Tokens.{Word}
use Rattle.rec_syntax.specs.declared.lexer.Span.{Span}
use Rattle.rec_syntax.specs.Syntax.{Term, Terms, Apply, none, more, Declaration, Rule, Sourced, Spec, arguments, head, nameless}
use Rattle.rec_sorts.proofs.KeptLemmas.{bytes_eq-eq}
use Rattle.rec_sorts.specs.Lookup.{count, names, symbols}
use Rattle.rec_sorts.specs.Binding.{binds, instances, tree_of}
use Rattle.rec_sorts.specs.Numbering.{AreLetters, IsMeaning, arity_of, Named, bytes_at, name_of, named, named_all, named_by}
use Rattle.rec_sorts.specs.SpecRules.{fault}
use Rattle.rec_sorts.specs.declared.letters.Letter.{Letter}
use Rattle.rec_sorts.specs.declared.letters.Meaning.TheVariants.{Symbol}
use Rattle.rec_match.specs.Inner.Built.{AreHeads}
use Rattle.rec_match.specs.Inner.Chains.{IsNext}
use Rattle.rec_match.proofs.FactLemmas.{facts}
use Rattle.rec_check.specs.Findings.{Found, found_on, MayShow, ShowCalls, ShowsCall, as_diagnostic}
use Rattle.rec_check.specs.declared.finding.Diagnostic.{Diagnostic}
use Rattle.rec_check.specs.declared.finding.Kind.TheVariants.{NotCovered}
use Rattle.rec_check.specs.Inner.Grounds.{AreJoined, IsCallOf, IsExampleOf, IsGroundOf, IsShown, opened_text, sorts_had}
use Rattle.rec_check.specs.Uncovered.{AreGround, IsGround, IsUnmatched, begins_rule, sorts_due}
use Rattle.rec_check.specs.declared.uncovered.Ground.{Ground}
use Rattle.rec_check.proofs.RewritingLemmas.{apart_binds, rule_there}

-- ---- left sides along a symbol's chain

-- no left side before a place matches the term
abbrev pub NoneMatches : Spec → Term → ℕ → Type 0
NoneMatches y t n = (i : ℕ) (d : Rule) → i < n → i < length y.rules → is_some (binds y (get_or y.rules i d).left (tree_of t)) ≡ false

module _ (y : Spec) (kept : fault y ≡ None) (fs : List ℕ) (heads : AreHeads y fs) where
  -- one of another symbol does not
  other_side : (k : ℕ) → k < length (symbols y) → (t : Term) → (head t).bytes ≡ name_of y (Symbol k) → (i : ℕ) (d : Rule) → i < length y.rules
      → (get_or fs i 0 ≡ k → ⊥) → is_some (binds y (get_or y.rules i d).left (tree_of t)) ≡ false
  other_side k lt t is i d below apart =
      let h = heads.each i d below in
      apart_binds y kept (get_or y.rules i d) (rule_there y.rules i d below) (get_or fs i 0) h.declared h.head t (λ e.
      apart ((facts y kept).symbols_differ (get_or fs i 0) k h.declared lt (sym h.head ∙ e ∙ is)))

  -- none before the first of a symbol does
  pub no_start : (k from at : ℕ) → k < length (symbols y) → (t : Term) → (head t).bytes ≡ name_of y (Symbol k) → IsNext fs k from at
      → NoneMatches y t from → NoneMatches y t at
  no_start k from at lt t is next before i d below there = by (cases_lt i from)
    where
      by : (i < from) ⊎ (from ≤ i) → is_some (binds y (get_or y.rules i d).left (tree_of t)) ≡ false
      by (inl early) = before i d early there
      by (inr late) = other_side k lt t is i d there (λ e. next.none i late below e)

  -- nor before the next one
  pub no_next : (k at after : ℕ) → k < length (symbols y) → (t : Term) → (head t).bytes ≡ name_of y (Symbol k) → IsNext fs k (suc at) after
      → ((d : Rule) → at < length y.rules → is_some (binds y (get_or y.rules at d).left (tree_of t)) ≡ false) → NoneMatches y t at → NoneMatches y t after
  no_next k at after lt t is next own before = no_start k (suc at) after lt t is next up_to
    where
      up_to : NoneMatches y t (suc at)
      up_to i d below there = by (cases_lt i at)
        where
          by : (i < at) ⊎ (at ≤ i) → is_some (binds y (get_or y.rules i d).left (tree_of t)) ≡ false
          by (inl early) = before i d early there
          by (inr late) = let same : at ≡ i = omega (arith, late, below) in
              subst (λ (j : ℕ). is_some (binds y (get_or y.rules j d).left (tree_of t)) ≡ false) same (own d (omega (arith, same, there)))

pub no_side : (y : Spec) (t : Term) (n : ℕ) → length y.rules ≤ n → NoneMatches y t n → IsUnmatched y t
no_side y t n le h = λ i d lt. by (binds y (get_or y.rules i d).left (tree_of t)) (h i d (omega (arith, lt, le)) lt)
  where
    by : {X : Type 0} (o : Option X) → is_some o ≡ false → o ≡ None
    by None e = refl
    by (Some x) e = absurd (cc e)

-- ---- arguments one behind the other

-- a term behind others
abbrev behind : Terms → Term → Terms
behind none t = more t none
behind (more u us) t = more u (behind us t)

named-behind : (ts : Terms) (t : Term) → named_all (behind ts t) ≡ named_all ts ++ named t
named-behind none t = append-nil (named t)
named-behind (more u us) t = ap (λ ns. named u ++ ns) (named-behind us t) ∙ sym (append_assoc (named u) (named_all us) (named t))

ground-behind : (y : Spec) (ss : List (List ℕ)) (s : List ℕ) (ts : Terms) (t : Term) → AreGround y ss ts → IsGround y s t
    → AreGround y (ss ++ s ∷ []) (behind ts t)
ground-behind y [] s none t h g = (g, tt)
ground-behind y [] s (more u us) t h g = absurd h
ground-behind y (r ∷ ss) s none t h g = absurd h
ground-behind y (r ∷ ss) s (more u us) t h g = (h.0, ground-behind y ss s us t h.1 g)

pub ground-count : (y : Spec) (ss : List (List ℕ)) (ts : Terms) → AreGround y ss ts → count ts ≡ length ss
ground-count y [] none h = refl
ground-count y [] (more u us) h = absurd h
ground-count y (r ∷ ss) none h = absurd h
ground-count y (r ∷ ss) (more u us) h = ap suc (ground-count y ss us h.1)

others-behind : (ts : Terms) (t : Term) → canon_others (instances [] (behind ts t)) ≡ canon_others (instances [] ts) ++ 44 ∷ canon (tree_of t)
others-behind none t = append-nil (44 ∷ canon (tree_of t))
others-behind (more u us) t =
    ap (λ xs. 44 ∷ canon (tree_of u) ++ xs) (others-behind us t)
    ∙ ap (λ xs. 44 ∷ xs) (sym (append_assoc (canon (tree_of u)) (canon_others (instances [] us)) (44 ∷ canon (tree_of t))))

-- what stands before one more argument
abbrev mark_behind : Terms → ℕ
mark_behind none = 40
mark_behind (more u us) = 44

opened-behind : (ts : Terms) (t : Term) → opened_text (instances [] (behind ts t)) ≡ opened_text (instances [] ts) ++ mark_behind ts ∷ canon (tree_of t)
opened-behind none t = append-nil (40 ∷ canon (tree_of t))
opened-behind (more u us) t =
    ap (λ xs. 40 ∷ canon (tree_of u) ++ xs) (others-behind us t)
    ∙ ap (λ xs. 40 ∷ xs) (sym (append_assoc (canon (tree_of u)) (canon_others (instances [] us)) (44 ∷ canon (tree_of t))))

mark_first : (ts : Terms) → count ts ≡ 0 → mark_behind ts ≡ 40
mark_first none e = refl
mark_first (more u us) e = absurd (let nothing : ⊥ = omega (arith, e) in nothing)

mark_other : (ts : Terms) → 0 < count ts → mark_behind ts ≡ 44
mark_other none lt = absurd (let nothing : ⊥ = omega (arith, lt) in nothing)
mark_other (more u us) lt = refl

pub joined_none : (y : Spec) (old : List ℕ) → AreJoined y [] [] old old
joined_none y old = record { terms = none; ground = tt; meant = All-nil (λ (l : Letter). IsMeaning y l.meaning); spelled = refl; shown = sym (append-nil old) }

pub joined_more : (y : Spec) (ss : List (List ℕ)) (s : List ℕ) (ls part : List Letter) (old now text : List ℕ) (mark : ℕ) (t : Term)
    → (length ss ≡ 0 → mark ≡ 40) → (0 < length ss → mark ≡ 44) → IsGround y s t → All (λ l. IsMeaning y l.meaning) part
    → map (named_by y) part ≡ named t → text ≡ canon (tree_of t)
    → AreJoined y ss ls old now → AreJoined y (ss ++ s ∷ []) (ls ++ part) old ((now ++ mark ∷ []) ++ text)
joined_more y ss s ls part old now text mark t first other ground meant spelled shown h =
    let counted = ground-count y ss h.terms h.ground in
    let same : mark_behind h.terms ≡ mark = by (cases_lt 0 (length ss)) in
    record {
      terms = behind h.terms t;
      ground = ground-behind y ss s h.terms t h.ground ground;
      meant = All-append (λ (l : Letter). IsMeaning y l.meaning) ls part h.meant meant;
      spelled = map-append (named_by y) ls part ∙ ap (λ ns. ns ++ map (named_by y) part) h.spelled ∙ ap (λ ns. named_all h.terms ++ ns) spelled
          ∙ sym (named-behind h.terms t);
      shown = append_assoc now (mark ∷ []) text
          ∙ ap (λ xs. xs ++ mark ∷ text) h.shown
          ∙ append_assoc old (opened_text (instances [] h.terms)) (mark ∷ text)
          ∙ ap (λ xs. old ++ (opened_text (instances [] h.terms) ++ mark ∷ xs)) shown
          ∙ ap (λ (m : ℕ). old ++ (opened_text (instances [] h.terms) ++ m ∷ canon (tree_of t))) (sym same)
          ∙ ap (λ xs. old ++ xs) (sym (opened-behind h.terms t));
    }
  where
    by : (0 < length ss) ⊎ (length ss ≤ 0) → mark_behind h.terms ≡ mark
    by (inl some) = (let counted = ground-count y ss h.terms h.ground in mark_other h.terms (omega (arith, counted, some))) ∙ sym (other some)
    by (inr le) = (let counted = ground-count y ss h.terms h.ground in mark_first h.terms (omega (arith, counted, le))) ∙ sym (first (omega (arith, le)))

-- ---- a call and its text

no_marks : (name : List ℕ) → no_arguments name (not (plain_name name)) ≡ []
no_marks [] = refl
no_marks (b ∷ bs) = refl

-- a name without arguments
pub canon_constant : (w : Word) → canon (tree_of (Apply w none)) ≡ name_text w.bytes (not (plain_name w.bytes))
canon_constant w =
    let own = name_text w.bytes (not (plain_name w.bytes)) in
    append-nil (own ++ no_arguments w.bytes (not (plain_name w.bytes))) ∙ ap (λ xs. own ++ xs) (no_marks w.bytes) ∙ append-nil own

-- a name with arguments
pub canon_call : (w : Word) (t : Term) (ts : Terms) → canon (tree_of (Apply w (more t ts)))
    ≡ (name_text w.bytes (not (plain_name w.bytes)) ++ opened_text (instances [] (more t ts))) ++ 41 ∷ []
canon_call w t ts =
    let own = name_text w.bytes (not (plain_name w.bytes)) in
    let all = canon_all (instances [] (more t ts)) in
    append-nil (own ++ (40 ∷ all ++ 41 ∷ [])) ∙ sym (append_assoc own (40 ∷ all) (41 ∷ []))

-- by how many arguments there are
pub canon_without : (y : Spec) (w : Word) (ss : List (List ℕ)) (ts : Terms) (text : List ℕ) → AreGround y ss ts → length ss ≡ 0
    → text ≡ name_text w.bytes (not (plain_name w.bytes)) ++ opened_text (instances [] ts) → text ≡ canon (tree_of (Apply w ts))
canon_without y w ss none text h e is = is ∙ append-nil (name_text w.bytes (not (plain_name w.bytes))) ∙ sym (canon_constant w)
canon_without y w [] (more t ts) text h e is = absurd h
canon_without y w (s ∷ ss) (more t ts) text h e is = absurd (let nothing : ⊥ = omega (arith, e) in nothing)

pub canon_with : (y : Spec) (w : Word) (ss : List (List ℕ)) (ts : Terms) (text : List ℕ) → AreGround y ss ts → 0 < length ss
    → text ≡ name_text w.bytes (not (plain_name w.bytes)) ++ opened_text (instances [] ts) → text ++ 41 ∷ [] ≡ canon (tree_of (Apply w ts))
canon_with y w ss (more t ts) text h lt is = ap (λ xs. xs ++ 41 ∷ []) is ∙ sym (canon_call w t ts)
canon_with y w [] none text h lt is = absurd (let nothing : ⊥ = omega (arith, lt) in nothing)
canon_with y w (s ∷ ss) none text h lt is = absurd h

-- the word of a name
abbrev pub word_named : List ℕ → Word
word_named name = record { at = 0; bytes = name }

-- ---- symbols by their numbers

pub name_at : (ds : List Declaration) (k : ℕ) (d : Declaration) → slice_get ds k ≡ Some d → bytes_at (names ds) k ≡ d.name.bytes
name_at [] k d e = absurd (cc e)
name_at (c ∷ ds) zero d e = let same : c ≡ d = cc e in ap (λ (x : Declaration). x.name.bytes) same
name_at (c ∷ ds) (suc k) d e = name_at ds k d e

pub arity_at : (ds : List Declaration) (k : ℕ) (d : Declaration) → slice_get ds k ≡ Some d
    → get_or (map (λ (x : Declaration). length x.arguments) ds) k 0 ≡ length d.arguments
arity_at [] k d e = absurd (cc e)
arity_at (c ∷ ds) zero d e = let same : c ≡ d = cc e in ap (λ (x : Declaration). length x.arguments) same
arity_at (c ∷ ds) (suc k) d e = arity_at ds k d e

pub at_below : {A : Type 0} (xs : List A) (k : ℕ) (x : A) → slice_get xs k ≡ Some x → k < length xs
at_below [] k x e = absurd (cc e)
at_below (z ∷ xs) zero x e = omega arith
at_below (z ∷ xs) (suc k) x e = let lt = at_below xs k x e in omega (arith, lt)

pub at_is : {A : Type 0} (xs : List A) (k : ℕ) (x : A) → slice_get xs k ≡ Some x → get_or xs k x ≡ x
at_is [] k x e = absurd (cc e)
at_is (z ∷ xs) zero x e = cc e
at_is (z ∷ xs) (suc k) x e = at_is xs k x e

pub at_contains : {A : Type 0} (xs : List A) (k : ℕ) (x : A) → slice_get xs k ≡ Some x → Contains xs x
at_contains xs k x e = (k, at_below xs k x e, at_is xs k x e)

-- a place behind others
pub at_behind : {A : Type 0} (xs ys : List A) (i k : ℕ) (x : A) → k ≡ length xs + i → slice_get (xs ++ ys) k ≡ Some x → slice_get ys i ≡ Some x
at_behind [] ys i k x e h = subst (λ (j : ℕ). slice_get ys j ≡ Some x) (omega (arith, e)) h
at_behind (z ∷ xs) ys i zero x e h = absurd (let nothing : ⊥ = omega (arith, e) in nothing)
at_behind (z ∷ xs) ys i (suc k) x e h = at_behind xs ys i k x (omega (arith, e)) h

-- ---- what is shown of operators

pub show_none : (y : Spec) (ds : List Declaration) → ShowCalls y ds []
show_none y [] = refl
show_none y (d ∷ ds) = ([], [], tt, show_none y ds, refl)

show_more : (y : Spec) (ds : List Declaration) (d : Declaration) (us own : List Found) → ShowCalls y ds us → MayShow y d own
    → ShowCalls y (ds ++ d ∷ []) (us ++ own)
show_more y [] d us own e may = (own, [], may, refl, ap (λ fs. fs ++ own) e ∙ sym (append-nil own))
show_more y (c ∷ ds) d us own h may =
    let first = h.0 in
    let others = h.1 in
    (first, others ++ own, h.2, show_more y ds d others own h.3 may, ap (λ fs. fs ++ own) h.4 ∙ append_assoc first others own)

pub show_one : (y : Spec) (i : ℕ) (d : Declaration) (us : List Found) (f : Found) → slice_get y.operators i ≡ Some d → MayShow y d (f ∷ [])
    → ShowCalls y (take i y.operators) us → ShowCalls y (take (i + 1) y.operators) (us ++ f ∷ [])
show_one y i d us f at may h =
    let more = show_more y (take i y.operators) (get_or y.operators i d) us (f ∷ []) h
    (subst (λ (c : Declaration). MayShow y c (f ∷ [])) (sym (at_is y.operators i d at)) may) in
    subst (λ (ds : List Declaration). ShowCalls y ds (us ++ f ∷ [])) (sym (take_more y.operators i d (at_below y.operators i d at))) more

pub show_nothing : (y : Spec) (i : ℕ) (us : List Found) → i < length y.operators → ShowCalls y (take i y.operators) us
    → ShowCalls y (take (i + 1) y.operators) us
show_nothing y i us lt h =
    let more = show_more y (take i y.operators) (get_or y.operators i no_declaration) us [] h tt in
    subst (λ (fs : List Found). ShowCalls y (take (i + 1) y.operators) fs) (append-nil us)
    (subst (λ (ds : List Declaration). ShowCalls y ds (us ++ [])) (sym (take_more y.operators i no_declaration lt)) more)
  where
    no_declaration : Declaration
    no_declaration = record { name = nameless; arguments = []; sort = nameless }

-- ---- turns of loops

-- one term more stands behind others
pub joined_turn : (y : Spec) (terms : List Ground) (i : ℕ) (g : Ground) (ls all part : List Letter) (old now marked text new : List ℕ) (mark : ℕ)
    → i < length terms → g ≡ get_or terms i g → (i ≡ 0 → mark ≡ 40) → (0 < i → mark ≡ 44)
    → marked ≡ now ++ mark ∷ [] → text ≡ g.text.items → new ≡ marked ++ text → part ≡ g.letters.items → all ≡ ls ++ part → All (IsGroundOf y) terms
    → AreJoined y (sorts_had (take i terms)) ls old now → AreJoined y (sorts_had (take (i + 1) terms)) all old new
joined_turn y terms i g ls all part old now marked text new mark lt is first other e1 e2 e3 e4 e5 ground h =
    let own : IsGroundOf y g = subst (IsGroundOf y) (sym is) (ground i g lt) in
    let long : length (sorts_had (take i terms)) ≡ i = length-map (take i terms) (λ (x : Ground). x.sort.now) ∙ length-take i terms ∙ (omega (arith, lt)) in
    let more = joined_more y (sorts_had (take i terms)) g.sort.now ls g.letters.items old now g.text.items mark own.0 (λ e.
    first (omega (arith, e, long))) (λ l. other (omega (arith, l, long))) own.1 own.2.spelled.0 own.2.spelled.1 own.2.shown h in
    let sorts : sorts_had (take i terms) ++ g.sort.now ∷ [] ≡ sorts_had (take (i + 1) terms) =
    sym (ap sorts_had (take_more terms i g lt) ∙ map-append (λ (x : Ground). x.sort.now) (take i terms) (get_or terms i g ∷ [])
    ∙ ap (λ (x : Ground). sorts_had (take i terms) ++ x.sort.now ∷ []) (sym is)) in
    let letters : ls ++ g.letters.items ≡ all = sym (e5 ∙ ap (λ xs. ls ++ xs) e4) in
    let shown : (now ++ mark ∷ []) ++ g.text.items ≡ new = sym (e3 ∙ ap (λ xs. xs ++ text) e1 ∙ ap (λ xs. (now ++ mark ∷ []) ++ xs) e2) in
    subst (λ ss. AreJoined y ss all old new) sorts (subst (λ xs. AreJoined y (sorts_had (take i terms) ++ g.sort.now ∷ []) xs old new) letters
    (subst (λ t. AreJoined y (sorts_had (take i terms) ++ g.sort.now ∷ []) (ls ++ g.letters.items) old t) shown more))

-- one sort more is the same
pub sorts_turn : (source : List ℕ) (terms : List Ground) (sorts : List Span) (i : ℕ) (g : Ground) (s : Span) (word : List ℕ) (b : Bool)
    → i < length terms → length terms ≡ length sorts → g ≡ get_or terms i g → word ≡ (word_of source (get_or sorts i s)).bytes
    → b ≡ not (bytes_eq g.sort.now word) → b ≡ false → sorts_had (take i terms) ≡ map (λ w. w.bytes) (words_of source (take i sorts))
    → sorts_had (take (i + 1) terms) ≡ map (λ w. w.bytes) (words_of source (take (i + 1) sorts))
sorts_turn source terms sorts i g s word b lt long is at test fails before =
    let same : g.sort.now ≡ (word_of source (get_or sorts i s)).bytes = bytes_eq-eq g.sort.now word (by (bytes_eq g.sort.now word) (sym test ∙ fails)) ∙ at in
    ap sorts_had (take_more terms i g lt)
    ∙ map-append (λ (x : Ground). x.sort.now) (take i terms) (get_or terms i g ∷ [])
    ∙ ap (λ (x : Ground). sorts_had (take i terms) ++ x.sort.now ∷ []) (sym is)
    ∙ ap (λ ss. ss ++ g.sort.now ∷ []) before
    ∙ ap (λ v. map (λ (w : Word). w.bytes) (words_of source (take i sorts)) ++ v ∷ []) same
    ∙ sym (ap (λ xs. map (λ (w : Word). w.bytes) (words_of source xs)) (take_more sorts i s (omega (arith, lt, long)))
    ∙ ap (map (λ (w : Word). w.bytes)) (map-append (word_of source) (take i sorts) (get_or sorts i s ∷ []))
    ∙ map-append (λ (w : Word). w.bytes) (words_of source (take i sorts)) (word_of source (get_or sorts i s) ∷ []))
  where
    by : (c : Bool) → not c ≡ false → c ≡ true
    by true e = refl
    by false e = absurd (cc e)

-- ---- a symbol over terms

-- the letters and the text of a call
pub call_is : (y : Spec) (k n : ℕ) (d : Declaration) (sorts : List (List ℕ)) (ls all : List Letter) (name titled text whole : List ℕ)
    → slice_get (symbols y) k ≡ Some d → sorts ≡ sorts_due d → name ≡ bytes_at (names (symbols y)) k → n ≡ arity_of y k
    → titled ≡ name_text name (not (plain_name name)) → AreJoined y sorts ls titled text → (0 < length sorts → whole ≡ text ++ 41 ∷ [])
    → (length sorts ≡ 0 → whole ≡ text) → all ≡ ls ++ record { meaning = Symbol k; count = n } ∷ []
    → (t : Term) × ((head t).bytes ≡ d.name.bytes) × AreGround y (sorts_due d) (arguments t) × IsShown y t all whole
call_is y k n d sorts ls all name titled text whole at due is counted title h some bare letters = (
  Apply (word_named name) h.terms,
  is ∙ name_at (symbols y) k d at,
  subst (λ (ss : List (List ℕ)). AreGround y ss h.terms) due h.ground,
  record {
    spelled = (
      subst (λ (xs : List Letter). All (λ l. IsMeaning y l.meaning) xs) (sym letters)
          (All-push (λ (l : Letter). IsMeaning y l.meaning) ls own h.meant (at_below (symbols y) k d at)),
      ap (map (named_by y)) letters
          ∙ map-append (named_by y) ls (own ∷ [])
          ∙ ap (λ ns. ns ++ named_by y own ∷ []) h.spelled
          ∙ ap (λ (b : List ℕ). named_all h.terms ++ (let m : Named = record { name = b; arguments = n } in m) ∷ []) (sym is)
          ∙ ap (λ (a : ℕ). named_all h.terms ++ (let m : Named = record { name = name; arguments = a } in m) ∷ []) filled,
    );
    shown = by (cases_lt 0 (length sorts));
  },
)
  where
    own : Letter
    own = record { meaning = Symbol k; count = n }

    filled : n ≡ count h.terms
    filled = counted ∙ arity_at (symbols y) k d at ∙ sym (length-map d.arguments (λ w. w.bytes)) ∙ ap length (sym due)
        ∙ sym (ground-count y sorts h.terms h.ground)

    shown : text ≡ name_text name (not (plain_name name)) ++ opened_text (instances [] h.terms)
    shown = h.shown ∙ ap (λ xs. xs ++ opened_text (instances [] h.terms)) title

    by : (0 < length sorts) ⊎ (length sorts ≤ 0) → whole ≡ canon (tree_of (Apply (word_named name) h.terms))
    by (inl lt) = some lt ∙ canon_with y (word_named name) sorts h.terms text h.ground lt shown
    by (inr le) = let e : length sorts ≡ 0 = omega (arith, le) in bare e ∙ canon_without y (word_named name) sorts h.terms text h.ground e shown

-- a call that no left side matches is shown
pub call_shown : (s r : Sourced) (k : ℕ) (d : Declaration) (g : Ground) (ls : List Letter) → r ≡ s → slice_get (symbols s.spec) k ≡ Some d
    → begins_rule s.spec d.name.bytes ≡ true → ls ≡ g.letters.items
    → ((t : Term) → AreLetters r.spec ls t → (head t).bytes ≡ name_of r.spec (Symbol k) → IsUnmatched r.spec t) → IsCallOf s.spec d g
    → length g.text.items ≤ 200 → ShowsCall s.spec d (record { at = g.at; end = g.end; shown = g.text.items; kind = NotCovered })
call_shown s r k d g ls same at ruled letters unmatched h short = (
  h.term,
  record {
    ruled = ruled;
    called = h.called;
    filled = h.filled;
    unmatched = subst (λ (x : Sourced). IsUnmatched x.spec h.term) same
        (unmatched h.term (subst (λ (x : Sourced). AreLetters x.spec ls h.term) (sym same)
        (subst (λ xs. AreLetters s.spec xs h.term) (sym letters) h.shown.spelled))
        (subst (λ (x : Sourced). (head h.term).bytes ≡ name_of x.spec (Symbol k)) (sym same) (h.called ∙ sym (name_at (symbols s.spec) k d at))));
  },
  subst (λ xs. length xs ≤ 200) h.shown.shown short,
  ap (λ (n : ℕ). let f : Found = record { at = n; end = g.end; shown = g.text.items; kind = NotCovered } in f) h.placed
      ∙ ap (λ (n : ℕ). let f : Found = record { at = d.name.at; end = n; shown = g.text.items; kind = NotCovered } in f) h.ended
      ∙ ap (found_on NotCovered d.name) h.shown.shown,
)

-- one term more on a stack
pub ground_pushed : (y : Spec) (n : ℕ) (old cut new : List Ground) (g : Ground) → cut ≡ take n old → new ≡ cut ++ g ∷ [] → IsGroundOf y g
    → All (IsGroundOf y) old → All (IsGroundOf y) new
ground_pushed y n old cut new g e f own all =
    subst (All (IsGroundOf y)) (sym (f ∙ ap (λ gs. gs ++ g ∷ []) e)) (All-push (IsGroundOf y) (take n old) g (All-take (IsGroundOf y) n old all) own)

-- an operator of which an example is shown, and one of which none is
pub shown_turn : (y : Spec) (k : ℕ) (us : List Found) (e : Diagnostic) → length y.constructors ≤ k → IsExampleOf y k e
    → ShowCalls y (take (k - length y.constructors) y.operators) us → ShowCalls y (take (k + 1 - length y.constructors) y.operators) (us ++ as_diagnostic e ∷ [])
shown_turn y k us e low h before =
    let i = k - length y.constructors in
    let at = at_behind y.constructors y.operators i k h.declaration (omega (arith, low)) h.at in
    subst (λ (n : ℕ). ShowCalls y (take n y.operators) (us ++ as_diagnostic e ∷ [])) (omega (arith, low))
    (show_one y i h.declaration us (as_diagnostic e) at h.shows before)

pub unshown_turn : (y : Spec) (k : ℕ) (us : List Found) → length y.constructors ≤ k → k < length (symbols y)
    → ShowCalls y (take (k - length y.constructors) y.operators) us → ShowCalls y (take (k + 1 - length y.constructors) y.operators) us
unshown_turn y k us low lt before =
    let both = length-append y.constructors y.operators in
    subst (λ (n : ℕ). ShowCalls y (take n y.operators) us) (omega (arith, low))
    (show_nothing y (k - length y.constructors) us (omega (arith, low, lt, both)) before)

pub shown_all : (y : Spec) (k : ℕ) (us : List Found) → length (symbols y) ≤ k → ShowCalls y (take (k - length y.constructors) y.operators) us
    → ShowCalls y y.operators us
shown_all y k us past h =
    let both = length-append y.constructors y.operators in
    subst (λ (ds : List Declaration). ShowCalls y ds us) (take_all (k - length y.constructors) y.operators (omega (arith, past, both))) h

-- ---- symbols of which ground terms are made

pub filled_bools : (a b c a' b' c' : Bool) → a ≡ a' → b ≡ b' → c ≡ c' → (not a && (b || c)) ≡ (not a' && (b' || c'))
filled_bools a b c a' b' c' e f g = ap (λ (x : Bool). not x && (b || c)) e ∙ ap (λ (x : Bool). not a' && (x || c)) f
    ∙ ap (λ (x : Bool). not a' && (b' || x)) g
