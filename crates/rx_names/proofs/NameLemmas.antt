-- A table of names as a map of symbols.
use Rattle.std.proofs.Common.{ℕ, zero, suc, ◌≡◌, ◌≢◌, Bool, true, false, not, ◌&&◌, List, [], ◌∷◌, ◌++◌, length, Option, Some, None}
use Rattle.std.proofs.Common.{IsSome, is_some, refl, sym, ap, ◌∙◌, subst, inl, inr, arith, slice_get, nat_eq}
use Rattle.std.specs.Prelude.{Decides, MatchOption, Result, Ok, Err}
use Rattle.std.specs.Ordering.{nat_cmp}
use Rattle.rx_names.specs.declared.faults.NamesFault.{NamesFault}
use Rattle.std.specs.Bool.{beq}
use Rattle.std.specs.Option.{option_and_then, option_map}
use Rattle.std.specs.FinMap as map
use Rattle.std.specs.Cmp.{booleans_Decides}
use Rattle.std.specs.Cmp.Derive.{both_true}
use Rattle.std.proofs.lemmas.Bool.Decides.{eqb_tells, Decides-eqb}
use Rattle.rx_term.proofs.TreeLemmas.{both_parts}
use Rattle.std.proofs.lemmas.Option.{slice_get_past}
use Rattle.rx_term.specs.Name.{Signature, is_allowed}
use Rattle.rx_term.specs.Heap.{IsTable, tabulate, put_some}
use Rattle.rx_term.specs.declared.Symbol.{Symbol}
use Rattle.rx_term.proofs.HeapLemmas.{lt_or_le, get-tabulate, past-tabulate}
use Rattle.rx_term.proofs.StoreLemmas.{some-value}
use Rattle.rx_names.specs.Places.{AreApart, KeepsPlaces}
use Rattle.rx_names.specs.Words.{words_of}
use Rattle.rx_names.specs.Entries.{signature_in, signature_at, symbols_from, is_allowed_word, AllAllowed}
use Rattle.rx_names.specs.Names.{symbols_of, Interns, InternsOrRefuses, FindsOrLacks}
use Rattle.rx_names.specs.declared.names.Entry.{Entry}
use Rattle.rx_names.specs.declared.names.Names.{Names}
use Rattle.rx_names.proofs.PlaceLemmas.{Placed, push-cases}

pub symbols-at : (ws : List (List ℕ)) (es : List Entry) (i : ℕ) → map.get (symbols_from ws es) i ≡ signature_at ws es i
symbols-at ws es i = elim (lt_or_le i (length es)) [
  | inl lt ↦ get-tabulate (length es) i (signature_at ws es) lt
  | inr le ↦ past-tabulate (length es) i (signature_at ws es) le ∙ sym (ap (option_and_then (signature_in ws)) (slice_get_past es i le))
]

-- what a symbol represents is that of its entry's word
pub record Stands (ws : List (List ℕ)) (es : List Entry) (s : ℕ) (g : Signature) : Type 0 where
  pub entry : Entry
  pub at : slice_get es s ≡ Some entry
  pub word : slice_get ws entry.word ≡ Some g.name
  pub quoted : entry.quoted ≡ g.quoted
  pub arity : entry.arity ≡ g.arity

pub stands : (ws : List (List ℕ)) (es : List Entry) (s : ℕ) (g : Signature) → map.get (symbols_from ws es) s ≡ Some g → Stands ws es s g
stands ws es s g e = by_entry (slice_get es s) refl (sym (symbols-at ws es s) ∙ e) where
  by_word : (x : Entry) → slice_get es s ≡ Some x → (o : Option (List ℕ)) → slice_get ws x.word ≡ o
      → option_map (λ w. let g : Signature = record { name = w; quoted = x.quoted; arity = x.arity } in g) o ≡ Some g → Stands ws es s g
  by_word x q None p e = cc
  by_word x q (Some w) p e =
      let same : (let h : Signature = record { name = w; quoted = x.quoted; arity = x.arity } in h) ≡ g = cc in
      record { entry = x; at = q; word = p ∙ ap (λ h. Some h.name) same; quoted = ap (λ h. h.quoted) same; arity = ap (λ h. h.arity) same }

  by_entry : (o : Option Entry) → slice_get es s ≡ o → option_and_then (signature_in ws) o ≡ Some g → Stands ws es s g
  by_entry None q e = cc
  by_entry (Some x) q e = by_word x q (slice_get ws x.word) refl e

same_entry : (e f : Entry) → e.word ≡ f.word → e.quoted ≡ f.quoted → e.arity ≡ f.arity → e ≡ f
same_entry e f p q r i = record { word = p i; quoted = q i; arity = r i }

-- no two symbols represent the same, and each name is valid
pub table : (n : Names) → IsTable (λ s. map.get (symbols_of n) s)
table n = record {
  apart = λ s t g a b. (
      let x = stands (words_of n.words) n.entries.keys s g a in
      let y = stands (words_of n.words) n.entries.keys t g b in
      let same : x.entry ≡ y.entry = same_entry x.entry y.entry (n.words.apart x.entry.word y.entry.word g.name x.word y.word)
      (x.quoted ∙ sym y.quoted) (x.arity ∙ sym y.arity) in
      n.apart s t x.entry x.at (y.at ∙ ap (λ z. Some z) (sym same)));
  valid = λ s g a. (
      let x = stands (words_of n.words) n.entries.keys s g a in
      let ok : is_allowed g.name x.entry.quoted ≡ true = subst (λ o. is_allowed_word o x.entry.quoted ≡ true) x.word (n.allowed s x.entry x.at) in
      both_true (n.words.bytes x.entry.word g.name x.word) (subst (λ q. is_allowed g.name q ≡ true) x.quoted ok));
}

tabulate-same : {X : Type 0} (len : ℕ) (f g : ℕ → Option X) → ((i : ℕ) → f i ≡ g i) → tabulate len f ≡ tabulate len g
tabulate-same zero f g each = refl
tabulate-same (suc k) f g each = λ i. put_some (tabulate-same k f g each i) k (each k i)

-- more words: each entry represents the same
module _ (ws vs : List (List ℕ)) (es : List Entry) (kept : KeepsPlaces ws vs) (allowed : AllAllowed ws es) where
  pub kept-allowed : AllAllowed vs es
  kept-allowed i e at = by_word (slice_get ws e.word) refl (allowed i e at) where
    by_word : (o : Option (List ℕ)) → slice_get ws e.word ≡ o → is_allowed_word o e.quoted ≡ true → is_allowed_word (slice_get vs e.word) e.quoted ≡ true
    by_word None q h = cc
    by_word (Some w) q h = rw (kept e.word w q) h

  kept-at : (i : ℕ) → signature_at vs es i ≡ signature_at ws es i
  kept-at i = by_entry (slice_get es i) refl where
    by_word : (e : Entry) (o : Option (List ℕ)) → slice_get ws e.word ≡ o → is_allowed_word o e.quoted ≡ true → signature_in vs e ≡ signature_in ws e
    by_word e None q h = cc
    by_word e (Some w) q h = rw (kept e.word w q, q) refl

    by_entry : (o : Option Entry) → slice_get es i ≡ o → option_and_then (signature_in vs) (slice_get es i) ≡ option_and_then (signature_in ws) (slice_get es i)
    by_entry None q = rw q refl
    by_entry (Some e) q = rw q (by_word e (slice_get ws e.word) refl (allowed i e q))

  pub kept-symbols : symbols_from vs es ≡ symbols_from ws es
  kept-symbols = tabulate-same (length es) (signature_at vs es) (signature_at ws es) kept-at

pub Placed-allowed : (ws : List (List ℕ)) (es new : List Entry) (e : Entry) → Placed es new e → AllAllowed ws es
    → is_allowed_word (slice_get ws e.word) e.quoted ≡ true → AllAllowed ws new
Placed-allowed ws es new e placed allowed ok = elim placed [
  | inl q ↦ subst (AllAllowed ws) (sym q) allowed
  | inr q ↦ subst (AllAllowed ws) (sym q.1) (λ i f at. elim (push-cases es e i f at) [
    | inl p ↦ allowed i f p
    | inr p ↦ subst (λ x. is_allowed_word (slice_get ws x.word) x.quoted ≡ true) p.1 ok
  ])
]

push-other : (es : List Entry) (e : Entry) (t : ℕ) → t ≢ length es → slice_get (es ++ e ∷ []) t ≡ slice_get es t
push-other [] e zero ne = absurd (ne refl)
push-other [] e (suc t) ne = refl
push-other (x ∷ xs) e zero ne = refl
push-other (x ∷ xs) e (suc t) ne = push-other xs e t (λ q. ne (omega (arith, q)))

pub says-entry : (ws : List (List ℕ)) (e : Entry) (g : Signature) → slice_get ws e.word ≡ Some g.name → e.quoted ≡ g.quoted → e.arity ≡ g.arity
    → signature_in ws e ≡ Some g
says-entry ws e g p q r = rw p (ap (λ z. Some z) (λ i. let h : Signature = record { name = g.name; quoted = q i; arity = r i } in h))

-- two flags that are not told apart
pub same_flag : (x y : Bool) → not (beq x y) ≡ false → x ≡ y
same_flag true true h = refl
same_flag true false h = cc
same_flag false true h = cc
same_flag false false h = refl

-- what an entry that was read says of its place
pub entry_there : (n : Names) (place : ℕ) (e : Entry) (read : List Entry) → read ≡ n.entries.keys → slice_get read place ≡ Some e
    → slice_get n.entries.keys place ≡ Some e
entry_there n place e read same at = ap (λ es. slice_get es place) (sym same) ∙ at

-- an entry's word is there
pub allowed_there : (o : Option (List ℕ)) (quoted : Bool) → is_allowed_word o quoted ≡ true → IsSome o
allowed_there None quoted h = cc
allowed_there (Some w) quoted h = refl

-- a symbol that represents a signature already is the one that taking it in gives
pub Interns-there : (n : Names) (s : Symbol) (g : Signature) → map.get (symbols_of n) s.0 ≡ Some g → Interns (symbols_of n) (symbols_of n) g s
Interns-there n s g here = record {
  added = here;
  only = λ t held. (table n).apart t s.0 g held here;
  others = λ t ne. refl;
  there = λ held. refl;
}

-- an entry put in, or found
module _ (ws : List (List ℕ)) (es new : List Entry) (e : Entry) (place : ℕ) (placed : Placed es new e) (at : slice_get new place ≡ Some e) where
  at-end : (((i : ℕ) → slice_get es i ≢ Some e) × (new ≡ es ++ e ∷ [])) → place ≡ length es
  at-end q = elim (push-cases es e place e (subst (λ zs. slice_get zs place ≡ Some e) q.1 at)) [ inl p ↦ absurd (q.0 place p) | inr p ↦ p.0 ]

  others-placed : (t : ℕ) → t ≢ place → slice_get new t ≡ slice_get es t
  others-placed t ne = elim placed [
    | inl q ↦ ap (λ zs. slice_get zs t) q
    | inr q ↦ ap (λ zs. slice_get zs t) q.1 ∙ push-other es e t (λ p. ne (p ∙ sym (at-end q)))
  ]

  there-placed : IsSome (map.get (symbols_from ws es) place) → new ≡ es
  there-placed held = elim placed [
    | inl q ↦ q
    | inr q ↦ absurd (
        let past : slice_get es place ≡ None = slice_get_past es place (let p = at-end q in omega arith) in
        let lost : map.get (symbols_from ws es) place ≡ None = symbols-at ws es place ∙ ap (option_and_then (signature_in ws)) past in
        let z : ⊥ = cc in z)
  ]

  -- with words and entries apart, another symbol of the signature has the same entry
  only-placed : (g : Signature) → AreApart ws → AreApart new → Stands ws new place g → (t : ℕ) → map.get (symbols_from ws new) t ≡ Some g → t ≡ place
  only-placed g words entries here t held =
      let there = stands ws new t g held in
      let same : there.entry ≡ here.entry = same_entry there.entry here.entry (words there.entry.word here.entry.word g.name there.word here.word)
      (there.quoted ∙ sym here.quoted) (there.arity ∙ sym here.arity) in
      entries t place there.entry there.at (here.at ∙ ap (λ z. Some z) (sym same))

  pub Interns-placed : (g : Signature) → AreApart ws → AreApart new → slice_get ws e.word ≡ Some g.name → e.quoted ≡ g.quoted → e.arity ≡ g.arity
      → Interns (symbols_from ws es) (symbols_from ws new) g (record { 0 = place })
  Interns-placed g words entries word quoted arity = record {
    added = symbols-at ws new place ∙ ap (option_and_then (signature_in ws)) at ∙ says-entry ws e g word quoted arity;
    only = only-placed g words entries (record { entry = e; at = at; word = word; quoted = quoted; arity = arity });
    others = λ t ne. symbols-at ws new t ∙ ap (option_and_then (signature_in ws)) (others-placed t ne) ∙ sym (symbols-at ws es t);
    there = λ held. ap (symbols_from ws) (there-placed held);
  }

-- the test of entries is exact
pub entry_eq-Decides : (e f : Entry) → Decides (nat_eq e.word f.word && (beq e.quoted f.quoted && nat_eq e.arity f.arity)) (e ≡ f)
entry_eq-Decides e f = (
  λ h. (
      let p = both_parts (nat_eq e.word f.word) (beq e.quoted f.quoted && nat_eq e.arity f.arity) h in
      let q = both_parts (beq e.quoted f.quoted) (nat_eq e.arity f.arity) p.1 in
      same_entry e f ((Decides-eqb e.word f.word).0 p.0) ((booleans_Decides e.quoted f.quoted).0 q.0) ((Decides-eqb e.arity f.arity).0 q.1)),
  λ h. both_true ((Decides-eqb e.word f.word).1 (ap (λ x. x.word) h))
      (both_true ((booleans_Decides e.quoted f.quoted).1 (ap (λ x. x.quoted) h)) ((Decides-eqb e.arity f.arity).1 (ap (λ x. x.arity) h))),
)

module _ (n : Names) (g : Signature) where
  -- a name that is no word is no symbol's
  pub lacks-word : ((i : ℕ) → slice_get (words_of n.words) i ≢ Some g.name) → (s : Symbol) → map.get (symbols_of n) s.0 ≢ Some g
  lacks-word nowhere s e = let x = stands (words_of n.words) n.entries.keys s.0 g e in nowhere x.entry.word x.word

  module _ (e : Entry) (word : slice_get (words_of n.words) e.word ≡ Some g.name) (quoted : e.quoted ≡ g.quoted) (arity : e.arity ≡ g.arity) where
    -- a signature whose entry is not there is no symbol's
    pub lacks-entry : ((i : ℕ) → slice_get n.entries.keys i ≢ Some e) → (s : Symbol) → map.get (symbols_of n) s.0 ≢ Some g
    lacks-entry nowhere s q =
        let x = stands (words_of n.words) n.entries.keys s.0 g q in
        let same : x.entry ≡ e = same_entry x.entry e (n.words.apart x.entry.word e.word g.name x.word word) (x.quoted ∙ sym quoted) (x.arity ∙ sym arity) in
        nowhere s.0 (x.at ∙ ap (λ z. Some z) same)

    pub has-entry : (s : Symbol) → slice_get n.entries.keys s.0 ≡ Some e → map.get (symbols_of n) s.0 ≡ Some g
    has-entry s at = symbols-at (words_of n.words) n.entries.keys s.0 ∙ ap (option_and_then (signature_in (words_of n.words))) at
        ∙ says-entry (words_of n.words) e g word quoted arity

-- what the entry that was read says of its symbol
pub the-entry : (n : Names) (s : ℕ) (e : Entry) (read : List Entry) → IsSome (map.get (symbols_of n) s) → read ≡ n.entries.keys
    → slice_get read s ≡ Some e → (w : List ℕ) × ((slice_get (words_of n.words) e.word ≡ Some w)
    × ((v : List ℕ) → slice_get (words_of n.words) e.word ≡ Some v → map.get (symbols_of n) s ≡ Some (record { name = v; quoted = e.quoted; arity = e.arity })))
the-entry n s e read held same at =
    let g = some-value (map.get (symbols_of n) s) held in
    let x = stands (words_of n.words) n.entries.keys s g.0 g.1 in
    let here : slice_get n.entries.keys s ≡ Some e = ap (λ es. slice_get es s) (sym same) ∙ at in
    let one : x.entry ≡ e = (let a = x.at in cc) in (
      g.0.name,
      (
        ap (λ y. slice_get (words_of n.words) y.word) (sym one) ∙ x.word,
        λ v p. (
            let h : Signature = record { name = v; quoted = e.quoted; arity = e.arity } in
            has-entry n h e p refl refl (record { 0 = s }) here),
      ),
    )

-- what the search for an entry says of its signature
pub found-or-lacks : (n : Names) (g : Signature) (e : Entry) → slice_get (words_of n.words) e.word ≡ Some g.name → e.quoted ≡ g.quoted
    → e.arity ≡ g.arity → (r : Option Symbol) → MatchOption r ((i : ℕ) → slice_get n.entries.keys i ≢ Some e) (λ s.
    slice_get n.entries.keys s.0 ≡ Some e) → FindsOrLacks (symbols_of n) g r
found-or-lacks n g e word quoted arity None m = lacks-entry n g e word quoted arity m
found-or-lacks n g e word quoted arity (Some s) m = has-entry n g e word quoted arity s m

-- taking in a name keeps what each symbol represents
pub kept-Interns : {old new : map.FinMap nat_cmp Signature} {g : Signature} {s : Symbol} → Interns old new g s → (t : ℕ) (d : Signature)
    → map.get old t ≡ Some d → map.get new t ≡ Some d
kept-Interns {old = old} {s = s} m t d h = elim (eqb_tells t s.0) [
  | inl p ↦ (let there : IsSome (map.get old s.0) = ap is_some (subst (λ k. map.get old k ≡ Some d) p.1 h) in ap (λ n. map.get n t) (m.there there) ∙ h)
  | inr p ↦ m.others t p.1 ∙ h
]

pub kept-interned : (old new : map.FinMap nat_cmp Signature) (g : Signature) (x : Result Symbol NamesFault) → InternsOrRefuses old new g x
    → (t : ℕ) (d : Signature) → map.get old t ≡ Some d → map.get new t ≡ Some d
kept-interned old new g (Ok s) m t d h = kept-Interns m t d h
kept-interned old new g (Err e) m t d h = ap (λ n. map.get n t) m ∙ h
