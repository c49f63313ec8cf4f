-- Steps of the loops over the parts.
use Rattle.std.proofs.Common.{◌≡◌, ℕ, zero, suc, ◌+◌, ◌-◌, ◌<◌, ◌≤◌, List, [], ◌∷◌, ◌++◌, refl, sym, ap, subst, ◌∙◌, take, map, length}
use Rattle.std.proofs.Common.{arith, get_or, take-add, append-nil}
use Rattle.std.proofs.lemmas.List.{get_or-map, length-map, map-append, map_more, take-map}
use Rattle.std.proofs.lemmas.List.Concat.{flat_map-append}
use Rattle.std.specs.Prelude.{flat_map, slice_range}
use Rattle.rec_syntax.specs.Syntax.{Sourced, Spec}
use Rattle.rec_syntax.specs.Grammar.{SpecText}
use Rattle.rec_join.specs.Inner.Nodes.{specs_of}
use Rattle.rec_syntax.specs.Answer.{IsPlaced}
use Rattle.rec_syntax.specs.Place.{IsFaultPlace}
use Rattle.rec_syntax.specs.declared.fault.SyntaxFault.{SyntaxFault}
use Rattle.rec_syntax.specs.declared.fault.SyntaxFault.TheVariants.{Grammar}
use Rattle.rec_join.specs.Join.{AreSpelled, IsCopied, IsFirst, last_name, texts_of}
use Rattle.rec_join.specs.declared.layout.Piece.{Piece}
use Rattle.rec_join.specs.declared.join.Part.{Part}

-- the sections of one more part
flat_more : {Y : Type 0} (f : Spec → List Y) (parts : List Sourced) (i : ℕ) (d : Sourced) → i < length parts
    → flat_map f (specs_of (take i parts)) ++ f (get_or parts i d).spec ≡ flat_map f (specs_of (take (i + 1) parts))
flat_more f parts i d lt =
    sym (ap (flat_map f) (map_more (λ (s : Sourced). s.spec) parts i d lt)
    ∙ flat_map-append f (specs_of (take i parts)) ((get_or parts i d).spec ∷ [])
    ∙ ap (λ zs. flat_map f (specs_of (take i parts)) ++ zs) (append-nil (f (get_or parts i d).spec)))

-- one more part agrees with the items that follow
pub agree_more : {X Y Z : Type 0} (w : X → Y) (u : Y → Z) (f : Spec → List Y) (all : List X) (parts : List Sourced)
    (from to i : ℕ) (d : Sourced) → map u (map w (take from all)) ≡ map u (flat_map f (specs_of (take i parts)))
    → map u (map w (slice_range all from to)) ≡ map u (f (get_or parts i d).spec) → from ≤ to → i < length parts
    → map u (map w (take to all)) ≡ map u (flat_map f (specs_of (take (i + 1) parts)))
agree_more w u f all parts from to i d before here le lt =
    let long : to ≡ from + (to - from) = omega arith in
    ap (λ (n : ℕ). map u (map w (take n all))) long
    ∙ ap (λ xs. map u (map w xs)) (take-add from (to - from) all)
    ∙ ap (map u) (map-append w (take from all) (slice_range all from to))
    ∙ map-append u (map w (take from all)) (map w (slice_range all from to))
    ∙ ap (λ zs. zs ++ map u (map w (slice_range all from to))) before
    ∙ ap (λ zs. map u (flat_map f (specs_of (take i parts))) ++ zs) here
    ∙ sym (map-append u (flat_map f (specs_of (take i parts))) (f (get_or parts i d).spec))
    ∙ ap (map u) (flat_more f parts i d lt)

-- one more text with its specification
spelled_more : (texts : List (List ℕ)) (ys : List Spec) (text : List ℕ) (y : Spec) → AreSpelled texts ys → SpecText text y
    → AreSpelled (texts ++ text ∷ []) (ys ++ y ∷ [])
spelled_more [] [] text y h k = (k, tt)
spelled_more [] (z ∷ ys) text y h k = absurd h
spelled_more (t ∷ texts) [] text y h k = absurd h
spelled_more (t ∷ texts) (z ∷ ys) text y h k = (h.0, spelled_more texts ys text y h.1 k)

-- one more part is read
pub read_more : (parts : List Part) (ss : List Sourced) (i : ℕ) (d : Part) (s : Sourced)
    → AreSpelled (texts_of (take i parts)) (specs_of ss) → SpecText (get_or parts i d).text.now s.spec → i < length parts
    → AreSpelled (texts_of (take (i + 1) parts)) (specs_of (ss ++ s ∷ []))
read_more parts ss i d s h k lt =
    let t = map_more (λ (p : Part). p.text.now) parts i d lt in
    let y = map-append (λ (s : Sourced). s.spec) ss (s ∷ []) in
    rw (t, y) (spelled_more (texts_of (take i parts)) (specs_of ss) (get_or parts i d).text.now s.spec h k)

-- the first part that has no specification
pub first_fault : (P : List ℕ → Type 0) (parts : List Part) (ss : List Sourced) (i : ℕ) (d : Part)
    → AreSpelled (texts_of (take i parts)) (specs_of ss) → P (get_or parts i d).text.now → i < length parts
    → IsFirst (texts_of parts) i P
first_fault P parts ss i d h k lt = record {
  known = rw (length-map parts (λ (p : Part). p.text.now)) lt;
  before = (specs_of ss, subst (λ texts. AreSpelled texts (specs_of ss)) (sym (take-map (λ (p : Part). p.text.now) i parts)) h);
  here = subst P (sym (get_or-map (λ (p : Part). p.text.now) parts i d [] lt)) k;
}

-- the name of the last part
pub last_is : (parts : List Sourced) (i : ℕ) (d : Sourced) → i + 1 ≡ length parts
    → last_name (specs_of parts) ≡ (get_or parts i d).spec.name
last_is [] i d e = absurd (omega (arith, e))
last_is (s ∷ []) zero d e = refl
last_is (s ∷ []) (suc i) d e = absurd (omega (arith, e))
last_is (s ∷ t ∷ parts) zero d e = absurd (omega (arith, e))
last_is (s ∷ t ∷ parts) (suc i) d e = last_is (t ∷ parts) i d (omega (arith, e))

-- a piece whose bytes are those of its part
pub copied : (parts : List Part) (whole : List ℕ) (p : Piece) (d : Part) → p.part < length parts
    → p.at + p.length ≤ length whole → p.from + p.length ≤ length (get_or parts p.part d).text.now
    → slice_range whole p.at (p.at + p.length) ≡ slice_range (get_or parts p.part d).text.now p.from (p.from + p.length)
    → IsCopied (texts_of parts) whole p
copied parts whole p d lt within inside same =
    let text = sym (get_or-map (λ (q : Part). q.text.now) parts p.part d [] lt) in
    record {
      known = rw (length-map parts (λ (q : Part). q.text.now)) lt;
      within = within;
      inside = subst (λ (t : List ℕ). p.from + p.length ≤ length t) text inside;
      same = subst (λ (t : List ℕ). slice_range whole p.at (p.at + p.length) ≡ slice_range t p.from (p.from + p.length)) text same;
    }

-- the offset of an error of the grammar
pub placed_at : (text : List ℕ) (f : SyntaxFault) (at k : ℕ) → f ≡ Grammar at → k ≡ at → IsPlaced text f → IsFaultPlace text k
placed_at text f at k e d p = subst (IsFaultPlace text) (sym d) (subst (IsPlaced text) e p)
