-- Marks: one more, those of several slots, and all that is linked.
use Rattle.std.proofs.Common.{List, [], ◌∷◌, ◌++◌, length, get_or, map, take, ℕ, zero, suc, ◌≡◌, ◌+◌, ◌≤◌, ◌<◌, Bool, true, false, Option}
use Rattle.std.proofs.Common.{Some, None, refl, sym, ap, ◌∙◌, subst, inl, inr, arith, slice_get, Contains, nat_lt, add-one, not}
use Rattle.std.specs.Prelude.{slice_set, if◌then◌else◌}
use Rattle.std.proofs.lemmas.Bool.{ltb-true, lt-ltb}
use Rattle.std.proofs.lemmas.Bool.Decides.{eqb_tells}
use Rattle.std.proofs.lemmas.List.Elements.{Contains-append_left, Contains-append_right, Contains-append_cases}
use Rattle.rx_term.specs.Heap.{Cell, links, IsLinked, start, along}
use Rattle.rx_term.proofs.PartsLemmas.{cons_head, cons_tail, cons_cases, no_element}
use Rattle.rx_term.proofs.ReclaimLemmas.{IsLinked-trans}
use Rattle.rx_term.proofs.HeapLemmas.{lt_or_le}
use Rattle.rx_term.specs.declared.Term.{Term}
use Rattle.rx_plain.specs.Slots.{heap_of, roots_of, marks_of, mark_in, cell_at, cell_in, cell_of}
use Rattle.rx_plain.specs.Marks.{unmarked, count_unless, Keeps, Marks, Fresh, cell_links, links_below, AreLinksWithin, IsMarkClosedAt}
use Rattle.rx_plain.specs.Marks.{MarksAreClosed, OnlyLinked, Progress, Passes, Spreads, IsStart, Reaches, root_marked}
use Rattle.rx_plain.specs.declared.slots.Slot.{Slot}
use Rattle.rx_plain.specs.declared.slots.Body.{Body}

count-one : (b : Bool) (n k : ℕ) → n ≡ k + 1 → count_unless b n ≡ count_unless b k + 1
count-one true n k e = e
count-one false n k e = omega (arith, e)

-- a mark more is an unmarked slot less
pub one-fewer : (xs : List Slot) (i : ℕ) (d y : Slot) → i < length xs → (get_or xs i d).mark ≡ false → y.mark ≡ true
    → unmarked xs ≡ unmarked (slice_set xs i y) + 1
one-fewer [] i d y lt e f = absurd (omega arith)
one-fewer (x ∷ xs) zero d y lt e f = rw (e, f) refl
one-fewer (x ∷ xs) (suc i) d y lt e f = count-one x.mark (unmarked xs) (unmarked (slice_set xs i y)) (one-fewer xs i d y (omega arith) e f)

pub Keeps-refl : (xs : List Slot) → Keeps xs xs
Keeps-refl xs = record { heap = refl; roots = refl; len = refl; grows = λ t e. e }

pub Keeps-trans : {a b c : List Slot} → Keeps a b → Keeps b c → Keeps a c
Keeps-trans p q = record { heap = q.heap ∙ p.heap; roots = q.roots ∙ p.roots; len = q.len ∙ p.len; grows = λ t e. q.grows t (p.grows t e) }

pub Marks-trans : {a b c : List Slot} {is js : List ℕ} → Marks a b is → Marks b c js → Marks a c (is ++ js)
Marks-trans {is = is} {js = js} p q = record {
  keeps = Keeps-trans p.keeps q.keeps;
  all = λ t h. elim (Contains-append_cases is js t h) [ inl k ↦ q.keeps.grows t (p.all t k) | inr k ↦ q.all t k ];
  only = λ t e. elim (q.only t e) [
    | inl k ↦ elim (p.only t k) [ inl l ↦ inl l | inr l ↦ inr (Contains-append_left is js t l) ]
    | inr k ↦ inr (Contains-append_right is js t k)
  ];
}

pub within-after : {a b : List Slot} {is : List ℕ} → Marks a b is → (i : ℕ) → i < length a → i < length b
within-after m i lt = subst (λ n. i < n) (sym m.keeps.len) lt

pub LinksWithin-kept : {a b : List Slot} → Keeps a b → AreLinksWithin a → AreLinksWithin b
LinksWithin-kept {b = b} k within t i x e c = subst (λ n. i < n) (sym k.len) (within t i x (sym (ap (λ h. h t) k.heap) ∙ e) c)

-- what is linked in the slots afterwards was linked before
linked-back : {a b : List Slot} → Keeps a b → OnlyLinked a b → (t : ℕ) → IsLinked (heap_of b) (λ s. marks_of b s ≡ true) t
    → IsLinked (heap_of a) (λ s. marks_of a s ≡ true) t
linked-back {a = a} {b = b} k only t l = IsLinked-trans (λ s e. only s e) (subst (λ h. IsLinked h (λ s. marks_of b s ≡ true) t) k.heap l)

pub OnlyLinked-refl : (xs : List Slot) → OnlyLinked xs xs
OnlyLinked-refl xs t e = start e

pub OnlyLinked-trans : (a b c : List Slot) → Keeps a b → OnlyLinked a b → OnlyLinked b c → OnlyLinked a c
OnlyLinked-trans a b c k p q t e = linked-back k p t (q t e)

-- the links of a marked slot
below-links : (xs : List Slot) (t i : ℕ) → Contains (links_below (slice_get xs t)) i
    → (x : Cell) × (marks_of xs t ≡ true) × (heap_of xs t ≡ Some x) × Contains (links x) i
below-links xs t i h = by_slot (slice_get xs t) refl h where
  by_cell : (o : Option Cell) → Contains (cell_links o) i → (x : Cell) × (o ≡ Some x) × Contains (links x) i
  by_cell None c = absurd (no_element i c)
  by_cell (Some x) c = (x, refl, c)

  by_mark : (s : Slot) → slice_get xs t ≡ Some s → (b : Bool) → s.mark ≡ b → Contains (if b then cell_links (cell_in s.body) else []) i
      → (x : Cell) × (marks_of xs t ≡ true) × (heap_of xs t ≡ Some x) × Contains (links x) i
  by_mark s e true q c = let r = by_cell (cell_in s.body) c in (r.0, ap mark_in e ∙ q, ap cell_at e ∙ r.1, r.2)
  by_mark s e false q c = absurd (no_element i c)

  by_slot : (o : Option Slot) → slice_get xs t ≡ o → Contains (links_below o) i
      → (x : Cell) × (marks_of xs t ≡ true) × (heap_of xs t ≡ Some x) × Contains (links x) i
  by_slot None e c = absurd (no_element i c)
  by_slot (Some s) e c = by_mark s e s.mark refl c

-- and the other way
below-from : (xs : List Slot) (t i : ℕ) (x : Cell) → marks_of xs t ≡ true → heap_of xs t ≡ Some x → Contains (links x) i
    → Contains (links_below (slice_get xs t)) i
below-from xs t i x m e c = by_slot (slice_get xs t) m e where
  by_slot : (o : Option Slot) → mark_in o ≡ true → cell_at o ≡ Some x → Contains (links_below o) i
  by_slot None p q = cc
  by_slot (Some s) p q = rw (p, q) c

-- one slot of a pass: what it names is linked
pub OnlyLinked-below : (xs ys : List Slot) (t : ℕ) → Marks xs ys (links_below (slice_get xs t)) → OnlyLinked xs ys
OnlyLinked-below xs ys t m s e = elim (m.only s e) [
  | inl p ↦ start p
  | inr p ↦ (let r = below-links xs t s p in along (start r.1) r.2 r.3)
]

closed-here : (xs : List Slot) (t : ℕ) → Marks xs xs (links_below (slice_get xs t)) → IsMarkClosedAt xs t
closed-here xs t m i x p e c = m.all i (below-from xs t i x p e c)

closed-until : (xs : List Slot) (k : ℕ) → ((t : ℕ) → t < k → IsMarkClosedAt xs t) → IsMarkClosedAt xs k → (t : ℕ) → t < k + 1 → IsMarkClosedAt xs t
closed-until xs k below here t lt = elim (eqb_tells t k) [
  | inl p ↦ subst (IsMarkClosedAt xs) (sym p.1) here
  | inr p ↦ below t (omega (arith, p.1))
]

fewer-trans : (old now next : List Slot) (below : Bool) → unmarked now < unmarked old → Fresh below now next → unmarked next < unmarked old
fewer-trans old now next true lt f = omega arith
fewer-trans old now next false lt f = subst (λ xs. unmarked xs < unmarked old) (sym f) lt

-- one slot more of a pass
pub Progress-step : (old now next : List Slot) (k : ℕ) (fresh below : Bool) → Progress fresh old now k
    → Marks now next (links_below (slice_get now k)) → Fresh below now next
    → (fresh ≡ true → Progress fresh old next (k + 1)) × (fresh ≡ false → Progress below old next (k + 1))
Progress-step old now next k true below p m f = (λ e. fewer-trans old now next below p f, λ e. cc)
Progress-step old now next k false true p m f = (λ e. cc, λ e. subst (λ xs. unmarked next < unmarked xs) p.0 f)
Progress-step old now next k false false p m f = (
  λ e. cc,
  λ e. (
      let same : next ≡ old = f ∙ p.0 in
      let here : Marks old old (links_below (slice_get old k)) = subst (λ xs. Marks xs xs (links_below (slice_get xs k))) p.0
      (subst (λ xs. Marks now xs (links_below (slice_get now k))) f m) in
      (same, closed-until old k p.1 (closed-here old k here))),
)

-- a cell has its links within the vector from where no slot stands
closed-all : (xs : List Slot) → ((t : ℕ) → t < length xs → IsMarkClosedAt xs t) → MarksAreClosed xs
closed-all xs each t i x m e c = elim (lt_or_le t (length xs)) [
  | inl lt ↦ each t lt i x m e c
  | inr le ↦ absurd (past xs t le e)
] where
  past : (ys : List Slot) (s : ℕ) → length ys ≤ s → heap_of ys s ≡ Some x → ⊥
  past [] s le q = cc
  past (y ∷ ys) zero le q = omega arith
  past (y ∷ ys) (suc s) le q = past ys s (omega arith) q

-- after a pass with no new mark all is closed, otherwise fewer slots are unmarked
pub settled : (old new : List Slot) → Passes old new false → (new ≡ old) × MarksAreClosed new
settled old new p = (p.progress.0, subst MarksAreClosed (sym p.progress.0) (closed-all old p.progress.1))

-- what a slot names, by cases
pub below-marked : (xs : List Slot) (t : ℕ) (s : Slot) (x : Body) → slice_get xs t ≡ Some s → s.mark ≡ true → s.body ≡ Some x
    → links (cell_of x) ≡ links_below (slice_get xs t)
below-marked xs t s x e m b = rw (e, m, b) refl

pub body-links : (xs : List Slot) (t : ℕ) (s : Slot) (x : Body) → AreLinksWithin xs → slice_get xs t ≡ Some s → s.body ≡ Some x → (i : ℕ)
    → Contains (links (cell_of x)) i → i < length xs
body-links xs t s x within e b i c = within t i (cell_of x) (ap cell_at e ∙ ap cell_in b) c

take-suc : (ts : List Term) (k : ℕ) (d : Term) → k < length ts → map (λ t. t.0) (take (suc k) ts) ≡ map (λ t. t.0) (take k ts) ++ (get_or ts k d).0 ∷ []
take-suc [] k d lt = absurd (omega arith)
take-suc (t ∷ ts) zero d lt = refl
take-suc (t ∷ ts) (suc k) d lt = ap (λ is. t.0 ∷ is) (take-suc ts k d (omega arith))

pub take-one : (ts : List Term) (k : ℕ) (d : Term) → k < length ts → map (λ t. t.0) (take (k + 1) ts) ≡ map (λ t. t.0) (take k ts) ++ (get_or ts k d).0 ∷ []
take-one ts k d lt = ap (λ n. map (λ t. t.0) (take n ts)) (add-one k) ∙ take-suc ts k d lt

pub not-false : (b : Bool) → not b ≡ false → b ≡ true
not-false true e = refl
not-false false e = cc

-- roots and those passed in are marked, and then all that they are linked to
pub heap-rooted : (xs : List Slot) → heap_of (map root_marked xs) ≡ heap_of xs
heap-rooted xs = λ j t. at xs t j where
  at : (ys : List Slot) (t : ℕ) → heap_of (map root_marked ys) t ≡ heap_of ys t
  at [] t = refl
  at (y ∷ ys) zero = refl
  at (y ∷ ys) (suc t) = at ys t

roots-rooted : (xs : List Slot) → roots_of (map root_marked xs) ≡ roots_of xs
roots-rooted xs = λ j t. at xs t j where
  at : (ys : List Slot) (t : ℕ) → roots_of (map root_marked ys) t ≡ roots_of ys t
  at [] t = refl
  at (y ∷ ys) zero = refl
  at (y ∷ ys) (suc t) = at ys t

pub length-rooted : (xs : List Slot) → length (map root_marked xs) ≡ length xs
length-rooted [] = refl
length-rooted (x ∷ xs) = ap suc (length-rooted xs)

marks-rooted : (xs : List Slot) (t : ℕ) → marks_of (map root_marked xs) t ≡ nat_lt 0 (roots_of xs t)
marks-rooted [] t = refl
marks-rooted (x ∷ xs) zero = refl
marks-rooted (x ∷ xs) (suc t) = marks-rooted xs t

pub rooted-within : (xs : List Slot) → AreLinksWithin xs → AreLinksWithin (map root_marked xs)
rooted-within xs within t i x e c = subst (λ n. i < n) (sym (length-rooted xs)) (within t i x (sym (ap (λ h. h t) (heap-rooted xs)) ∙ e) c)

in-map : (extra : List Term) (r : Term) → Contains extra r → Contains (map (λ t. t.0) extra) r.0
in-map [] r c = absurd (no_element r c)
in-map (t ∷ ts) r c = elim (cons_cases t ts r c) [
  | inl e ↦ subst (λ s. Contains (t.0 ∷ map (λ t. t.0) ts) s.0) e (cons_head t.0 (map (λ t. t.0) ts))
  | inr q ↦ cons_tail t.0 (map (λ t. t.0) ts) r.0 (in-map ts r q)
]

from-map : (extra : List Term) (i : ℕ) → Contains (map (λ t. t.0) extra) i → (r : Term) × Contains extra r × (r.0 ≡ i)
from-map [] i c = absurd (no_element i c)
from-map (t ∷ ts) i c = elim (cons_cases t.0 (map (λ t. t.0) ts) i c) [
  | inl e ↦ (t, cons_head t ts, e)
  | inr q ↦ (let r = from-map ts i q in (r.0, cons_tail t ts r.0 r.1, r.2))
]

pub Reaches-from : (xs marked new : List Slot) (extra : List Term) → Marks (map root_marked xs) marked (map (λ t. t.0) extra) → Spreads marked new
    → Reaches xs new extra
Reaches-from xs marked new extra m s = record {
  heap = s.keeps.heap ∙ m.keeps.heap ∙ heap-rooted xs;
  roots = s.keeps.roots ∙ m.keeps.roots ∙ roots-rooted xs;
  len = s.keeps.len ∙ m.keeps.len ∙ length-rooted xs;
  started = λ t h. s.keeps.grows t (elim h [
    | inl p ↦ m.keeps.grows t (marks-rooted xs t ∙ lt-ltb 0 (roots_of xs t) p)
    | inr p ↦ m.all t (subst (Contains (map (λ t. t.0) extra)) p.2 (in-map extra p.0 p.1))
  ]);
  closed = s.closed;
  only = λ t e. subst (λ h. IsLinked h (IsStart xs extra) t) (m.keeps.heap ∙ heap-rooted xs) (IsLinked-trans (λ r p. start (from_start r p)) (s.only t e));
} where
  from_start : (r : ℕ) → marks_of marked r ≡ true → IsStart xs extra r
  from_start r p = elim (m.only r p) [
    | inl q ↦ inl (ltb-true 0 (roots_of xs r) (sym (marks-rooted xs r) ∙ q))
    | inr q ↦ inr (from-map extra r q)
  ]
