-- Slots that are written one by one: one more of them, and what a sweep leaves.
use Rattle.std.proofs.Common.{List, [], ◌∷◌, ◌++◌, length, take, drop, get_or, map, ℕ, suc, zero, ◌≡◌}
use Rattle.std.proofs.Common.{◌+◌, ◌<◌, Bool, true, false, None, refl, sym, ap, ◌∙◌, arith, add-one}
use Rattle.std.specs.Prelude.{slice_set, if◌then◌else◌}
use Rattle.rx_term.specs.Heap.{kept_slots}
use Rattle.rx_plain.specs.Slots.{swept_by, swept_of, heap_of, roots_of, marks_of, cell_in}
use Rattle.rx_plain.specs.declared.slots.Slot.{Slot}

-- the slots while the first i are rewritten
abbrev pub partly : (Slot → Slot) → List Slot → ℕ → List Slot
partly f xs i = map f (take i xs) ++ drop i xs

set-partly : (f : Slot → Slot) (xs : List Slot) (i : ℕ) (d : Slot) → i < length xs → slice_set (partly f xs i) i (f (get_or xs i d)) ≡ partly f xs (suc i)
set-partly f [] i d lt = absurd (omega arith)
set-partly f (x ∷ xs) zero d lt = refl
set-partly f (x ∷ xs) (suc i) d lt = ap (λ ys. f x ∷ ys) (set-partly f xs i d (omega arith))

get-partly : (f : Slot → Slot) (xs : List Slot) (i : ℕ) (d : Slot) → i < length xs → get_or (partly f xs i) i d ≡ get_or xs i d
get-partly f [] i d lt = absurd (omega arith)
get-partly f (x ∷ xs) zero d lt = refl
get-partly f (x ∷ xs) (suc i) d lt = get-partly f xs i d (omega arith)

-- one turn: the slot at i is rewritten
pub rewrite-turn : (f : Slot → Slot) (xs now : List Slot) (i : ℕ) (s d : Slot) → now ≡ partly f xs i → i < length xs → s ≡ f (get_or now i d)
    → slice_set now i s ≡ partly f xs (i + 1)
rewrite-turn f xs now i s d e lt read =
    let same : s ≡ f (get_or xs i d) = read ∙ ap (λ ys. f (get_or ys i d)) e ∙ ap f (get-partly f xs i d lt) in
    ap (λ ys. slice_set ys i s) e ∙ ap (slice_set (partly f xs i) i) same ∙ set-partly f xs i d lt ∙ ap (partly f xs) (sym (add-one i))

swept-cell : (b : Bool) (s : Slot) → cell_in (swept_by b s).body ≡ (if b then cell_in s.body else None)
swept-cell true s = refl
swept-cell false s = refl

swept-count : (b : Bool) (s : Slot) → (swept_by b s).roots ≡ (if b then s.roots else 0)
swept-count true s = refl
swept-count false s = refl

-- a sweep leaves the marked slots' cells and counts, and no others
pub swept-heap : (xs : List Slot) (t : ℕ) → heap_of (map swept_of xs) t ≡ kept_slots (marks_of xs) (heap_of xs) t
swept-heap [] t = refl
swept-heap (x ∷ xs) zero = swept-cell x.mark x
swept-heap (x ∷ xs) (suc t) = swept-heap xs t

pub swept-roots : (xs : List Slot) (t : ℕ) → roots_of (map swept_of xs) t ≡ (if marks_of xs t then roots_of xs t else 0)
swept-roots [] t = refl
swept-roots (x ∷ xs) zero = swept-count x.mark x
swept-roots (x ∷ xs) (suc t) = swept-roots xs t

pub swept-length : (xs : List Slot) → length (map swept_of xs) ≡ length xs
swept-length [] = refl
swept-length (x ∷ xs) = ap suc (swept-length xs)
