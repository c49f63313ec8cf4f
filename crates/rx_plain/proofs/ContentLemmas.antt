-- The content follows from the slots.
use Rattle.std.proofs.Common.{List, [], length, ◌≡◌, refl, sym, ap, subst, arith}
use Rattle.std.specs.FinMap as map
use Rattle.rx_term.specs.Tree.{Tree}
use Rattle.rx_term.specs.Heap.{Table, Least, Least-prop, is_whole, content_of, content_by}
use Rattle.std.specs.Ordering.{nat_cmp}
use Rattle.rx_plain.specs.declared.slots.Slot.{Slot}
use Rattle.rx_plain.specs.Slots.{heap_of}

-- the content follows from the slots
pub same-content : (m : Table) (xs ys : List Slot) → ys ≡ xs
    → (p : Least (is_whole (heap_of xs) m (length xs))) (q : Least (is_whole (heap_of ys) m (length ys)))
    → content_by (heap_of ys) m (length ys) q ≡ content_by (heap_of xs) m (length xs) p
unfolding content_by
same-content m xs ys e p = subst (λ zs. (q : Least (is_whole (heap_of zs) m (length zs)))
    → content_of (heap_of zs) m (length zs) q.0 ≡ content_of (heap_of xs) m (length xs) p.0) (sym e) (λ q.
    ap (λ (l : Least (is_whole (heap_of xs) m (length xs))). content_of (heap_of xs) m (length xs) l.0) (Least-prop (is_whole (heap_of xs) m (length xs)) q p))

pub same-whole : (m : Table) (xs ys : List Slot) → ys ≡ xs → Least (is_whole (heap_of xs) m (length xs)) → Least (is_whole (heap_of ys) m (length ys))
same-whole m xs ys e = subst (λ zs. Least (is_whole (heap_of zs) m (length zs))) (sym e)

pub empty-whole : (m : Table) → Least (is_whole (heap_of []) m 0)
empty-whole m = (0, record { passes = refl; none_below = λ k lt. absurd (omega arith) })

pub empty-len : (m : Table) → map.len (content_by (heap_of []) m 0 (empty-whole m)) ≡ 0
unfolding content_by empty-whole
empty-len m = map.len-empty nat_cmp Tree

-- no slots, no trees
pub empty-content : (m : Table) (xs : List Slot) → xs ≡ [] → (w : Least (is_whole (heap_of xs) m (length xs)))
    → content_by (heap_of xs) m (length xs) w ≡ map.empty
unfolding content_by
empty-content m xs e = subst (λ zs. (w : Least (is_whole (heap_of zs) m (length zs))) → content_of (heap_of zs) m (length zs) w.0 ≡ map.empty) (sym e)
    (λ w. refl)
