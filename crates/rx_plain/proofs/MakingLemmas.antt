-- What a body put into a free slot does to a store.
use Rattle.std.proofs.Common.{List, length, ℕ, suc, ◌≡◌, ◌≢◌, ◌+◌, ◌≤◌, ◌<◌, true, Option, Some, None, IsSome, refl, sym, ap, ◌∙◌, arith, vec_capacity}
use Rattle.std.specs.FinMap as map
use Rattle.rx_term.specs.Tree.{Tree}
use Rattle.rx_term.specs.Store.{tree_at}
use Rattle.rx_term.specs.Steps.{Makes, Refuses, FaultFits}
use Rattle.rx_term.specs.Heap.{Cell, Says, Least, IsDistinct, is_whole, content_of, content_by}
use Rattle.rx_term.proofs.HeapLemmas.{says, least, whole-at}
use Rattle.rx_term.proofs.ContentLemmas.{content-at, untaken, len-tabulate-all, holds-cell, absent-tree}
use Rattle.rx_term.proofs.ContentLemmas.{new-whole, new-distinct, new-made, new-others, new-content}
use Rattle.rx_term.proofs.StoreLemmas.{some-value, len-insert-new}
use Rattle.rx_names.specs.Names.{symbols_of}
use Rattle.rx_term.specs.declared.Term.{Term}
use Rattle.rx_term.specs.declared.faults.BankFault.{BankFault}
use Rattle.rx_plain.specs.declared.slots.Slot.{Slot}
use Rattle.rx_plain.specs.Slots.{heap_of, roots_of, cell_of}
use Rattle.rx_plain.specs.State.{store_of, store_from, tree_of_body}
use Rattle.rx_plain.proofs.SlotLemmas.{Puts}
use Rattle.rx_plain.specs.declared.slots.Body.{Body}
use Rattle.rx_plain.specs.declared.bank.PlainBank.{PlainBank}
use Rattle.rx_plain.specs.Inner.Soundness.{table, bank-heap}
use Rattle.rx_plain.proofs.ContentLemmas.{same-content}

module _ (b : PlainBank) (body : Body) (tree : IsSome (tree_of_body (store_of b) body)) where
  made : (v : Tree) × (tree_of_body (store_of b) body ≡ Some v)
  made = some-value (tree_of_body (store_of b) body) tree

  says-made : Says (λ t. map.get (store_of b).content t) (table b) (cell_of body) made.0
  unfolding content_by
  says-made = says (λ t. map.get (store_of b).content t) (table b) (cell_of body) made.0 made.1

  -- a body that is there has its tree already
  pub found : (i : ℕ) → heap_of b.slots.items i ≡ Some (cell_of body) → Makes (store_of b) (store_of b) (tree_of_body (store_of b) body) (record { 0 = i })
  unfolding content_by
  found i e = record {
    made = holds-cell (heap_of b.slots.items) (table b) (length b.slots.items) b.whole.0 (bank-heap b) i (cell_of body) made.0 e says-made ∙ sym made.1;
    others = λ t ne. refl;
    there = λ held. refl;
    beside = record { symbols = refl; roots = refl; cap = refl };
    room = omega arith;
  }

  module _ (nowhere : (t : ℕ) → heap_of b.slots.items t ≢ Some (cell_of body)) where
    -- a body that is nowhere has a tree that is not there
    pub absent : (t : Term) → tree_at (store_of b) t ≢ tree_of_body (store_of b) body
    unfolding content_by
    absent t e = absent-tree (heap_of b.slots.items) (table b) (length b.slots.items) b.whole.0 (bank-heap b) (cell_of body) made.0 says-made nowhere
        t.0 (e ∙ made.1)

    module _ (ys : List Slot) (i : ℕ) (puts : Puts b.slots.items ys i (cell_of body)) where
      pub put-whole : Least (is_whole (heap_of ys) (table b) (length ys))
      unfolding content_by
      put-whole = least (is_whole (heap_of ys) (table b) (length ys)) (suc b.whole.0)
          (new-whole (heap_of b.slots.items) (heap_of ys) (table b) (length b.slots.items) (length ys) b.whole.0 i (cell_of body) made.0 (bank-heap b)
          puts.longer puts.within puts.free puts.taken puts.others nowhere says-made)

      pub put-distinct : IsDistinct (heap_of ys)
      unfolding content_by
      put-distinct = new-distinct (heap_of b.slots.items) (heap_of ys) (table b) (length b.slots.items) (length ys) b.whole.0 i (cell_of body) made.0
          (bank-heap b) puts.longer puts.within puts.free puts.taken puts.others nowhere says-made

      module _ (k : ℕ) (whole : is_whole (heap_of ys) (table b) (length ys) k ≡ true) where
        put-content : content_of (heap_of ys) (table b) (length ys) k ≡ map.insert (store_of b).content i made.0
        unfolding content_by
        put-content = new-content (heap_of b.slots.items) (heap_of ys) (table b) (length b.slots.items) (length ys) b.whole.0 i (cell_of body) made.0
            (bank-heap b) puts.longer puts.within puts.free puts.taken puts.others nowhere says-made k whole

        was_free : map.get (store_of b).content i ≡ None
        unfolding content_by
        was_free = content-at (heap_of b.slots.items) (table b) (length b.slots.items) b.whole.0 (bank-heap b) i
            ∙ untaken (heap_of b.slots.items) (table b) b.whole.0 i puts.free

        pub put-len : map.len (content_of (heap_of ys) (table b) (length ys) k) ≡ map.len (store_of b).content + 1
        unfolding content_by
        put-len = ap map.len put-content ∙ len-insert-new (store_of b).content i made.0 was_free

        pub put-at : map.get (content_of (heap_of ys) (table b) (length ys) k) i ≡ tree_of_body (store_of b) body
        unfolding content_by
        put-at = new-made (heap_of b.slots.items) (heap_of ys) (table b) (length b.slots.items) (length ys) b.whole.0 i (cell_of body) made.0
            (bank-heap b) puts.longer puts.within puts.free puts.taken puts.others nowhere says-made k whole ∙ sym made.1

        pub put-others : (t : ℕ) → t ≢ i → map.get (content_of (heap_of ys) (table b) (length ys) k) t ≡ map.get (store_of b).content t
        unfolding content_by
        put-others = new-others (heap_of b.slots.items) (heap_of ys) (table b) (length b.slots.items) (length ys) b.whole.0 i (cell_of body) made.0
            (bank-heap b) puts.longer puts.within puts.free puts.taken puts.others nowhere says-made k whole

      pub put-len-by : (w : Least (is_whole (heap_of ys) (table b) (length ys)))
          → map.len (content_by (heap_of ys) (table b) (length ys) w) ≡ map.len (store_of b).content + 1
      unfolding content_by
      put-len-by w = put-len w.0 w.1.passes

    -- a body put into a free slot makes its tree
    pub put-makes : (ys : List Slot) (i : ℕ) (puts : Puts b.slots.items ys i (cell_of body)) (w : Least (is_whole (heap_of ys) (table b) (length ys)))
        (room : ℕ) → vec_capacity b.slots ≤ room → Makes (store_of b) (store_from (symbols_of b.names) ys w b.cap (b.taken + 1) room)
        (tree_of_body (store_of b) body) (record { 0 = i })
    unfolding content_by
    put-makes ys i puts w room enough = record {
      made = put-at ys i puts w.0 w.1.passes;
      others = λ t ne. put-others ys i puts w.0 w.1.passes t.0 (λ e. ne (ap (λ k. let x : Term = record { 0 = k } in x) e));
      there = λ held. absurd (let e : map.get (store_of b).content i ≡ None = was_free ys i puts w.0 w.1.passes in let z : ⊥ = cc in z);
      beside = record { symbols = refl; roots = λ j t. puts.roots t j; cap = refl };
      room = let p = b.counted in let q = put-len ys i puts w.0 w.1.passes in omega arith;
    }

    -- an error leaves the trees and the room
    pub put-refuses : (ys : List Slot) (e : BankFault) (w : Least (is_whole (heap_of ys) (table b) (length ys))) (room : ℕ) → ys ≡ b.slots.items
        → vec_capacity b.slots ≤ room → (store_of b).spare ≡ 0 → FaultFits (store_of b) e
        → Refuses (store_of b) (store_from (symbols_of b.names) ys w b.cap b.taken room) (tree_of_body (store_of b) body) e
    unfolding content_by
    put-refuses ys e w room items enough spare fits = record {
      content = same-content (table b) b.slots.items ys items b.whole w;
      beside = record { symbols = refl; roots = ap roots_of items; cap = refl };
      room = omega arith;
      absent = absent;
      none_spare = spare;
      fits = fits;
    }

-- if no slot is free there are as many trees as slots
pub all-taken : (b : PlainBank) → ((t : ℕ) → t < length b.slots.items → heap_of b.slots.items t ≢ None) → b.taken ≡ length b.slots.items
unfolding content_by
all-taken b none_free = b.counted ∙ len-tabulate-all (length b.slots.items) _ (λ t lt.
    whole-at (heap_of b.slots.items) (table b) (length b.slots.items) b.whole.0 t b.whole.1.passes lt
    (is_some-from (heap_of b.slots.items t) (none_free t lt))) where
      is_some-from : (o : Option Cell) → o ≢ None → IsSome o
      is_some-from None n = absurd (n refl)
      is_some-from (Some x) n = refl
