-- A body that is found has its reference; else it goes into the first free slot, or into a slot more.
use Rattle.std.proofs.Common.{◌≡◌, ◌<◌, ◌≤◌, ◌∷◌, [], ◌++◌, ℕ, Some, None, length, arith, refl, sym, ap, ◌∙◌, subst, length-append, false, vec_capacity}
use Rattle.std.proofs.lemmas.Grind.{elements}
use Rattle.std.specs.Prelude.{slice_set}
use Rattle.rx_plain.specs.declared.slots.Slot.{Slot}
use Rattle.rx_plain.specs.Slots.{heap_of, roots_of, cell_of}
use Rattle.rx_plain.specs.State.{store_of}
use Rattle.rx_plain.proofs.SlotLemmas.{Puts, Puts-set, Puts-push, Unrooted-puts}
use Rattle.rx_plain.specs.Inner.Soundness.{table, taken-le}
use Rattle.rx_plain.proofs.MakingLemmas.{found, put-whole, put-distinct, put-len-by, put-makes, put-refuses, all-taken}
use Rattle.rx_plain.proofs.ContentLemmas.{same-whole, same-content}
use Rattle.std.specs.FinMap as map
use Rattle.rx_term.specs.Heap.{IsDistinct}
use Rattle.rx_plain.proofs.bank.PlainBank.make.Goals as goal

pub returns-in-Some : goal.returns-in-Some
returns-in-Some c = found c.args.self.now c.args.body c.requires c.in-Some.i
    (subst (λ xs. heap_of xs c.in-Some.i ≡ Some (cell_of c.args.body)) c.deref.ensures.value c.in-Some.ensures.1)

pub overflow_add-self : goal.overflow_add-self
overflow_add-self c = let b = c.args.self.now in let p = taken-le b in let q = b.bounded in let r = b.limited in omega arith

pub invariant_of-self : goal.invariant_of-self
invariant_of-self c =
    let b = c.args.self.now in
    let items = b.slots.items in
    let nowhere = subst (λ xs. (t : ℕ) → heap_of xs t ≡ Some (cell_of c.args.body) → ⊥) c.deref.ensures.value c.in_default.ensures in
    let free = subst (λ xs. (c.in-Some-find_free.i < length xs) × (heap_of xs c.in-Some-find_free.i ≡ None)) c.deref-2.ensures.value
    c.in-Some-find_free.ensures in
    let slot : Slot = record { body = Some c.args.body; roots = 0; mark = false } in
    let ys = slice_set items c.in-Some-find_free.i slot in
    let puts : Puts items ys c.in-Some-find_free.i (cell_of c.args.body) =
    Puts-set items c.in-Some-find_free.i slot (cell_of c.args.body) free.0 free.1 b.unrooted (refl, refl) in
    let whole = put-whole b c.args.body c.requires nowhere ys c.in-Some-find_free.i puts in
    let len = put-len-by b c.args.body c.requires nowhere ys c.in-Some-find_free.i puts whole in
    let counted = b.counted in
    let bounded = b.bounded in
    record {
      limited = b.limited;
      bounded = grind (arith, elements);
      distinct = put-distinct b c.args.body c.requires nowhere ys c.in-Some-find_free.i puts;
      whole = whole;
      unrooted = Unrooted-puts items ys c.in-Some-find_free.i (cell_of c.args.body) puts b.unrooted;
      counts = λ t. rw (puts.roots t) (b.counts t);
      counted = omega arith;
    }

pub returns-in-Some-find_free : goal.returns-in-Some-find_free
returns-in-Some-find_free c =
    let b = c.args.self.now in
    let items = b.slots.items in
    let nowhere = subst (λ xs. (t : ℕ) → heap_of xs t ≡ Some (cell_of c.args.body) → ⊥) c.deref.ensures.value c.in_default.ensures in
    let free = subst (λ xs. (c.in-Some-find_free.i < length xs) × (heap_of xs c.in-Some-find_free.i ≡ None)) c.deref-2.ensures.value
    c.in-Some-find_free.ensures in
    let slot : Slot = record { body = Some c.args.body; roots = 0; mark = false } in
    let same_room : vec_capacity b.slots ≤ vec_capacity b.slots = omega arith in
    put-makes b c.args.body c.requires nowhere (slice_set items c.in-Some-find_free.i slot) c.in-Some-find_free.i
    (Puts-set items c.in-Some-find_free.i slot (cell_of c.args.body) free.0 free.1 b.unrooted (refl, refl)) _ (vec_capacity b.slots) same_room

pub returns-then-i-self : goal.returns-then-i-self
returns-then-i-self c =
    let b = c.args.self.now in
    let nowhere = subst (λ xs. (t : ℕ) → heap_of xs t ≡ Some (cell_of c.args.body) → ⊥) c.deref.ensures.value c.in_default.ensures in
    let none_free = subst (λ xs. (t : ℕ) → t < length xs → heap_of xs t ≡ None → ⊥) c.deref-2.ensures.value c.in_default-find_free.ensures in
    let all = all-taken b none_free in
    let len = b.slots.ok.0 in
    let bounded = b.bounded in
    let counted = b.counted in
    put-refuses b c.args.body c.requires nowhere b.slots.items _ b.whole (vec_capacity b.slots) refl (omega arith) (omega arith) (omega arith)

pub invariant_of-self-in-Err : goal.invariant_of-self-in-Err
invariant_of-self-in-Err c =
    let b = c.args.self.now in
    let items = b.slots.items in
    let e = c.in-Err.ensures.items in
    let whole = same-whole (table b) items c.push.new.self.items e b.whole in
    let content = same-content (table b) items c.push.new.self.items e b.whole whole in
    let counted = b.counted in
    record {
      limited = b.limited;
      bounded = rw e b.bounded;
      distinct = subst (λ xs. IsDistinct (heap_of xs)) (sym e) b.distinct;
      whole = whole;
      unrooted = subst (λ xs. (t : ℕ) → heap_of xs t ≡ None → roots_of xs t ≡ 0) (sym e) b.unrooted;
      counts = subst (λ xs. (t : ℕ) → roots_of xs t ≤ 65535) (sym e) b.counts;
      counted = b.counted ∙ sym (ap map.len content);
    }

pub returns-in-Err : goal.returns-in-Err
returns-in-Err c =
    let b = c.args.self.now in
    let nowhere = subst (λ xs. (t : ℕ) → heap_of xs t ≡ Some (cell_of c.args.body) → ⊥) c.deref.ensures.value c.in_default.ensures in
    let none_free = subst (λ xs. (t : ℕ) → t < length xs → heap_of xs t ≡ None → ⊥) c.deref-2.ensures.value c.in_default-find_free.ensures in
    let all = all-taken b none_free in
    let len = b.slots.ok.0 in
    let counted = b.counted in
    let full = c.in-Err.ensures.full in
    let spare : (store_of b).spare ≡ 0 = omega arith in
    let fits : map.len (store_of b).content < b.cap = omega arith in
    put-refuses b c.args.body c.requires nowhere c.push.new.self.items _ _ (vec_capacity c.push.new.self) c.in-Err.ensures.items
    c.in-Err.ensures.capacity spare fits

pub overflow_add-self-in-Ok : goal.overflow_add-self-in-Ok
overflow_add-self-in-Ok c = let b = c.args.self.now in let p = taken-le b in let q = b.bounded in let r = b.limited in omega arith

pub invariant_of-self-in-Ok : goal.invariant_of-self-in-Ok
invariant_of-self-in-Ok c =
    let b = c.args.self.now in
    let items = b.slots.items in
    let nowhere = subst (λ xs. (t : ℕ) → heap_of xs t ≡ Some (cell_of c.args.body) → ⊥) c.deref.ensures.value c.in_default.ensures in
    let slot : Slot = record { body = Some c.args.body; roots = 0; mark = false } in
    let ys = c.push.new.self.items in
    let e : ys ≡ items ++ slot ∷ [] = c.in-Ok.ensures.items in
    let puts : Puts items ys (length items) (cell_of c.args.body) =
    subst (λ zs. Puts items zs (length items) (cell_of c.args.body)) (sym e) (Puts-push items slot (cell_of c.args.body) (refl, refl)) in
    let whole = put-whole b c.args.body c.requires nowhere ys (length items) puts in
    let len = put-len-by b c.args.body c.requires nowhere ys (length items) puts whole in
    let counted = b.counted in
    let bounded = b.bounded in
    let size = b.slots.ok.0 in
    record {
      limited = b.limited;
      bounded = rw e (simp length-append (omega arith));
      distinct = put-distinct b c.args.body c.requires nowhere ys (length items) puts;
      whole = whole;
      unrooted = Unrooted-puts items ys (length items) (cell_of c.args.body) puts b.unrooted;
      counts = λ t. rw (puts.roots t) (b.counts t);
      counted = omega arith;
    }

pub returns-in-Ok : goal.returns-in-Ok
returns-in-Ok c =
    let b = c.args.self.now in
    let items = b.slots.items in
    let nowhere = subst (λ xs. (t : ℕ) → heap_of xs t ≡ Some (cell_of c.args.body) → ⊥) c.deref.ensures.value c.in_default.ensures in
    let slot : Slot = record { body = Some c.args.body; roots = 0; mark = false } in
    let ys = c.push.new.self.items in
    let e : ys ≡ items ++ slot ∷ [] = c.in-Ok.ensures.items in
    let size = b.slots.ok.0 in
    let at_end : length items ≡ c.len-i.result = omega (arith, c.len-i.ensures) in
    let puts : Puts items ys c.len-i.result (cell_of c.args.body) =
    subst (λ zs. Puts items zs c.len-i.result (cell_of c.args.body)) (sym e)
    (subst (λ j. Puts items (items ++ slot ∷ []) j (cell_of c.args.body)) at_end (Puts-push items slot (cell_of c.args.body) (refl, refl))) in
    put-makes b c.args.body c.requires nowhere ys c.len-i.result puts _ (vec_capacity c.push.new.self) c.in-Ok.ensures.capacity
