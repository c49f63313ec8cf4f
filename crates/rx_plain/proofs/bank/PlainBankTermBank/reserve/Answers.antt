-- Room for more cells: the slots stay, and the capacity does not fall.
use Rattle.std.proofs.Common.{ℕ, ◌≡◌, ◌+◌, ◌≤◌, None, length, vec_capacity, arith, sym, ap, ◌∙◌, subst}
use Rattle.std.specs.FinMap as map
use Rattle.rx_term.specs.Heap.{IsDistinct}
use Rattle.rx_plain.specs.Slots.{heap_of, roots_of}
use Rattle.rx_plain.specs.State.{store_of}
use Rattle.rx_plain.specs.Inner.Soundness.{table, taken-le}
use Rattle.rx_plain.proofs.ContentLemmas.{same-whole, same-content}
use Rattle.rx_plain.proofs.RoomLemmas.{same-slots-reserve, same-slots-refused}
use Rattle.rx_plain.proofs.bank.PlainBankTermBank.reserve.Goals as goal

pub overflow_sub-self : goal.overflow_sub-self
overflow_sub-self c = let b = c.args.self.now in let p = taken-le b in let q : length b.slots.items ≤ b.cap = b.bounded in omega arith

pub invariant_of-self : goal.invariant_of-self
invariant_of-self c =
    let b = c.args.self.now in
    let items = b.slots.items in
    let e = c.reserve.ensures.items in
    let whole = same-whole (table b) items c.reserve.new.self.items e b.whole in
    record {
      limited = b.limited;
      bounded = rw e b.bounded;
      distinct = subst (λ xs. IsDistinct (heap_of xs)) (sym e) b.distinct;
      whole = whole;
      unrooted = subst (λ xs. (t : ℕ) → heap_of xs t ≡ None → roots_of xs t ≡ 0) (sym e) b.unrooted;
      counts = subst (λ xs. (t : ℕ) → roots_of xs t ≤ 65535) (sym e) b.counts;
      counted = b.counted ∙ sym (ap map.len (same-content (table b) items c.reserve.new.self.items e b.whole whole));
    }

pub returns-in-Err : goal.returns-in-Err
returns-in-Err c =
    let b = c.args.self.now in
    let p = taken-le b in
    let q : length b.slots.items ≤ b.cap = b.bounded in
    let limit = c.if-k-self.false in
    let counted = b.counted in
    let fits : map.len (store_of b).content + c.args.k ≤ b.cap = omega arith in
    same-slots-refused b c.reserve.new.self.items _ (vec_capacity c.reserve.new.self) c.args.k _ c.reserve.ensures.items c.reserve.ensures.capacity fits

pub returns-in-Ok : goal.returns-in-Ok
returns-in-Ok c =
    let b = c.args.self.now in
    let p = taken-le b in
    let q : length b.slots.items ≤ b.cap = b.bounded in
    let limit = c.if-k-self.false in
    let size = b.slots.ok in
    let wanted = c.if-wanted-len.false in
    let len = c.len-len.ensures in
    let lens = c.reserve.ensures.len in
    let ok = c.in-Ok.ensures.ok in
    let fits : b.taken + c.args.k ≤ b.cap = omega arith in
    let room : b.taken + c.args.k ≤ vec_capacity c.reserve.new.self = omega arith in
    same-slots-reserve b c.reserve.new.self.items _ (vec_capacity c.reserve.new.self) c.args.k c.reserve.ensures.items c.reserve.ensures.capacity fits room
