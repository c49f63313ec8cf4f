use Rattle.std.proofs.Common.{◌≤◌, is_some, length, arith, sym, ap, ◌∙◌, subst}
use Rattle.std.specs.Prelude.{slice_set}
use Rattle.std.specs.FinMap as map
use Rattle.rx_term.specs.Heap.{IsDistinct}
use Rattle.rx_plain.specs.Slots.{heap_of}
use Rattle.rx_plain.specs.Inner.Soundness.{table}
use Rattle.rx_plain.proofs.ReadingLemmas.{held-cell, held-within, held-index}
use Rattle.rx_plain.proofs.CountingLemmas.{recounted, recount-heap, recount-len, recount-store, recount-unrooted, recount-counts}
use Rattle.rx_term.proofs.BankLemmas.{whole-along, content-unique}
use Rattle.rx_plain.proofs.bank.PlainBank.set_roots.Goals as goal

pub index-slot-requires : goal.index-slot-requires
index-slot-requires c = held-index c.args.self.now c.args.t c.requires

pub index_mut-requires : goal.index_mut-requires
index_mut-requires c = held-index c.args.self.now c.args.t c.requires

pub invariant_of-self : goal.invariant_of-self
invariant_of-self c =
    let b = c.args.self.now in
    let s = c.index-slot.result.now in
    let n = c.args.count in
    let x = held-cell b c.args.t.0 c.requires in
    let lt = held-within b c.args.t c.requires in
    let ys = slice_set b.slots.items c.args.t.0 (recounted s n) in
    let heap = recount-heap b.slots.items c.args.t.0 s n lt c.index-slot.ensures in
    let len = recount-len b.slots.items c.args.t.0 s n lt c.index-slot.ensures in
    let whole = whole-along (table b) (heap_of b.slots.items) (heap_of ys) (length b.slots.items) (length ys) heap len b.whole in
    let f = c.ranges.count.fits in
    let fits : n ≤ 65535 = omega arith in
    record {
      limited = b.limited;
      bounded = rw len b.bounded;
      distinct = subst IsDistinct (sym heap) b.distinct;
      whole = whole;
      unrooted = recount-unrooted b.slots.items c.args.t.0 s n lt c.index-slot.ensures (ap is_some x.1) b.unrooted;
      counts = recount-counts b.slots.items c.args.t.0 s n lt c.index-slot.ensures fits b.counts;
      counted = b.counted ∙ sym (ap map.len (content-unique (table b) (heap_of b.slots.items) (heap_of ys) (length b.slots.items) (length ys) heap len
          b.whole whole));
    }

pub returns : goal.returns
returns c =
    let b = c.args.self.now in
    recount-store b c.args.t c.index-slot.result.now c.args.count (held-within b c.args.t c.requires) c.index-slot.ensures _
