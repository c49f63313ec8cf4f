-- What is marked stays, and the slots that are not are free.
use Rattle.std.proofs.Common.{◌≡◌, ◌<◌, ◌≤◌, length, map, sym, ap, ◌∙◌, subst, arith}
use Rattle.std.specs.Prelude.{count_by}
use Rattle.rx_plain.specs.Marks.{Reaches, AreLinksWithin}
use Rattle.rx_plain.specs.Slots.{swept_of, is_taken}
use Rattle.rx_plain.specs.Inner.Soundness.{table}
use Rattle.rx_plain.proofs.ReadingLemmas.{held-within}
use Rattle.rx_plain.proofs.ReclaimingLemmas.{written, swept-back, bank-within, reclaimed-whole, reclaimed-distinct}
use Rattle.rx_plain.proofs.ReclaimingLemmas.{reclaimed-roots, reclaimed-unrooted, reclaimed-len, reclaimed, count-content}
use Rattle.rx_plain.proofs.bank.PlainBankTermBank.reclaim.Goals as goal

pub mark_reached-requires-clause-within : goal.mark_reached-requires-clause-within
mark_reached-requires-clause-within c = subst AreLinksWithin (sym c.deref_mut.ensures.value) (bank-within c.args.self.now)

pub mark_reached-requires-clause-handed : goal.mark_reached-requires-clause-handed
mark_reached-requires-clause-handed c t h = subst (λ xs. t.0 < length xs) (sym c.deref_mut.ensures.value) (held-within c.args.self.now t (c.requires t h))

pub invariant_of-self : goal.invariant_of-self
invariant_of-self c =
    let b = c.args.self.now in
    let marked = c.mark_reached.new.slots in
    let extra = c.args.extra.now in
    let r = subst (λ xs. Reaches xs marked extra) c.deref_mut.ensures.value c.mark_reached.ensures in
    let size : b.slots.len ≡ length b.slots.items = (let k = b.slots.ok.0 in omega arith) in
    let both = swept-back b.slots.len b.slots.items marked c.deref_mut-2.result.now c.sweep.new.slots size r.len c.deref_mut-2.ensures.value
    c.sweep.ensures.slots in
    let ys = written b.slots.len c.sweep.new.slots (written b.slots.len marked b.slots.items) in
    let swept : ys ≡ map swept_of marked = both.0 ∙ both.1 in
    let whole = reclaimed-whole b marked ys extra r swept c.requires in
    let roots = reclaimed-roots b marked ys extra r swept c.requires in
    record {
      limited = b.limited;
      bounded = subst (λ n. n ≤ b.cap) (sym (reclaimed-len b marked ys extra r swept c.requires)) b.bounded;
      distinct = reclaimed-distinct b marked ys extra r swept c.requires;
      whole = whole;
      unrooted = reclaimed-unrooted b marked ys extra r swept c.requires;
      counts = λ t. subst (λ f. f t ≤ 65535) (sym roots) (b.counts t);
      counted = c.sweep.ensures.taken ∙ ap (count_by is_taken) (sym both.0) ∙ sym (count-content ys (table b) whole);
    }

pub returns : goal.returns
returns c =
    let b = c.args.self.now in
    let marked = c.mark_reached.new.slots in
    let extra = c.args.extra.now in
    let r = subst (λ xs. Reaches xs marked extra) c.deref_mut.ensures.value c.mark_reached.ensures in
    let size : b.slots.len ≡ length b.slots.items = (let k = b.slots.ok.0 in omega arith) in
    let both = swept-back b.slots.len b.slots.items marked c.deref_mut-2.result.now c.sweep.new.slots size r.len c.deref_mut-2.ensures.value
    c.sweep.ensures.slots in
    let ys = written b.slots.len c.sweep.new.slots (written b.slots.len marked b.slots.items) in
    let swept : ys ≡ map swept_of marked = both.0 ∙ both.1 in
    reclaimed b marked ys extra r swept c.requires _ c.sweep.result (c.sweep.ensures.taken ∙ ap (count_by is_taken) (sym both.0))
