use Rattle.std.proofs.Common.{sym, ap, subst, arith, ◌∙◌, ◌+◌, length, drop, [], append-nil}
use Rattle.std.proofs.Math.Seq.{drop-length}
use Rattle.rec_match.proofs.FillLemmas.{Filling, filling-first, filling-done, first-within, first-filled}
use Rattle.rec_match.proofs.FillLemmas.{again-within, again-there, again-filled, again-differs}
use Rattle.rec_match.proofs.RunLemmas.{cut_back}
use Rattle.rec_match.proofs.registers.fill.Goals as goal
use Rattle.rec_match.proofs.registers.fill.Goals.{in-First, in-Again+else-index}

pub loop-place-init : goal.loop-place-init
loop-place-init c =
    let first = filling-first c.args.places.now c.args.first c.args.work.now.items c.requires.places in
    let room = c.in_ok-reserve.ensures.ok in
    (subst (Filling c.args.places.now c.args.first c.args.work.now.items 0) (sym c.reserve.ensures.items) first, omega (arith, room))

pub index-value-requires : goal.index-value-requires
index-value-requires c =
    let h = first-within c.args.places.now c.args.first c.loop-place.place-index c.args.work.now.items c.loop-place.work.items _ c.requires.within
    c.loop-place-test.true c.loop-place.invariant.0 c.in-First.register c.in-First.is in
    let size = c.loop-place.work.ok.0 in
    omega (arith, h, size)

pub push_reserved-requires : goal.push_reserved-requires
push_reserved-requires c =
    let room = c.loop-place.invariant.1 in
    let more = c.loop-place-test.true in
    omega (arith, room, more)

pub index-requires : goal.index-requires
index-requires c =
    let h = again-there c.args.places.now c.args.first c.loop-place.place-index c.args.work.now.items c.loop-place.work.items _ c.requires.within
    c.loop-place-test.true c.loop-place.invariant.0 c.in-Again.register c.in-Again.value c.len-count.result c.in-Again.is
    (c.len-count.ensures ∙ c.args.work.now.ok.0) in
    let size = c.loop-place.work.ok.0 in
    omega (arith, h, size)

pub index-requires-in-Again : goal.index-requires-in-Again
index-requires-in-Again c =
    let h = again-within c.args.places.now c.args.first c.loop-place.place-index c.args.work.now.items c.loop-place.work.items _ c.requires.within
    c.loop-place-test.true c.loop-place.invariant.0 c.in-Again.register c.in-Again.value c.in-Again.is in
    let size = c.loop-place.work.ok.0 in
    omega (arith, h, size)

pub returns-then-index-clause-fills : goal.returns-then-index-clause-fills
returns-then-index-clause-fills c =
    let old = c.args.work.now.items in
    let so_far = c.loop-place.invariant.0 in
    let size = c.len-count.ensures ∙ c.args.work.now.ok.0 in
    let same = cut_back old c.loop-place.work.items c.truncate.new.self.items c.len-count.result size c.truncate.ensures.items (
      so_far.values,
      so_far.split,
    ) in (
      again-differs c.args.places.now c.args.first c.loop-place.place-index old c.loop-place.work.items _ c.requires.within c.loop-place-test.true
          so_far c.in-Again.register c.in-Again.value c.len-count.result c.index.result.now c.index-in-Again.result.now c.in-Again.is size
          c.index.ensures c.index-in-Again.ensures
          c.if-index.true,
      ap (drop (length old)) same ∙ drop-length old,
    )

pub returns-then-index-clause-behind : goal.returns-then-index-clause-behind
returns-then-index-clause-behind c =
    let old = c.args.work.now.items in
    let so_far = c.loop-place.invariant.0 in
    let same = cut_back old c.loop-place.work.items c.truncate.new.self.items c.len-count.result (c.len-count.ensures ∙ c.args.work.now.ok.0)
    c.truncate.ensures.items (so_far.values, so_far.split) in
    ([], same ∙ sym (append-nil old))

pub returns-in_err-reserve-clause-behind : goal.returns-in_err-reserve-clause-behind
returns-in_err-reserve-clause-behind c = ([], c.reserve.ensures.items ∙ sym (append-nil c.args.work.now.items))

pub loop-place-preserved : goal.loop-place-preserved
loop-place-preserved c =
    let ps = c.args.places.now in
    let first = c.args.first in
    let i = c.loop-place.place-index in
    let old = c.args.work.now.items in
    let now = c.loop-place.work.items in
    let so_far = c.loop-place.invariant.0 in
    let room = c.loop-place.invariant.1 in
    let more = c.loop-place-test.true in
    elim c.match-place.branch [
      | in-First w ↦
          let held = first-filled ps first i old now _ c.requires.within c.loop-place-test.true so_far w.in-First.register w.index-value.result.now
          c.match-place.work.items w.in-First.is w.index-value.ensures (ap (λ v. v.items) w.work-is ∙ w.push_reserved.ensures.items) in
          let put = w.push_reserved.ensures in
          (held, grind (arith, room, more, put.len, put.capacity, w.work-is))
      | in-Again+else-index w ↦
          let held = again-filled ps first i old now _ c.requires.within c.loop-place-test.true so_far w.in-Again.register w.in-Again.value
          c.len-count.result w.index.result.now w.index-in-Again.result.now w.in-Again.is (c.len-count.ensures ∙ c.args.work.now.ok.0)
          w.index.ensures w.index-in-Again.ensures w.if-index.false in
          (subst (Filling ps first old (i + 1)) (sym (ap (λ v. v.items) w.work-is)) held, grind (arith, room, more, w.work-is))
    ]

pub returns-clause-fills : goal.returns-clause-fills
returns-clause-fills c = filling-done c.args.places.now c.args.first c.loop-place.place-index c.args.work.now.items c.loop-place.work.items
    c.loop-place-test.false c.loop-place.invariant.0

pub returns-clause-behind : goal.returns-clause-behind
returns-clause-behind c = (c.loop-place.invariant.0.values, c.loop-place.invariant.0.split)
