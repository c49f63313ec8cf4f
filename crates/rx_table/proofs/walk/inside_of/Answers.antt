use Rattle.std.proofs.Common.{◌∙◌, ◌-◌, ap, arith, drop, length, subst, sym, take}
use Rattle.rx_table.specs.Inner.Walk.{AreBelow, trees_at}
use Rattle.rx_table.proofs.PartLemmas.{bounds-more-than, bounds-read, slice-below, slice-trees}
use Rattle.rx_table.proofs.walk.inside_of.Goals as goal

pub index-requires : goal.index-requires
index-requires c =
    let p = c.requires.parts in
    let a = bounds-more-than p.0 p.1.0 c.args.parts.now p.1.1 c.args.index c.requires.index in
    let n = c.args.parts.now.bounds.ok.0 in
    omega (arith, a, n)

pub index-requires-2 : goal.index-requires-2
index-requires-2 c =
    let p = c.requires.parts in
    let a = bounds-more-than p.0 p.1.0 c.args.parts.now p.1.1 c.args.index c.requires.index in
    let n = c.args.parts.now.bounds.ok.0 in
    omega (arith, a, n)

pub offset_bounds-deref-index : goal.offset_bounds-deref-index
offset_bounds-deref-index c =
    let p = c.requires.parts in
    let b = bounds-read p.0 p.1.0 c.args.parts.now p.1.1 c.args.index c.requires.index c.index.result.now c.index-2.result.now c.index.ensures c.index-2.ensures in
    let first = b.first in
    let count = b.count in
    let within = b.within in
    let same = ap length c.deref.ensures.value in
    let fits = c.deref.type_inv in
    omega (arith, first, count, within, same, fits)

pub slice_bounds-result-count : goal.slice_bounds-result-count
slice_bounds-result-count c =
    let p = c.requires.parts in
    (bounds-read p.0 p.1.0 c.args.parts.now p.1.1 c.args.index c.requires.index c.index.result.now c.index-2.result.now c.index.ensures c.index-2.ensures).order

pub slice_bounds-result-start : goal.slice_bounds-result-start
slice_bounds-result-start c =
    let p = c.requires.parts in
    (bounds-read p.0 p.1.0 c.args.parts.now p.1.1 c.args.index c.requires.index c.index.result.now c.index-2.result.now c.index.ensures c.index-2.ensures).order

pub slice_bounds-result-end : goal.slice_bounds-result-end
slice_bounds-result-end c =
    let p = c.requires.parts in
    let b = bounds-read p.0 p.1.0 c.args.parts.now p.1.1 c.args.index c.requires.index c.index.result.now c.index-2.result.now c.index.ensures c.index-2.ensures in
    let within = b.within in
    let same = ap length c.deref.ensures.value in
    omega (arith, within, same)

pub returns-clause-below : goal.returns-clause-below
returns-clause-below c =
    let p = c.requires.parts in
    let from = c.index.result.now in
    let count = c.index-2.result.now - c.index.result.now in
    let b = bounds-read p.0 p.1.0 c.args.parts.now p.1.1 c.args.index c.requires.index c.index.result.now c.index-2.result.now c.index.ensures c.index-2.ensures in
    subst (λ z. AreBelow c.args.index (take count (drop from z))) (sym c.deref.ensures.value)
    (slice-below p.0 p.1.0 c.args.parts.now p.1.1 c.args.index c.requires.index from count b.first b.count)

pub returns-clause-trees : goal.returns-clause-trees
returns-clause-trees c = λ w t h.
    let from = c.index.result.now in
    let count = c.index-2.result.now - c.index.result.now in
    let keys = c.args.parts.now.terms.keys in
    let b = bounds-read w t c.args.parts.now h c.args.index c.requires.index c.index.result.now c.index-2.result.now c.index.ensures c.index-2.ensures in
    ap (λ z. trees_at w keys (take count (drop from z))) c.deref.ensures.value
    ∙ slice-trees w t c.args.parts.now h c.args.index c.requires.index from count b.first b.count
