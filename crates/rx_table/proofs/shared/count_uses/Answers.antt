use Rattle.std.proofs.Common.{◌+◌, ap, arith, get_or, set}
use Rattle.std.proofs.lemmas.List.{get_or_read}
use Rattle.rx_table.proofs.SharedLemmas.{count-room, count-within, counts-next}
use Rattle.rx_table.proofs.shared.count_uses.Goals as goal

pub overflow_add-index_mut : goal.overflow_add-index_mut
overflow_add-index_mut c =
    let is = c.args.inside.now in
    let old = c.loop-index.uses.items in
    let k = c.loop-index.index-index in
    let lt = c.loop-index-test.true in
    let h = c.loop-index.invariant in
    let a = count-room c.args.count is old k lt c.requires h in
    let r = get_or_read old (get_or is k 0) c.index_mut.result.now (count-within c.args.count is old k lt c.requires h) c.index_mut.ensures.value 0 in
    let q = c.loop-index.auto.index-index-end in
    omega (arith, a, r, lt, q)

pub loop-index-preserved : goal.loop-index-preserved
loop-index-preserved c =
    let is = c.args.inside.now in
    let old = c.loop-index.uses.items in
    let k = c.loop-index.index-index in
    let j = get_or is k 0 in
    let lt = c.loop-index-test.true in
    let h = c.loop-index.invariant in
    let r = get_or_read old j c.index_mut.result.now (count-within c.args.count is old k lt c.requires h) c.index_mut.ensures.value 0 in
    counts-next c.args.count is old k lt c.requires h (set old j (c.index_mut.result.now + 1)) (ap (λ z. set old j (z + 1)) r)
