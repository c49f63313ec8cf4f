use Rattle.std.proofs.Common.{◌≤◌, ◌++◌, ◌∷◌, [], ◌∙◌, ap, arith, length, take}
use Rattle.std.proofs.lemmas.List.{length-take-le}
use Rattle.rx_table.proofs.ElementLemmas.{counting-next, trues-few}
use Rattle.rx_table.proofs.table.count_shared.Goals as goal

pub next_number-requires : goal.next_number-requires
next_number-requires c =
    let bs = c.args.shared.now in
    let i = c.loop-is_shared.is_shared-index in
    let is = c.loop-is_shared.invariant.1 in
    let few = trues-few (take i bs) in
    let short = length-take-le i bs in
    let lt = c.loop-is_shared-test.true in
    let most = c.requires in
    omega (arith, is, few, short, lt, most)

pub loop-is_shared-preserved : goal.loop-is_shared-preserved
loop-is_shared-preserved c =
    let l = c.loop-is_shared in
    let k = counting-next c.args.shared.now l.is_shared-index l.next l.numbers.items c.loop-is_shared-test.true l.invariant in (
      c.in_ok-push.ensures.items ∙ ap (λ n. l.numbers.items ++ n ∷ []) c.next_number.ensures.number ∙ k.0,
      c.next_number.ensures.counted ∙ k.1,
    )
