use Rattle.std.proofs.Common.{◌≡◌, ◌<◌, ◌+◌, ◌∷◌, [], ◌∙◌, ◌&&◌, ap, arith, get_or, length, length-append, map, subst, sym, take}
use Rattle.std.specs.Prelude.{nat_le, nat_lt}
use Rattle.std.proofs.lemmas.List.{get_or_read}
use Rattle.rx_text.specs.Canon.{canon}
use Rattle.rx_table.specs.Table.{is_shared}
use Rattle.rx_table.specs.Inner.Walk.{part_tree, trees_of}
use Rattle.rx_table.specs.Inner.Shared.{AreCounts}
use Rattle.rx_table.proofs.SharedLemmas.{shared-next}
use Rattle.rx_table.proofs.shared.shared_parts.Goals as goal

pub loop-alloc-preserved : goal.loop-alloc-preserved
loop-alloc-preserved g c =
    let w = g.B.TermBank.store c.args.bank.now in
    let parts = c.args.parts.now in
    let keys = parts.terms.keys in
    let slice = c.as_slice.result.now in
    let uses = c.in_ok-uses.uses.items in
    let old = c.loop-alloc.shared.items in
    let new = c.push.new.self.items in
    let b = c.in_ok-is_shared.field-0 in
    let i = length old in
    let n = c.len-index.result in
    let counts = subst (λ z. AreCounts z parts.inside.items uses) c.len.ensures
    (subst (λ z. AreCounts c.len.result z uses) c.deref.ensures.value c.in_ok-uses.ensures) in
    let test = c.loop-alloc-test.true in
    let first = c.len-in-loop-alloc.ensures ∙ c.loop-alloc.shared.ok.0 in
    let last = c.len-in-loop-alloc-2.ensures in
    let lt : i < length keys = omega (arith, test, first, last) in
    let same : n ≡ i = c.len-index.ensures ∙ c.loop-alloc.shared.ok.0 in
    let all = counts.0 in
    let read : c.index.result.now ≡ get_or uses i 0 = get_or_read uses n c.index.result.now (omega (arith, lt, same, all)) c.index.ensures 0
    ∙ ap (λ k. get_or uses k 0) same in
    let is = c.in_ok-is_shared.ensures ∙ ap (λ z. nat_le 2 z && nat_lt 8 (length (canon (part_tree w slice n)))) read
    ∙ ap (λ k. nat_le 2 (get_or uses i 0) && nat_lt 8 (length (canon (part_tree w slice k)))) same
    ∙ ap (λ ks. nat_le 2 (get_or uses i 0) && nat_lt 8 (length (canon (part_tree w ks i)))) c.as_slice.ensures in
    let pushed = c.in_ok-push.ensures.items in
    let size : length new ≡ i + 1 = ap length pushed ∙ length-append old (b ∷ []) in
    let next = shared-next w c.requires.0 parts c.requires.1 uses counts i lt old new b c.loop-alloc.invariant.is is pushed in
    record {
      few = omega (arith, size, lt);
      is = subst (λ k. new ≡ map (is_shared (trees_of w keys)) (trees_of w (take k keys))) (sym size) next;
    }
