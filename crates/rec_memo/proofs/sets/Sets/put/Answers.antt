use Rattle.std.proofs.Common.{◌∙◌, ap, sym, arith}
use Rattle.rec_memo.specs.Sets.{answer_of}
use Rattle.rec_memo.specs.declared.sets.Set.{Set}
use Rattle.rec_memo.proofs.SetsLemmas.{look_up-before}
use Rattle.rec_memo.proofs.sets.Sets.put.Goals as goal

pub returns-then-place-len-clause-others : goal.returns-then-place-len-clause-others
returns-then-place-len-clause-others c k p apart is =
    let sets = c.args.self.now.sets in
    let counted = sets.ok.0 in
    let len = c.len.ensures in
    let within = c.if-place-len.true in
    look_up-before sets.items c.args.self.now.count k c.place_in-place.result c.index.result.now c.put_first.result p (omega arith)
    (λ h. ap (λ (s : Set). answer_of s k) (sym c.index.ensures) ∙ c.put_first.ensures.others k p apart h) is
