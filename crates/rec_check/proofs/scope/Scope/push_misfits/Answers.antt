use Rattle.std.proofs.Common.{◌≡◌, length, min, rules, sym, ap, ◌∙◌, ◌++◌}
use Rattle.std.proofs.lemmas.List.{append-nil}
use Rattle.std.proofs.lemmas.Slice.Zip.{zip_end}
use Rattle.rec_check.specs.Named.{as_words}
use Rattle.rec_check.proofs.NodeLemmas.{misfits_end, misfits_even, misfits_uneven}
use Rattle.rec_check.proofs.scope.Scope.push_misfits.Goals as goal

pub returns-then-heads-sorts : goal.returns-then-heads-sorts
returns-then-heads-sorts c =
    let s = c.args.self.now.syntax.now in
    let old = as_words c.args.found.now.items in
    sym (append-nil old)
    ∙ ap (λ ws. old ++ ws) (misfits_uneven s.spec s.source c.args.heads.now c.args.sorts.now c.if-heads-sorts.true)

pub returns : goal.returns
returns c =
    let s = c.args.self.now.syntax.now in
    let old = as_words c.args.found.now.items in
    let even : length c.args.heads.now ≡ length c.args.sorts.now = c.if-heads-sorts.false in
    let done : length c.loop-head.yielded ≡ min (length c.args.heads.now) (length c.args.sorts.now) =
    zip_end c.args.heads.now c.args.sorts.now c.loop-head.yielded c.into_iter-head-iterator.result c.loop-head.head-iterator c.next.new.self
    c.next.result (search rules) (search rules) c.loop-head.yielded_by c.in-None.is c.next.ensures.steps in
    misfits_end s.spec s.source c.args.heads.now c.args.sorts.now _ (as_words c.loop-head.found.items) _ done c.loop-head.invariant
    ∙ ap (λ ws. old ++ ws) (misfits_even s.spec s.source c.args.heads.now c.args.sorts.now even)
