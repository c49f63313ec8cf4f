use Rattle.rec_check.proofs.WordLemmas.{copies_end, copies_item}
use Rattle.rec_check.proofs.scope.push_sort_of_each.Goals as goal

pub loop-word-preserved : goal.loop-word-preserved
loop-word-preserved c =
    copies_item c.as_slice-word-items.result.now c.loop-word._word-index c.push.new.self.items c.loop-word.words.items
    c.push-in-loop-word.new.self.items c.word_at-sort.result c.loop-word-test.true c.loop-word.invariant c.in_ok-push-2.ensures.items

pub returns : goal.returns
returns c =
    let same = c.as_slice-word-items.ensures in
    let all = copies_end c.args.syntax.now.source c.as_slice-word-items.result.now c.loop-word._word-index c.args.words.now.items
    c.push.new.self.items c.loop-word.words.items c.word_at-sort.result _ c.loop-word-test.false c.in_ok-push.ensures.items c.word_at-sort.ensures
    c.loop-word.invariant in
    rw same at all
