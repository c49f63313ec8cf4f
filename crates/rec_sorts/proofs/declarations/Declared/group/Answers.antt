use Rattle.std.proofs.Common.{arith, ap, length, sym, ◌∙◌}
use Rattle.std.proofs.lemmas.List.{append-nil}
use Rattle.rec_syntax.specs.Lexemes.{word_of}
use Rattle.rec_sorts.specs.Least.{earlier}
use Rattle.rec_sorts.proofs.LeastPlaceLemmas.{earlier_none}
use Rattle.rec_sorts.proofs.AdditionLemmas.{words_pushed, sorts_pushed, all_within_pushed, lists}
use Rattle.rec_sorts.proofs.declarations.Declared.group.Goals as goal

pub returns : goal.returns
returns c =
    let source = c.args.sorts.now.source.now in
    let old = c.args.self.now in
    let group = c.args.group.now in
    record {
      words_added =
          words_pushed (word_of source) old.words.items c.push.new.self.items c.loop-word.self.words.items group.others.items group.first
          c.loop-word.word-index c.in_ok-push.ensures.items c.loop-word.invariant.words (omega (arith, ap length c.as_slice-word-items.ensures));
      sorts_added =
          sorts_pushed (word_of source) old.sorts.items c.push-2.new.self.items c.loop-word.self.sorts.items group.others.items c.in_ok-sort.sort _
          c.loop-word.word-index c.in_ok-sort.ensures.sort c.in_ok-push-2.ensures.items c.loop-word.invariant.sorts
          (omega (arith, ap length c.as_slice-word-items.ensures));
      arguments_added = ap lists c.loop-word.invariant.arguments ∙ sym (append-nil (lists old.arguments));
      within_added = all_within_pushed source old.words.items c.push.new.self.items c.loop-word.self.words.items group.others.items group.first
          c.loop-word.word-index c.in_ok-push.ensures.items c.loop-word.invariant.words c.requires.first c.requires.others;
      unknown_added = c.loop-word.invariant.unknown ∙ c.earlier_place-self.ensures
          ∙ ap (earlier old.unknown) (c.in_ok-sort.ensures.missing ∙ sym (earlier_none _));
    }
