use Rattle.std.proofs.Common.{◌++◌, [], ◌∷◌, ap, sym, subst, ◌∙◌, take, map}
use Rattle.std.proofs.lemmas.List.{take_all}
use Rattle.rec_syntax.specs.Lexemes.{word_of}
use Rattle.rec_syntax.specs.Parts.{words_of}
use Rattle.rec_uses.specs.Inner.Cursors.{IsCursor}
use Rattle.rec_uses.specs.Inner.Tables.{Holds}
use Rattle.rec_uses.specs.Inner.Values.{as_word}
use Rattle.rec_uses.specs.Uses.{Variable}
use Rattle.rec_uses.proofs.TableLemmas.{holds_behind, mapped_more}
use Rattle.rec_uses.proofs.tables.note_group.Goals as goal

pub loop-span-preserved : goal.loop-span-preserved
loop-span-preserved c =
    let h = c.loop-span.invariant in
    let source = c.args.syntax.now.source in
    let items = c.as_slice-span-items.result.now in
    let i = c.loop-span.span-index in
    let sort = as_word c.word_at-sort.result in
    let first = word_of source c.args.group.now.first in
    let same = h.cursor.text_is in
    let at = rw same at c.spot-spot-in-loop-span.ensures.spot in
    record {
      cursor = subst (λ t. IsCursor t c.spot-spot-in-loop-span.new.self) h.cursor.text_is c.spot-spot-in-loop-span.ensures.same;
      texts = λ ds held. holds_behind source c.note_variable-in-loop-span.new.texts ds
          (map (λ w. Variable w sort) (first ∷ words_of source (take i items))) (Variable (as_word c.word_at-word.result) sort ∷ []) _
          (ap (λ vs. Variable first sort ∷ vs) (mapped_more (λ w. Variable w sort) (word_of source) items i _ c.loop-span-test.true
          ∙ ap (λ w. map (λ v. Variable v sort) (words_of source (take i items)) ++ Variable w sort ∷ []) (sym c.word_at-word.ensures)))
          (c.in_ok-note_variable-2.ensures source (ds ++ map (λ w. Variable w sort) (first ∷ words_of source (take i items))) at (h.texts ds held));
    }

pub returns-clause-texts : goal.returns-clause-texts
returns-clause-texts c = λ ds held.
    let source = c.args.syntax.now.source in
    let first = word_of source c.args.group.now.first in
    let others = c.args.group.now.others.items in
    subst (λ s. Holds source c.loop-span.texts (ds ++ map (λ w. Variable w s) (first ∷ words_of source others))) c.word_at-sort.ensures
    (subst (λ xs. Holds source c.loop-span.texts (ds ++ map (λ w. Variable w (as_word c.word_at-sort.result)) (first ∷ words_of source xs)))
    (take_all c.loop-span.span-index c.as_slice-span-items.result.now c.loop-span-test.false ∙ c.as_slice-span-items.ensures)
    (c.loop-span.invariant.texts ds held))
