use Rattle.std.proofs.Common.{◌++◌, [], ◌∷◌, refl, ap, sym, subst, ◌∙◌, take, map}
use Rattle.std.proofs.lemmas.List.{take_all}
use Rattle.rec_syntax.specs.Lexemes.{word_of}
use Rattle.rec_syntax.specs.Parts.{words_of}
use Rattle.rec_uses.specs.Inner.Cursors.{IsCursor}
use Rattle.rec_uses.specs.Inner.Tables.{Holds}
use Rattle.rec_uses.specs.Inner.Values.{as_word}
use Rattle.rec_uses.specs.Uses.{Sort}
use Rattle.rec_uses.proofs.TableLemmas.{holds_behind, mapped_more, noted}
use Rattle.rec_uses.proofs.tables.note_sorts.Goals as goal

pub loop-span-preserved : goal.loop-span-preserved
loop-span-preserved c =
    let h = c.loop-span.invariant in
    let source = c.args.syntax.now.source in
    let items = c.sorts-span-items.result.now in
    let i = c.loop-span.span-index in
    let same = h.cursor.text_is in
    let at = rw same at c.spot-spot.ensures.spot in
    record {
      cursor = subst (λ t. IsCursor t c.spot-spot.new.self) h.cursor.text_is c.spot-spot.ensures.same;
      texts = λ ds held. holds_behind source c.note.new.self ds (map Sort (words_of source (take i items))) (Sort (as_word c.word_at-word.result) ∷ []) _
          (mapped_more Sort (word_of source) items i _ c.loop-span-test.true
          ∙ ap (λ w. map Sort (words_of source (take i items)) ++ Sort w ∷ []) (sym c.word_at-word.ensures))
          (noted source c.loop-span.texts c.note.new.self (Sort (as_word c.word_at-word.result)) _ _ refl (c.in_ok-text.ensures source at)
          c.in_ok-note.ensures (ds ++ map Sort (words_of source (take i items))) (h.texts ds held));
    }

pub returns : goal.returns
returns c = λ ds held.
    let source = c.args.syntax.now.source in
    subst (λ ws. Holds source c.loop-span.texts (ds ++ map Sort ws))
    (ap (words_of source) (take_all c.loop-span.span-index c.sorts-span-items.result.now c.loop-span-test.false) ∙ c.sorts-span-items.ensures.sorts)
    (c.loop-span.invariant.texts ds held)
