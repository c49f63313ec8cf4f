use Rattle.std.proofs.Common.{◌++◌, [], ◌∷◌, ap, sym, subst, ◌∙◌, take, map}
use Rattle.std.proofs.lemmas.List.{take_all}
use Rattle.rec_syntax.specs.Parts.{declaration_of}
use Rattle.rec_uses.specs.Inner.Cursors.{IsCursor}
use Rattle.rec_uses.specs.Inner.Tables.{Holds, as_declared}
use Rattle.rec_uses.proofs.TableLemmas.{declared_name, holds_behind, mapped_more, noted}
use Rattle.rec_uses.proofs.tables.note_symbols.Goals as goal

pub loop-declaration-preserved : goal.loop-declaration-preserved
loop-declaration-preserved c =
    let h = c.loop-declaration.invariant in
    let source = c.args.syntax.now.source in
    let section = c.args.section in
    let items = c.args.declarations.now in
    let i = c.loop-declaration.declaration-index in
    let item = c.declaration-item.result in
    record {
      cursor = subst (λ t. IsCursor t c.spot-spot.new.self) h.cursor.text_is c.spot-spot.ensures.same;
      texts = λ ds held. holds_behind source c.note.new.self ds (map (as_declared section) (map (declaration_of source) (take i items)))
          (as_declared section (declaration_of source item) ∷ []) _
          (mapped_more (as_declared section) (declaration_of source) items i item c.loop-declaration-test.true
          ∙ ap (λ x. map (as_declared section) (map (declaration_of source) (take i items)) ++ as_declared section (declaration_of source x) ∷ [])
          (sym c.declaration-item.is))
          (noted source c.loop-declaration.texts c.note.new.self (as_declared section (declaration_of source item)) _ _
          (c.word.ensures ∙ ap (λ w. w.bytes) (sym (declared_name section (declaration_of source item)))) c.in_ok-text.ensures
          c.in_ok-note.ensures (ds ++ map (as_declared section) (map (declaration_of source) (take i items))) (h.texts ds held));
    }

pub returns : goal.returns
returns c = λ ds held.
    let source = c.args.syntax.now.source in
    subst (λ xs. Holds source c.loop-declaration.texts (ds ++ map (as_declared c.args.section) (map (declaration_of source) xs)))
    (take_all c.loop-declaration.declaration-index c.args.declarations.now c.loop-declaration-test.false)
    (c.loop-declaration.invariant.texts ds held)
