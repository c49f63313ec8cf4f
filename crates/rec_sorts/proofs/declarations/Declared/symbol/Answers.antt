use Rattle.std.proofs.Common.{ap, ◌∙◌, map, ◌++◌, ◌∷◌, []}
use Rattle.rec_syntax.specs.Lexemes.{word_of}
use Rattle.rec_syntax.specs.Parts.{words_of}
use Rattle.rec_sorts.specs.Names.{given_to}
use Rattle.rec_sorts.specs.Declaring.{sort_numbers, least_unnumbered}
use Rattle.rec_sorts.proofs.StackLemmas.{map-append}
use Rattle.rec_sorts.proofs.AdditionLemmas.{list_pushed, within_pushed, unknown_pushed}
use Rattle.rec_sorts.proofs.declarations.Declared.symbol.Goals as goal

pub returns : goal.returns
returns c =
    let source = c.args.sorts.now.source.now in
    let numbers = given_to c.args.sorts.now.names in
    let old = c.args.self.now in
    let d = c.args.declaration.now in
    record {
      words_added = ap (map (word_of source)) c.in_ok-push.ensures.items ∙ map-append (word_of source) old.words.items (d.name ∷ []);
      sorts_added = c.in_ok-push-2.ensures.items ∙ ap (λ k. old.sorts.items ++ k ∷ []) c.in_ok-sort.ensures.sort;
      arguments_added = list_pushed old.arguments.items c.push-3.new.self.items c.in_ok-arguments.arguments _ c.in_ok-push-3.ensures.items
          (c.in_ok-arguments.ensures.sorts ∙ ap (λ ws. sort_numbers numbers (words_of source ws)) c.as_slice.ensures);
      within_added = within_pushed source old.words.items c.push.new.self.items d.name c.in_ok-push.ensures.items c.requires.name;
      unknown_added =
          unknown_pushed numbers (words_of source d.arguments.items) (word_of source d.sort) old.unknown c.in_ok-arguments.unknown
          c.in_ok-sort.missing c.earlier_place.result c.earlier_place-self.result
          (c.in_ok-arguments.ensures.missing ∙ ap (λ ws. least_unnumbered numbers (words_of source ws)) c.as_slice.ensures)
          c.in_ok-sort.ensures.missing c.earlier_place.ensures c.earlier_place-self.ensures;
    }
