use Rattle.std.proofs.Common.{ap, ◌∙◌, sym, length}
use Rattle.std.proofs.lemmas.List.{length-map}
use Rattle.rec_syntax.specs.Parts.{declaration_of}
use Rattle.rec_sorts.proofs.symbols.read_words.Goals as goal

pub returns : goal.returns
returns c =
    let read = c.in_ok-declared.ensures in
    let numbered = c.in_ok-numbered.ensures in
    record {
      source_read = c.source.ensures.text;
      scope_read = record {
        words_numbered = numbered.words;
        sorts_listed = read.sorts_read;
        arguments_listed = read.arguments_read;
        constructors_counted = c.in_ok-constructors.ensures ∙ sym (length-map c.constructors.result.now (declaration_of c.args.syntax.now.source))
            ∙ ap length c.constructors.ensures.constructors;
        symbols_counted = numbered.symbols ∙ read.symbols_read;
      };
      sorts_repeated = c.requires.repeated;
      symbols_repeated = numbered.repeated;
      variables_taken = numbered.taken;
      sorts_unknown = read.unknown_read;
    }
