use Rattle.std.proofs.Common.{◌≡◌, ap, ◌∙◌, refl, take, drop}
use Rattle.rec_syntax.specs.Parts.{words_of}
use Rattle.rec_sorts.specs.Lookup.{symbols, names, variable_words}
use Rattle.rec_sorts.specs.Names.{given_to}
use Rattle.rec_sorts.proofs.DeclaringLemmas.{first_words, other_words, names_read}
use Rattle.rec_sorts.proofs.symbols.number_declared.Goals as goal

pub returns : goal.returns
returns c =
    let y = c.args.syntax.now.spec in
    let source = c.args.syntax.now.source in
    let d = c.args.declared.now in
    let n = c.args.count in
    let words = c.deref.result.now in
    let copy = c.source.result.now in
    let first : words_of copy (take n words) ≡ names (symbols y) =
    ap (λ t. words_of t (take n words)) c.source.ensures.text ∙ ap (λ ws. words_of source (take n ws)) c.deref.ensures.value
    ∙ first_words source y d.words.items n c.requires.words_read c.requires.symbols_read in
    let second : words_of copy (drop n words) ≡ variable_words y.variables =
    ap (λ t. words_of t (drop n words)) c.source.ensures.text ∙ ap (λ ws. words_of source (drop n ws)) c.deref.ensures.value
    ∙ other_words source y d.words.items n c.requires.words_read c.requires.symbols_read in
    let found = names_read y n c.requires.symbols_read (words_of copy (take n words)) (words_of copy (drop n words)) first second
    (given_to c.in_ok-words.words) _ (given_to c.number_parts.new.names) c.in_ok-words.ensures refl c.in_ok-repeated.ensures.numbers in
    record {
      words = found.numbered;
      symbols = c.in_ok-symbols.ensures;
      repeated = c.in_ok-repeated.ensures.symbol ∙ found.symbols_repeated;
      taken = c.in_ok-repeated.ensures.variable ∙ found.variables_repeated;
    }
