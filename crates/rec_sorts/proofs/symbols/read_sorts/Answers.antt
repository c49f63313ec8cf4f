use Rattle.std.proofs.Common.{ap, ◌∙◌}
use Rattle.rec_syntax.specs.Parts.{words_of}
use Rattle.rec_sorts.specs.Names.{given_to}
use Rattle.rec_sorts.proofs.DeclaringLemmas.{sorts_numbered, sorts_repeated}
use Rattle.rec_sorts.proofs.symbols.read_sorts.Goals as goal

pub returns-clause-names : goal.returns-clause-names
returns-clause-names c =
    sorts_numbered c.args.syntax.now.spec.sorts (words_of c.source-source.result.now c.sorts-2.result.now) (given_to c.in_ok-names.names)
    (given_to c.number_words.new.names) c.in_ok-names.ensures
    (ap (λ source. words_of source c.sorts-2.result.now) c.source-source.ensures.text ∙ c.sorts-2.ensures.sorts) c.in_ok-repeated.ensures.numbers

pub returns-clause-repeated : goal.returns-clause-repeated
returns-clause-repeated c =
    c.in_ok-repeated.ensures.repeated
    ∙ sorts_repeated c.args.syntax.now.spec.sorts (words_of c.source-source.result.now c.sorts-2.result.now) (given_to c.in_ok-names.names)
    c.in_ok-names.ensures
    (ap (λ source. words_of source c.sorts-2.result.now) c.source-source.ensures.text ∙ c.sorts-2.ensures.sorts)
