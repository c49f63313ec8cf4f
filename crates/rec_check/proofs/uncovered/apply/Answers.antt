use Rattle.std.proofs.Common.{ap, arith, refl, ◌∙◌, ◌++◌}
use Rattle.std.proofs.lemmas.List.{length-map}
use Rattle.std.specs.Prelude.{not}
use Rattle.rx_term.specs.Name.{plain_name}
use Rattle.rx_text.specs.Canon.{name_text}
use Rattle.rec_syntax.specs.Lexemes.{word_of}
use Rattle.rec_syntax.specs.Parts.{declaration_of}
use Rattle.rec_syntax.specs.Syntax.{Sourced}
use Rattle.rec_sorts.specs.Lookup.{symbols}
use Rattle.rec_check.specs.Inner.Grounds.{sorts_had}
use Rattle.rec_check.specs.declared.uncovered.Ground.{Ground}
use Rattle.rec_check.proofs.UncoveredLemmas.{at_below, call_is}
use Rattle.rec_check.proofs.WordLemmas.{word_end}
use Rattle.rec_check.proofs.uncovered.apply.Goals as goal

pub symbol_name-requires : goal.symbol_name-requires
symbol_name-requires c = at_below (symbols c.args.checked.now.spec) c.args.symbol (declaration_of c.args.checked.now.source c.args.declaration.now)
    c.requires.symbol

pub arity-requires : goal.arity-requires
arity-requires c = at_below (symbols c.args.checked.now.spec) c.args.symbol (declaration_of c.args.checked.now.source c.args.declaration.now) c.requires.symbol

pub returns : goal.returns
returns c = λ sorts all.
    let s = c.args.checked.now in
    let d = declaration_of s.source c.args.declaration.now in
    let name = c.symbol_name.result.now in
    let counted = length-map c.args.terms.now (λ (g : Ground). g.sort.now) in
    let r =
    call_is s.spec c.args.symbol c.arity.result d (sorts_had c.args.terms.now) c.in_ok-letters.letters.items c.push.new.self.items name
    c.push_name.new.text.items c.join.new.text.items c.push_end.new.text.items c.requires.symbol sorts c.symbol_name.ensures c.arity.ensures
    (c.in_ok-push_name.ensures ∙ ap (λ xs. xs ++ name_text name (not (plain_name name))) c.new-text.ensures.items)
    (c.in_ok-letters.ensures s.spec all) (λ lt. c.in_ok-push_end.ensures.some (omega (arith, counted, lt))) (λ e.
    c.in_ok-push_end.ensures.none (omega (arith, counted, e))) c.in_ok-push.ensures.items in
    record {
      term = r.0;
      called = r.1;
      filled = r.2;
      shown = r.3;
      sorted = c.word.ensures ∙ ap (λ (x : Sourced). (word_of x.source c.args.declaration.now.sort).bytes) c.syntax.ensures.same;
      placed = refl;
      ended = word_end s.source c.args.declaration.now.name c.requires.within.name;
    }
