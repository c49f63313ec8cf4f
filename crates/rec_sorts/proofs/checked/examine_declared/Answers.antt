use Rattle.std.proofs.Common.{◌∙◌, [], ◌∷◌, ap, map, length, arith}
use Rattle.rec_sorts.specs.SortFaults.{first_place}
use Rattle.rec_sorts.specs.declared.places.TermPlaces.{TermPlaces}
use Rattle.rec_sorts.proofs.ConclusionLemmas.{first_place-found}
use Rattle.rec_sorts.proofs.LetteringLemmas.{rules-lettered, terms-lettered}
use Rattle.rec_sorts.proofs.ExaminingLemmas.{variables-counted, arities-listed}
use Rattle.rec_sorts.proofs.checked.examine_declared.Goals as goal

pub returns : goal.returns
returns c =
    let y = c.args.syntax.now.spec in
    let d = c.args.declared.now in
    let s = d.scope in
    let h = c.requires.scope_read in
    let read = c.in_ok-sections.ensures in
    record {
      first_found =
          ap (λ (p : TermPlaces).
          first_place 1
          (d.repeated_sort
          ∷ d.repeated_symbol
          ∷ d.taken_variable
          ∷ d.unknown_sort
          ∷ p.unknown
          ∷ p.ill_filled
          ∷ p.ill_sorted
          ∷ p.ill_headed
          ∷ p.unlike
          ∷ p.unbound
          ∷ p.free
          ∷ [])) read.places
          ∙ first_place-found y s h d.repeated_sort d.repeated_symbol d.taken_variable d.unknown_sort c.requires.sorts_repeated
          c.requires.symbols_repeated c.requires.variables_taken c.requires.sorts_unknown;
      constructors_counted = h.constructors_counted;
      symbols_counted = h.symbols_counted;
      variables_counted = omega (arith, variables-counted y s h, s.sorts.ok.0);
      arities_listed = c.in_ok-arities.ensures ∙ ap (map (λ sorts. length sorts.items)) c.deref.ensures.value ∙ arities-listed y s h;
      rules_lettered = λ kept. rules-lettered y s h kept c.in_ok-sections.sections.rules.items read.rules;
      terms_lettered = λ kept. terms-lettered y s h kept (λ v. v.items) c.in_ok-sections.sections.terms.items read.terms;
    }
