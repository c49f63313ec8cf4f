-- The value of a checked specification in contracts, and its invariant.
use Rattle.std.specs.Prelude.{◌≡◌, None, map, length}
use Rattle.rec_syntax.specs.Syntax.{Spec, Sourced}
use Rattle.rec_sorts.specs.Lookup.{symbols}
use Rattle.rec_sorts.specs.SpecRules.{fault}
use Rattle.rec_sorts.specs.Numbering.{Pairwise, IsLetterRule, AreLetters, variable_count}
use Rattle.rec_sorts.specs.SortFaults.{first_place}
use Rattle.rec_sorts.specs.declared.checked.Checked.TheInside.{Inside}
use Rattle.rec_sorts.specs.declared.checked.Examined.{Examined}

-- sourced_of: the text and the syntax tree
abbrev pub sourced_of : Inside → Sourced
sourced_of a = a.syntax

-- IsChecked: no rule is violated, and numbers and postfix items are those of the specification
pub record IsChecked (a : Inside) : Type 0 where
  pub kept : fault a.syntax.spec ≡ None
  pub constructors_counted : a.constructors ≡ length a.syntax.spec.constructors
  pub symbols_counted : a.symbols ≡ length (symbols a.syntax.spec)
  pub variables_counted : a.variables ≡ variable_count a.syntax.spec
  pub arities_listed : a.arities.items ≡ map (λ d. length d.arguments) (symbols a.syntax.spec)
  pub rules_lettered : Pairwise (IsLetterRule a.syntax.spec) a.rules.items a.syntax.spec.rules
  pub terms_lettered : Pairwise (λ v t. AreLetters a.syntax.spec v.items t) a.terms.items
      a.syntax.spec.terms

-- IsExamined y e: `e` has the violations of all rules and the numbered names of `y`
pub record IsExamined (y : Spec) (e : Examined) : Type 0 where
  pub first_found : first_place 1 e.places ≡ fault y
  pub constructors_counted : e.constructors ≡ length y.constructors
  pub symbols_counted : e.symbols ≡ length (symbols y)
  pub variables_counted : e.variables ≡ variable_count y
  pub arities_listed : e.arities.items ≡ map (λ d. length d.arguments) (symbols y)
  pub rules_lettered : fault y ≡ None → Pairwise (IsLetterRule y) e.rules.items y.rules
  pub terms_lettered : fault y ≡ None → Pairwise (λ v t. AreLetters y v.items t) e.terms.items
      y.terms
