-- The errors of a specification: the words at which it violates a rule, each where the rule can be
-- judged. A rule about declarations is judged only where they are there, so a misspelt sort is one
-- error and not one at each use.
--     judged_words y r       the words at which a rule is violated
--     errors y               all of them, for all rules
--     AreErrors y f fs       all errors: first the reported one, then the others by their offsets
use Rattle.std.specs.Prelude.{ℕ, ◌+◌, Bool, true, false, ◌&&◌, not, List, [], ◌∷◌, ◌++◌, Option}
use Rattle.std.specs.Prelude.{Some, None, flat_map, length, nat_eq, bytes_eq, cond}
use Rattle.std.specs.List.Sorted.{IsNonDecreasingBy}
use Rattle.rec_syntax.specs.Tokens.{Word}
use Rattle.rec_syntax.specs.Syntax.{Term, Terms, Apply, none, more, Spec}
use Rattle.rec_sorts.specs.Lookup.{mentions, symbols, symbol, names, variable_words, sort_of, count}
use Rattle.rec_sorts.specs.SpecRules.{Fault, heads, all_terms}
use Rattle.rec_check.specs.Findings.{Found, HasSame, broken_words, found_at, number_of}
use Rattle.rec_check.specs.Lookups.{present}
use Rattle.rec_check.specs.declared.finding.Kind.{Kind}
use Rattle.rec_check.specs.declared.finding.Kind.TheVariants.{Broken}
use Rattle.rec_check.specs.declared.finding.Rule.{Rule}
use Rattle.rec_check.specs.declared.finding.Rule.TheVariants as rule

-- declared_names y: the names of the symbols and of the variables
abbrev pub declared_names : Spec → List Word
declared_names y = names (symbols y) ++ variable_words y.variables

-- clash y s t: two declared sorts that differ
abbrev pub clash : Spec → Option (List ℕ) → Option (List ℕ) → Bool
clash y (Some s) (Some t) = mentions y.sorts s && mentions y.sorts t && not (bytes_eq s t)
clash y _ _ = false

-- clashing y ss ts: the terms whose sort clashes with the one for their position
abbrev pub clashing : Spec → List Word → Terms → List Term
clashing y [] ts = []
clashing y (s ∷ ss) none = []
clashing y (s ∷ ss) (more t ts) = elim (clash y (sort_of y t) (Some s.bytes)) [
  | true ↦ t ∷ clashing y ss ts
  | false ↦ clashing y ss ts
]

-- clashing_in y t: the arguments of a term whose sort clashes with the declared one, if there are
-- as many as declared
abbrev pub clashing_in : Spec → Term → List Term
clashing_in y (Apply w ts) = elim (symbol y w.bytes) [
  | Some d ↦ elim (nat_eq (count ts) (length d.arguments)) [
    | true ↦ clashing y d.arguments ts
    | false ↦ []
  ]
  | None ↦ []
]

-- clashing_sides y l r: the term `l` if the sorts of the two terms clash
abbrev pub clashing_sides : Spec → Term → Term → List Term
clashing_sides y l r = elim (clash y (sort_of y l) (sort_of y r)) [ true ↦ l ∷ [] | false ↦ [] ]

-- judged_words y r: the words at which a rule is violated, of declared names and declared sorts
abbrev pub judged_words : Spec → Rule → List Word
judged_words y rule.IllFilled = present (declared_names y) (broken_words y rule.IllFilled)
judged_words y rule.IllSorted = heads (flat_map (clashing_in y) (all_terms y))
judged_words y rule.IllHeaded = present (declared_names y) (broken_words y rule.IllHeaded)
judged_words y rule.UnlikeSides = heads (flat_map
    (λ r. clashing_sides y r.left r.right
    ++ flat_map (λ c. clashing_sides y c.left c.right) r.conditions) y.rules)
judged_words y r = broken_words y r

-- the rules in their order
abbrev pub all_rules : List Rule
all_rules = rule.SortTwice ∷ rule.SymbolTwice ∷ rule.VariableTaken ∷ rule.SortUnknown
    ∷ rule.WordUnknown ∷ rule.IllFilled ∷ rule.IllSorted ∷ rule.IllHeaded ∷ rule.UnlikeSides
    ∷ rule.Unbound ∷ rule.OpenTerm ∷ []

-- errors_of y r: the errors by one rule
abbrev pub errors_of : Spec → Rule → List Found
errors_of y r = found_at (Broken r) (judged_words y r)

-- errors y: the errors by all rules
abbrev pub errors : Spec → List Found
errors y = flat_map (errors_of y) all_rules

-- rule_number k: the number of the violated rule; 0 if it is no violation
abbrev pub rule_number : Kind → ℕ
rule_number (Broken r) = number_of r
rule_number _ = 0

-- is_reported f e: the error that evaluation reports
abbrev pub is_reported : Fault → Found → Bool
is_reported f e = nat_eq e.at f.at && nat_eq (rule_number e.kind) f.number

-- rank f e: the place of an error in the list: the reported one is first
abbrev pub rank : Fault → Found → ℕ
rank f e = cond (is_reported f e) 0 (1 + e.at)

-- AreErrors y f fs: all errors, each once: the reported one, then the others by their offsets
pub record AreErrors (y : Spec) (f : Fault) (fs : List Found) : Type 0 where
  pub same : HasSame (errors y) fs
  pub ordered : IsNonDecreasingBy (rank f) fs
