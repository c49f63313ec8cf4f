-- The findings in a text.
--     broken_words y r       the words at which a rule is violated
--     warnings text y        the warnings for a well-formed specification
--     AreUncovered y us      calls that no left-hand side matches
--     judgement_of v fs      the result of a check
use Rattle.std.specs.Prelude.{ℕ, ◌≡◌, ◌≤◌, ◌+◌, Bool, Option, Some, None, List, [], ◌∷◌, ◌++◌, map}
use Rattle.std.specs.Prelude.{count_by, flat_map, length}
use Rattle.std.specs.List.Sorted.{IsNonDecreasingBy}
use Rattle.rec_syntax.specs.Tokens.{Word}
use Rattle.rec_syntax.specs.Syntax as syntax
use Rattle.rec_syntax.specs.Syntax.{Term, Declaration, Spec, arguments, head, subterms_all}
use Rattle.rx_text.specs.Canon.{canon}
use Rattle.rec_sorts.specs.Binding.{tree_of}
use Rattle.rec_sorts.specs.Lookup.{symbols, names, variable_words}
use Rattle.rec_sorts.specs.SpecRules.{Verdict, Good, heads, all_terms}
use Rattle.rec_sorts.specs.SpecRules.{missing, sorts_of, repeated_sorts, repeated_symbols}
use Rattle.rec_sorts.specs.SpecRules.{taken_variables, unknown_sorts, unknown_words, ill_filled}
use Rattle.rec_sorts.specs.SpecRules.{ill_sorted, ill_headed, unlike_sides, unbound, open_terms}
use Rattle.rec_check.specs.Lookups.{present}
use Rattle.rec_check.specs.Rewriting.{rewritten_by}
use Rattle.rec_check.specs.Spots.{spot_of, spot_shown}
use Rattle.rec_check.specs.Uncovered.{IsUncovered}
use Rattle.rec_check.specs.declared.finding.Diagnostic.{Diagnostic}
use Rattle.rec_check.specs.declared.finding.Kind.{Kind}
use Rattle.rec_check.specs.declared.finding.Kind.TheVariants.{NeverTried}
use Rattle.rec_check.specs.declared.finding.Kind.TheVariants.{NeverMatches}
use Rattle.rec_check.specs.declared.finding.Kind.TheVariants.{NotCovered, UnusedSort, UnusedSymbol}
use Rattle.rec_check.specs.declared.finding.Kind.TheVariants.{UnusedVariable, WithoutRules}
use Rattle.rec_check.specs.declared.finding.Rule.{Rule}
use Rattle.rec_check.specs.declared.finding.Rule.TheVariants as rule
use Rattle.rec_check.specs.declared.runs.Judgement.{Judgement}
use Rattle.rec_check.specs.declared.runs.Judgement.TheVariants as judged

-- at, end: the offsets of the word that it is about; shown: the detail after the description
pub record Found : Type 0 where
  pub at : ℕ
  pub end : ℕ
  pub shown : List ℕ
  pub kind : Kind

-- found_on k w shown: a finding at a word
abbrev pub found_on : Kind → Word → List ℕ → Found
found_on k w shown = record { at = w.at; end = w.at + length w.bytes; shown = shown; kind = k }

-- found_at k ws: a finding of the same kind at each word, with the word as its detail
abbrev pub found_at : Kind → List Word → List Found
found_at k ws = map (λ w. found_on k w w.bytes) ws

-- found_alone k at: one finding without word and detail
abbrev pub found_alone : Kind → ℕ → List Found
found_alone k at = record { at = at; end = at; shown = []; kind = k } ∷ []

-- the number of a well-formedness rule
abbrev pub number_of : Rule → ℕ
number_of rule.SortTwice = 1
number_of rule.SymbolTwice = 2
number_of rule.VariableTaken = 3
number_of rule.SortUnknown = 4
number_of rule.WordUnknown = 5
number_of rule.IllFilled = 6
number_of rule.IllSorted = 7
number_of rule.IllHeaded = 8
number_of rule.UnlikeSides = 9
number_of rule.Unbound = 10
number_of rule.OpenTerm = 11

-- broken_words y r: the words at which the specification violates the rule
abbrev pub broken_words : Spec → Rule → List Word
broken_words y rule.SortTwice = repeated_sorts y
broken_words y rule.SymbolTwice = repeated_symbols y
broken_words y rule.VariableTaken = taken_variables y
broken_words y rule.SortUnknown = unknown_sorts y
broken_words y rule.WordUnknown = unknown_words y
broken_words y rule.IllFilled = ill_filled y
broken_words y rule.IllSorted = ill_sorted y
broken_words y rule.IllHeaded = ill_headed y
broken_words y rule.UnlikeSides = unlike_sides y
broken_words y rule.Unbound = unbound y
broken_words y rule.OpenTerm = open_terms y

-- unused_sorts y: the sorts that neither a symbol nor a variable has
abbrev pub unused_sorts : Spec → List Word
unused_sorts y =
    missing (flat_map sorts_of (symbols y) ++ map (λ v. v.sort) y.variables) y.sorts

-- unused_symbols y: the symbols that occur in no rule and no EVAL term
abbrev pub unused_symbols : Spec → List Word
unused_symbols y = missing (heads (all_terms y)) (names (symbols y))

-- unused_variables y: the variables that occur in no rule and no EVAL term
abbrev pub unused_variables : Spec → List Word
unused_variables y = missing (heads (all_terms y)) (variable_words y.variables)

-- ruleless y: the operators that occur in a rule or an EVAL term and have no rules
abbrev pub ruleless : Spec → List Word
ruleless y = missing (map (λ r. head r.left) y.rules) (present (heads (all_terms y)) (names y.operators))

-- found_by k text w r: a finding at the word `w`, if a rule rewrites its term; the detail is the
-- location of that rule's first word
abbrev pub found_by : Kind → List ℕ → Word → Option Word → List Found
found_by k text w None = []
found_by k text w (Some v) = found_on k w (spot_shown (spot_of text v.at)) ∷ []

-- never_tried text y before rs: the unreachable rules of `rs`: one of the rules before matches
-- every term that the rule matches
abbrev pub never_tried : List ℕ → Spec → List syntax.Rule → List syntax.Rule → List Found
never_tried text y before [] = []
never_tried text y before (r ∷ rs) =
    found_by NeverTried text (head r.left) (rewritten_by y before r.left)
    ++ never_tried text y (before ++ r ∷ []) rs

-- never_matching_in text y ts: those of these arguments that a rule without conditions rewrites
abbrev pub never_matching_in : List ℕ → Spec → List Term → List Found
never_matching_in text y ts =
    flat_map (λ t. found_by NeverMatches text (head t) (rewritten_by y y.rules t)) ts

-- never_matching text y: those of the arguments of left-hand sides, at any depth
abbrev pub never_matching : List ℕ → Spec → List Found
never_matching text y =
    never_matching_in text y (flat_map (λ r. subterms_all (arguments r.left)) y.rules)

-- unused y: the unused declarations
abbrev pub unused : Spec → List Found
unused y = found_at UnusedSort (unused_sorts y) ++ found_at UnusedSymbol (unused_symbols y)
    ++ found_at UnusedVariable (unused_variables y)

-- without_rules y: the used operators without rules
abbrev pub without_rules : Spec → List Found
without_rules y = found_at WithoutRules (ruleless y)

-- warnings text y: all warnings except missing cases
abbrev pub warnings : List ℕ → Spec → List Found
warnings text y =
    never_tried text y [] y.rules ++ never_matching text y ++ (unused y ++ without_rules y)

-- ShowsCall y d f: `f` is at the operator's declaration and shows a call of it, in at most 200
-- bytes, that no left-hand side matches
abbrev pub ShowsCall : Spec → Declaration → Found → Type 0
ShowsCall y d f = (t : Term) × IsUncovered y d t × (length (canon (tree_of t)) ≤ 200)
    × (f ≡ found_on NotCovered d.name (canon (tree_of t)))

-- MayShow y d us: at most one missing case of this operator
abbrev pub MayShow : Spec → Declaration → List Found → Type 0
MayShow y d [] = Unit {0}
MayShow y d (f ∷ []) = ShowsCall y d f
MayShow y d _ = ⊥

-- ShowCalls y ds us: at most one missing case of each of these operators, in their order
abbrev pub ShowCalls : Spec → List Declaration → List Found → Type 0
ShowCalls y [] us = us ≡ []
ShowCalls y (d ∷ ds) us = (own : List Found) × (others : List Found) × MayShow y d own
    × ShowCalls y ds others × (us ≡ own ++ others)

-- AreUncovered y us: missing cases; nothing is claimed if none is shown
abbrev pub AreUncovered : Spec → List Found → Type 0
AreUncovered y us = ShowCalls y y.operators us

-- HasSame xs ys: the same elements, each the same number of times
abbrev pub HasSame : {X : Type 0} → List X → List X → Type 0
HasSame {X} xs ys = (p : X → Bool) → count_by p xs ≡ count_by p ys

-- AreInOrder all fs: `fs` has these findings, in the order of their offsets
pub record AreInOrder (all fs : List Found) : Type 0 where
  pub same : HasSame all fs
  pub ordered : IsNonDecreasingBy (λ f. f.at) fs

-- judgement_of v fs: the result of a check
abbrev pub judgement_of : Verdict → List Found → Judgement
judgement_of (Good y) [] = judged.Good
judgement_of (Good y) (f ∷ fs) = judged.Warned
judgement_of v fs = judged.Refused

-- a diagnostic, and a list of them, as findings
abbrev pub as_diagnostic : Diagnostic → Found
as_diagnostic d = record { at = d.at; end = d.end; shown = d.shown.items; kind = d.kind }

abbrev pub as_diagnostics : List Diagnostic → List Found
as_diagnostics ds = map as_diagnostic ds
