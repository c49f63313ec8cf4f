-- The results of calls on patterns, which have numbers.
use Rattle.std.specs.Prelude.{◌≡◌, ◌≢◌, ℕ, ◌≤◌, false, List, length, slice_get, Option, Some, None}
use Rattle.std.specs.Prelude.{Result, Ok, Err, IsSome}
use Rattle.std.specs.Option.{option_and_then, option_map}
use Rattle.std.specs.Coded.{Coded, coded_list, coded_option}
use Rattle.rx_term.specs.Tree.{Tree}
use Rattle.rx_term.specs.Inner.Code.{coded_tree}
use Rattle.rx_term.specs.Store.{Store, tree_at, cells}
use Rattle.rx_term.specs.Walks.{HaveTrees}
use Rattle.rx_term.specs.declared.Term.{Term}
use Rattle.rx_text.specs.Verdict.{IsVerdict, Spelt, Outside, TooLong}
use Rattle.rx_pattern.specs.Pattern.{Unfit, Unknown, Annotated, unfit}
use Rattle.rx_pattern.specs.Matching.{matching}
use Rattle.rx_pattern.specs.Filling as filling
use Rattle.rx_pattern.specs.Filling.{filling, blanks, Kinds}
use Rattle.psilt_core.specs.Answers.{Has, are_held, terms_of}
use Rattle.psilt_core.specs.Names.{IsFull, KeepsLimit}
use Rattle.psilt_core.specs.declared.spelling.NoPattern.{NoPattern}
use Rattle.psilt_core.specs.declared.spelling.NoPattern.TheVariants as none
use Rattle.psilt_core.specs.declared.fault.Fault.{Fault}
use Rattle.psilt_core.specs.declared.fault.Fault.TheVariants as fault

-- patterns_code: patterns are stored as a list of optional trees
abbrev pub patterns_code : Coded (List (Option Tree))
patterns_code = coded_list (coded_option coded_tree)

-- pattern_at patterns n: the pattern of a number, if there is one
abbrev pub pattern_at : List (Option Tree) → ℕ → Option Tree
pattern_at patterns n = option_and_then (λ p. p) (slice_get patterns n)

-- OthersStay old new n: the patterns of all numbers except n are unchanged
abbrev pub OthersStay : List (Option Tree) → List (Option Tree) → ℕ → Type 0
OthersStay old new n = (k : ℕ) → k ≢ n → pattern_at new k ≡ pattern_at old k

-- Gets old new n p: a free number becomes that of the pattern p
abbrev pub Gets : List (Option Tree) → List (Option Tree) → ℕ → Tree → Type 0
Gets old new n p = (pattern_at old n ≡ None) × (pattern_at new n ≡ Some p) × OthersStay old new n

-- Loses old new n: the pattern of a number is removed
abbrev pub Loses : List (Option Tree) → List (Option Tree) → ℕ → Type 0
Loses old new n = IsSome (pattern_at old n) × (pattern_at new n ≡ None) × OthersStay old new n

-- number_of_rule e: the number of a rule of patterns
abbrev pub number_of_rule : Unfit → ℕ
number_of_rule Unknown = 1
number_of_rule Annotated = 2

-- Breaks p rule: the lowest-numbered rule of patterns that the tree violates
abbrev pub Breaks : Tree → ℕ → Type 0
Breaks p rule = option_map number_of_rule (unfit p) ≡ Some rule

-- BreaksRule text rule: the lowest-numbered rule that the tree of a text violates
abbrev pub BreaksRule : List ℕ → ℕ → Type 0
BreaksRule text rule = (p : Tree) × IsVerdict text (Spelt p) × Breaks p rule

-- SpellsPattern text p: the text spells this pattern
abbrev pub SpellsPattern : List ℕ → Tree → Type 0
SpellsPattern text p = IsVerdict text (Spelt p) × (unfit p ≡ None)

-- IsNoPattern text e: why a text is not a pattern, or out of memory
abbrev pub IsNoPattern : List ℕ → NoPattern → Type 0
IsNoPattern text none.Long = IsVerdict text TooLong
IsNoPattern text (none.Grammar at) = IsVerdict text (Outside at)
IsNoPattern text (none.Rule rule) = BreaksRule text rule
IsNoPattern text none.Memory = Unit {0}

-- IsUnfit p e: why a tree is not a pattern, or out of memory
abbrev pub IsUnfit : Tree → NoPattern → Type 0
IsUnfit p (none.Rule rule) = Breaks p rule
IsUnfit p none.Memory = Unit {0}
IsUnfit p why = ⊥

-- TellsNoPattern e f place rule: the error for a rejected pattern, with its offset and rule
abbrev pub TellsNoPattern : NoPattern → Fault → ℕ → ℕ → Type 0
TellsNoPattern none.Long f place rule = f ≡ fault.Range
TellsNoPattern (none.Grammar at) f place rule = (f ≡ fault.Syntax) × (place ≡ at) × (rule ≡ 0)
TellsNoPattern (none.Rule number) f place rule = (f ≡ fault.Rule) × (rule ≡ number)
TellsNoPattern none.Memory f place rule = f ≡ fault.Memory

-- ReadsPattern old new text place rule r: the pattern of a text gets a number; or none does, since
-- the text is too long, leaves the grammar or violates a rule, or memory ran out
abbrev pub ReadsPattern : List (Option Tree) → List (Option Tree) → List ℕ → ℕ → ℕ
    → Result ℕ Fault → Type 0
ReadsPattern old new text place rule (Ok n) = (p : Tree) × SpellsPattern text p × Gets old new n p
ReadsPattern old new text place rule (Err fault.Range) = IsVerdict text TooLong × (new ≡ old)
ReadsPattern old new text place rule (Err fault.Syntax) =
    IsVerdict text (Outside place) × (rule ≡ 0) × (new ≡ old)
ReadsPattern old new text place rule (Err fault.Rule) = BreaksRule text rule × (new ≡ old)
ReadsPattern old new text place rule (Err fault.Memory) = new ≡ old
ReadsPattern old new text place rule (Err e) = ⊥

-- FreesPattern old new n r: the pattern of a number is removed, or there was none
abbrev pub FreesPattern : List (Option Tree) → List (Option Tree) → ℕ → Result (Unit {0}) Fault
    → Type 0
FreesPattern old new n (Ok u) = Loses old new n
FreesPattern old new n (Err fault.Unknown) = (pattern_at old n ≡ None) × (new ≡ old)
FreesPattern old new n (Err e) = ⊥

-- Binds pattern old new t found: the pattern matches the tree of a reference with these bindings
abbrev pub Binds : Option Tree → Store → Store → Term → List Term → Type 0
Binds pattern old new t found = Has pattern (λ p. Has (tree_at old t) (λ u.
    Has (matching p u) (HaveTrees new found)))

-- BindsNothing pattern w t: the pattern does not match the tree of a reference
abbrev pub BindsNothing : Option Tree → Store → Term → Type 0
BindsNothing pattern w t = Has pattern (λ p. Has (tree_at w t) (λ u. matching p u ≡ None))

-- Matches pattern old new before after t r: the bindings are replaced and their number returned; or
-- they are unchanged, since there is no such pattern, or else no such reference, or the pattern
-- does not match, or memory or cells ran out
abbrev pub Matches : Option Tree → Store → Store → List Term → List Term → Term → Result ℕ Fault
    → Type 0
Matches pattern old new before after t (Ok k) = Binds pattern old new t after × (k ≡ length after)
Matches pattern old new before after t (Err fault.Unmatched) =
    BindsNothing pattern old t × (after ≡ before)
Matches pattern old new before after t (Err fault.Unknown) =
    (pattern ≡ None) × (new ≡ old) × (after ≡ before)
Matches pattern old new before after t (Err fault.Stale) =
    IsSome pattern × (tree_at old t ≡ None) × (new ≡ old) × (after ≡ before)
Matches pattern old new before after t (Err fault.Memory) = after ≡ before
Matches pattern old new before after t (Err fault.Full) = (cells new ≡ new.cap) × (after ≡ before)
Matches pattern old new before after t (Err e) = ⊥

-- TellsBound found i r: the binding with the index i, or there are at most i
abbrev pub TellsBound : List Term → ℕ → Result Term Fault → Type 0
TellsBound found i (Ok t) = slice_get found i ≡ Some t
TellsBound found i (Err fault.Range) = length found ≤ i
TellsBound found i (Err e) = ⊥

-- OnFilling pattern w args P: P holds of the result of filling a pattern with these trees
abbrev pub OnFilling : Option Tree → Store → List Term → (Result Tree filling.Fault → Type 0)
    → Type 0
OnFilling pattern w args P =
    Has pattern (λ p. (bs : List Tree) × HaveTrees w args bs × P (filling p bs))

-- Takes pattern n: the pattern has n placeholders
abbrev pub Takes : Option Tree → ℕ → Type 0
Takes pattern n = Has pattern (λ p. n ≡ length (blanks p))

-- FillsTerms pattern most old new args r: the placeholders are replaced by as many trees; or
-- nothing changed, since one does not take its tree; or memory, cells or names ran out
abbrev pub FillsTerms : Option Tree → ℕ → Store → Store → List Term → Result Term Fault → Type 0
FillsTerms pattern most old new args (Ok r) = OnFilling pattern old args
    (λ made. (u : Tree) × (made ≡ Ok u) × (tree_at new r ≡ Some u)) × KeepsLimit most old new
FillsTerms pattern most old new args (Err fault.Kind) =
    OnFilling pattern old args (λ made. (at : ℕ) × (made ≡ Err (Kinds at))) × (new ≡ old)
FillsTerms pattern most old new args (Err fault.Memory) = Unit {0}
FillsTerms pattern most old new args (Err fault.Full) = IsFull new most
FillsTerms pattern most old new args (Err e) = ⊥

-- Fills pattern most old new args r: the placeholders are replaced by the trees of these numbers;
-- or nothing changed, since there is no such pattern, or else it has another number of
-- placeholders, or else a reference is not in the store; or an error of `FillsTerms`
abbrev pub Fills : Option Tree → ℕ → Store → Store → List ℕ → Result Term Fault → Type 0
Fills pattern most old new args (Err fault.Unknown) = (pattern ≡ None) × (new ≡ old)
Fills pattern most old new args (Err fault.Range) =
    Has pattern (λ p. length args ≢ length (blanks p)) × (new ≡ old)
Fills pattern most old new args (Err fault.Stale) =
    Takes pattern (length args) × (are_held old args ≡ false) × (new ≡ old)
Fills pattern most old new args r = FillsTerms pattern most old new (terms_of args) r
