-- How the symbol of a call is found in a specification, and its rules tested.
use Rattle.std.specs.Prelude.{◌≡◌, ℕ, ◌<◌, List, length, slice_get, Option, Some}
use Rattle.std.specs.Option.{option_and_then}
use Rattle.rx_term.specs.Name.{Signature}
use Rattle.rx_term.specs.Tree.{from_list, none}
use Rattle.rx_term.specs.Store.{Store, signature_of}
use Rattle.rx_term.specs.Walks.{held_trees}
use Rattle.rx_term.specs.declared.Symbol.{Symbol}
use Rattle.rx_term.specs.declared.Term.{Term}
use Rattle.rec_syntax.specs.Syntax.{Spec}
use Rattle.rec_sorts.specs.Linked.{signature}
use Rattle.rec_sorts.specs.Lookup.{symbols}
use Rattle.rec_sorts.specs.TermRules.{tree_symbol}
use Rattle.psilt_core.specs.Calling.{broken_by_call, call_of}

-- IsDeclared y w s k: `k` is the number of the declared symbol with the name and the quotes of a
-- symbol of the store
abbrev pub IsDeclared : Spec → Store → Symbol → Option ℕ → Type 0
IsDeclared y w s k = (g : Signature) → signature_of w s ≡ Some g
    → tree_symbol y (call_of g none) ≡ option_and_then (slice_get (symbols y)) k

-- IsSymbolOf y w s k: `k` is the number of the declared symbol that a symbol of the store is
abbrev pub IsSymbolOf : Spec → Store → Symbol → ℕ → Type 0
IsSymbolOf y w s k = (k < length (symbols y)) × (signature_of w s ≡ Some (signature y k))

-- IsJudged y w s values number: the lowest-numbered rule that the call of a symbol violates
abbrev pub IsJudged : Spec → Store → Symbol → List Term → Option ℕ → Type 0
IsJudged y w s values number = (g : Signature) → signature_of w s ≡ Some g
    → broken_by_call y (call_of g (from_list (held_trees w values))) ≡ number
