-- The results of calls of symbols on values.
use Rattle.std.specs.Prelude.{◌≡◌, ◌≢◌, ◌⊎◌, ℕ, false, List, [], ◌∷◌, length, Option, Some, None}
use Rattle.std.specs.Prelude.{Result, Ok, Err, IsSome}
use Rattle.rx_term.specs.Name.{Signature}
use Rattle.rx_term.specs.Tree.{Tree, Trees, Appl, none, to_list}
use Rattle.rx_term.specs.Store.{Store, tree_at, cells}
use Rattle.rx_term.specs.Steps.{IsReached}
use Rattle.rx_term.specs.Walks.{HaveTrees}
use Rattle.rx_term.specs.declared.Term.{Term}
use Rattle.rx_term.specs.declared.faults.BankFault.{BankFault}
use Rattle.rx_term.specs.declared.faults.BankFault.TheVariants as bank
use Rattle.rec_syntax.specs.Syntax.{Spec}
use Rattle.rec_sorts.specs.TermRules.{first_passed, is_undeclared, is_ill_filled, is_ill_sorted}
use Rattle.rec_engine.specs.Engine.{IsCallOutcome}
use Rattle.rec_engine.specs.declared.engine.Outcome.{Outcome}
use Rattle.rec_engine.specs.declared.engine.Outcome.TheVariants.{Value, Limit}
use Rattle.psilt_core.specs.declared.evaluating.Normalised.{Normalised}
use Rattle.psilt_core.specs.declared.fault.Fault.{Fault}
use Rattle.psilt_core.specs.declared.fault.Fault.TheVariants as fault
use Rattle.psilt_core.specs.Answers.{Has, IsRest, are_held, terms_of}
use Rattle.psilt_core.specs.Banks.{BankState, IsSpecified, signature_at, store_of}
use Rattle.psilt_core.specs.Evaluating.{LacksCells}

-- call_of g ts: the call of the symbol with a signature on trees
abbrev pub call_of : Signature → Trees → Tree
call_of g ts = Appl g.name g.quoted ts none

-- broken_by_call y u: the lowest-numbered of the rules T4 to T6 that the root of a tree violates
abbrev pub broken_by_call : Spec → Tree → Option ℕ
broken_by_call y u =
    first_passed 4 (is_undeclared y u ∷ is_ill_filled y u ∷ is_ill_sorted y u ∷ [])

-- OnCall b n args P: P holds of the specification and of the call of C's symbol number n on the
-- trees of these references
abbrev pub OnCall : BankState → ℕ → List ℕ → (Spec → Tree → Type 0) → Type 0
OnCall b n args P = IsSpecified b (λ y. Has (signature_at b n) (λ g. (ts : Trees)
    × HaveTrees (store_of b) (terms_of args) (to_list ts) × P y (call_of g ts)))

-- IsFilledByCall w args: all cells are in use, and each tree of the store is a part of a protected
-- term or of an argument, or the list of the arguments from some index on
pub record IsFilledByCall (w : Store) (args : List ℕ) : Type 0 where
  pub full : cells w ≡ w.cap
  pub needed : (r : Term) (v : Tree) → tree_at w r ≡ Some v
      → IsReached w (terms_of args) v ⊎ IsRest w args v

-- IsCallFault w args e: if the error is `Full`, a collection leaves no room for the application
abbrev pub IsCallFault : Store → List ℕ → BankFault → Type 0
IsCallFault w args bank.Memory = Unit {0}
IsCallFault w args bank.Full = IsFilledByCall w args

-- CallComesTo old new n args steps o: the call violates no rule, and its evaluation within these
-- steps, without an evaluation of the arguments, has this outcome
abbrev pub CallComesTo : BankState → BankState → ℕ → List ℕ → ℕ → Outcome → Type 0
CallComesTo old new n args steps o = OnCall old n args (λ y u. (broken_by_call y u ≡ None)
    × IsCallOutcome y (store_of new) steps u o)

-- CallsOn old new n args steps rule r: the result of the evaluation of a call within these steps,
-- or the reason why there is none
abbrev pub CallsOn : BankState → BankState → ℕ → List ℕ → ℕ → ℕ → Result Normalised Fault → Type 0
CallsOn old new n args steps rule (Ok v) =
    CallComesTo old new n args steps (Value v.term v.steps)
CallsOn old new n args steps rule (Err fault.Limit) = CallComesTo old new n args steps Limit
CallsOn old new n args steps rule (Err fault.Rule) =
    OnCall old n args (λ y u. broken_by_call y u ≡ Some rule) × (new ≡ old)
CallsOn old new n args steps rule (Err fault.Unspecified) = (old.specified ≡ None) × (new ≡ old)
CallsOn old new n args steps rule (Err fault.Unknown) = IsSome old.specified
    × (signature_at old n ≡ None) × (new ≡ old)
CallsOn old new n args steps rule (Err fault.Range) = IsSome old.specified
    × Has (signature_at old n) (λ g. length args ≢ g.arity) × (new ≡ old)
CallsOn old new n args steps rule (Err fault.Stale) = IsSome old.specified
    × Has (signature_at old n) (λ g. length args ≡ g.arity)
    × (are_held (store_of old) args ≡ false) × (new ≡ old)
CallsOn old new n args steps rule (Err fault.Memory) = Unit {0}
CallsOn old new n args steps rule (Err fault.Full) =
    IsFilledByCall (store_of new) args ⊎ LacksCells new
CallsOn old new n args steps rule (Err e) = ⊥
