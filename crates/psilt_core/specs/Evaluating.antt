-- The results of calls that set a specification and evaluate.
use Rattle.std.specs.Prelude.{◌≡◌, ◌⊎◌, ℕ, ◌≤◌, Bool, true, ◌&&◌, nat_le, List, [], ◌∷◌, length}
use Rattle.std.specs.Prelude.{Option, Some, None, Result, Ok, Err, IsSome}
use Rattle.rx_term.specs.Tree.{Tree, list_of, none}
use Rattle.rx_term.specs.Store.{Store, tree_at, cells}
use Rattle.rx_term.specs.Steps.{IsReached}
use Rattle.rx_term.specs.declared.Term.{Term}
use Rattle.rec_syntax.specs.Syntax.{Spec}
use Rattle.rec_sorts.specs.SpecRules as verdict
use Rattle.rec_sorts.specs.SpecRules.{SpecVerdict, Good}
use Rattle.rec_sorts.specs.TermRules.{broken_by_elements}
use Rattle.rec_sorts.specs.Linked.{HasMoreSymbols}
use Rattle.rec_engine.specs.Cells.{HasNoRoom}
use Rattle.rec_engine.specs.Engine.{IsGround, IsGiven, IsOutcome, IsNormalised, IsFullOf, eval_tree}
use Rattle.rx_term.specs.declared.faults.BankFault.{BankFault}
use Rattle.rx_term.specs.declared.faults.BankFault.TheVariants as bank
use Rattle.rec_engine.specs.declared.engine.errors.EngineFault.{EngineFault}
use Rattle.rec_engine.specs.declared.engine.errors.EngineFault.TheVariants as engine
use Rattle.rec_engine.specs.declared.engine.Controlled.{Controlled}
use Rattle.rec_engine.specs.declared.engine.Controlled.TheVariants.{Ended, Stopped}
use Rattle.rec_engine.specs.declared.engine.Outcome.{Outcome}
use Rattle.rec_engine.specs.declared.engine.Outcome.TheVariants.{Value, Limit}
use Rattle.psilt_core.specs.declared.evaluating.Normalised.{Normalised}
use Rattle.psilt_core.specs.declared.judging.Refusal.{Refusal}
use Rattle.psilt_core.specs.declared.judging.Refusal.TheVariants as refusal
use Rattle.psilt_core.specs.declared.fault.Fault.{Fault}
use Rattle.psilt_core.specs.declared.fault.Fault.TheVariants as fault
use Rattle.psilt_core.specs.Names.{names_of, KeepsLimit}
use Rattle.psilt_core.specs.Banks.{BankState, store_of, IsSpecified}
use Rattle.psilt_core.specs.Answers.{Has}

-- are_options memo reclaim: whether the capacity of the memo table and the collection interval are
-- in range
abbrev pub are_options : ℕ → ℕ → Bool
are_options memo reclaim = nat_le memo 1048576 && (nat_le 1 reclaim && nat_le reclaim 1073741824)

-- IsRefusal text e: why a text is not a well-formed specification, or out of memory
abbrev pub IsRefusal : List ℕ → Refusal → Type 0
IsRefusal text refusal.Long = SpecVerdict text verdict.Long
IsRefusal text (refusal.Grammar at) = SpecVerdict text (verdict.Grammar at)
IsRefusal text (refusal.Rule number at) =
    SpecVerdict text (verdict.Breaks (record { number = number; at = at }))
IsRefusal text refusal.Memory = Unit {0}

-- IsToldBy refusal f place rule: the error for a rejected text, with its offset and rule
abbrev pub IsToldBy : Refusal → Fault → ℕ → ℕ → Type 0
IsToldBy refusal.Long f place rule = f ≡ fault.Range
IsToldBy (refusal.Grammar at) f place rule = (f ≡ fault.Syntax) × (place ≡ at) × (rule ≡ 0)
IsToldBy (refusal.Rule number at) f place rule = (f ≡ fault.Rule) × (place ≡ at) × (rule ≡ number)
IsToldBy refusal.Memory f place rule = f ≡ fault.Memory

-- of_bank e: the error of the library for an error of the term store
abbrev pub of_bank : BankFault → Fault
of_bank bank.Memory = fault.Memory
of_bank bank.Full = fault.Full

-- of_engine e: the error of the library for an error of the engine
abbrev pub of_engine : EngineFault → Fault
of_engine engine.Memory = fault.Memory
of_engine engine.Room = fault.Full
of_engine engine.Deep = fault.Memory

-- IsRoomFault w e: if the error is `Full`, all cells up to the limit are in use
abbrev pub IsRoomFault : Store → BankFault → Type 0
IsRoomFault w bank.Memory = Unit {0}
IsRoomFault w bank.Full = cells w ≡ w.cap

-- IsFilledBy w t: all cells are in use, and each tree of the store is a part of a protected term or
-- of t, or is the empty list
pub record IsFilledBy (w : Store) (t : Term) : Type 0 where
  pub full : cells w ≡ w.cap
  pub needed : (r : Term) (v : Tree) → tree_at w r ≡ Some v
      → IsReached w (t ∷ []) v ⊎ (v ≡ list_of none)

-- IsCollected w t e: if the error is `Full`, the store is filled by protected terms and t
abbrev pub IsCollected : Store → Term → BankFault → Type 0
IsCollected w t bank.Memory = Unit {0}
IsCollected w t bank.Full = IsFilledBy w t

-- LacksCells b: after a collection all cells are in use: each tree of the store is a part of a
-- protected term or of one that the evaluation kept, and the memo table is empty
abbrev pub LacksCells : BankState → Type 0
LacksCells b = Has b.memo (λ m. (work : List Term) × HasNoRoom (store_of b) work m)

-- IsFilledWith b tree: all cells are in use by parts of protected terms and of this tree, and the
-- memo table is empty
abbrev pub IsFilledWith : BankState → Option Tree → Type 0
IsFilledWith b tree = Has b.memo (λ m. Has tree (λ u. IsFullOf (store_of b) m u))

-- IsRoom P e: the error is `Memory`, or it is `Room` and P holds
abbrev pub IsRoom : Type 0 → EngineFault → Type 0
IsRoom P engine.Memory = Unit {0}
IsRoom P engine.Room = P
IsRoom P engine.Deep = ⊥

-- IsSpecFault b e: why no specification was set: out of memory, or the limit on symbols is reached
abbrev pub IsSpecFault : BankState → BankFault → Type 0
IsSpecFault b bank.Memory = Unit {0}
IsSpecFault b bank.Full = b.most_names ≤ names_of (store_of b)

-- Specifies old new text memo reclaim place rule r: the specification is set or replaced, and terms
-- stay; or nothing changed, since a number is out of range, or the text is too long, leaves its
-- grammar or violates a rule; or memory or names ran out
abbrev pub Specifies : BankState → BankState → List ℕ → ℕ → ℕ → ℕ → ℕ → Result (Unit {0}) Fault
    → Type 0
Specifies old new text memo reclaim place rule (Ok u) = (y : Spec) × SpecVerdict text (Good y)
    × (new.specified ≡ Some (record {
      spec = y;
      options = record { memo = memo; reclaim_every = reclaim };
    }))
    × HasMoreSymbols (store_of old) (store_of new)
    × KeepsLimit old.most_names (store_of old) (store_of new)
Specifies old new text memo reclaim place rule (Err fault.Range) =
    (are_options memo reclaim ≡ true → SpecVerdict text verdict.Long) × (new ≡ old)
Specifies old new text memo reclaim place rule (Err fault.Syntax) = (are_options memo reclaim ≡ true)
    × SpecVerdict text (verdict.Grammar place) × (rule ≡ 0) × (new ≡ old)
Specifies old new text memo reclaim place rule (Err fault.Rule) = (are_options memo reclaim ≡ true)
    × SpecVerdict text (verdict.Breaks (record { number = rule; at = place })) × (new ≡ old)
Specifies old new text memo reclaim place rule (Err fault.Memory) =
    (new.specified ≡ old.specified) × HasMoreSymbols (store_of old) (store_of new)
Specifies old new text memo reclaim place rule (Err fault.Full) = (new.specified ≡ old.specified)
    × HasMoreSymbols (store_of old) (store_of new) × IsSpecFault new bank.Full
Specifies old new text memo reclaim place rule (Err e) = ⊥

-- Unspecifies old new r: the specification is removed and terms stay, or there was none
abbrev pub Unspecifies : BankState → BankState → Result (Unit {0}) Fault → Type 0
Unspecifies old new (Ok u) = IsSome old.specified
    × (new ≡ record old { specified = None; memo = None })
Unspecifies old new (Err fault.Unspecified) = (old.specified ≡ None) × (new ≡ old)
Unspecifies old new (Err e) = ⊥

-- HasTree w t P: the reference is in the store, and P holds of its tree
abbrev pub HasTree : Store → Term → (Tree → Type 0) → Type 0
HasTree w t P = (u : Tree) × (tree_at w t ≡ Some u) × P u

-- Checks old new t rule r: the term violates no rule of input terms; or `rule` is the first that it
-- violates; or memory or cells ran out
abbrev pub Checks : BankState → BankState → Term → ℕ → Result (Unit {0}) Fault → Type 0
Checks old new t rule (Ok u) = IsSpecified old (λ y. IsGiven y (store_of new) t)
Checks old new t rule (Err fault.Rule) = IsSpecified old
    (λ y. HasTree (store_of old) t (λ u. broken_by_elements y (u ∷ []) ≡ Some rule))
Checks old new t rule (Err fault.Memory) = Unit {0}
Checks old new t rule (Err fault.Full) = IsFilledBy (store_of new) t
Checks old new t rule (Err e) = ⊥

-- ComesTo old new t n o: the term is ground, and its evaluation within n steps has this outcome
abbrev pub ComesTo : BankState → BankState → Term → ℕ → Outcome → Type 0
ComesTo old new t n o = IsSpecified old (λ y. HasTree (store_of old) t (λ u. IsGround y u
    × IsOutcome y (store_of new) n u o × IsNormalised y (store_of new) n u o))

-- normalised_of term steps: the result with a reference and a number of steps
abbrev pub normalised_of : ℕ → ℕ → Normalised
normalised_of term steps = record { term = record { 0 = term }; steps = steps }

-- told_of end: the result of the library for the end of an evaluation
abbrev pub told_of : Controlled → Result Normalised Fault
told_of (Ended (Value term steps)) = Ok (record { term = term; steps = steps })
told_of (Ended Limit) = Err fault.Limit
told_of Stopped = Err fault.Interrupted

-- Comes old new t n r: the result of the evaluation of a ground term within n steps, or it was
-- stopped, or memory or cells ran out
abbrev pub Comes : BankState → BankState → Term → ℕ → Result Normalised Fault → Type 0
Comes old new t n (Ok v) = ComesTo old new t n (Value v.term v.steps)
Comes old new t n (Err fault.Limit) = ComesTo old new t n Limit
Comes old new t n (Err fault.Interrupted) = IsSpecified old (λ y. HasTree (store_of old) t (IsGround y))
Comes old new t n (Err fault.Memory) = Unit {0}
Comes old new t n (Err fault.Full) = LacksCells new
Comes old new t n (Err e) = ⊥

-- Normalises old new t n rule r: the result of the evaluation of a term within n steps, or the
-- reason why there is none
abbrev pub Normalises : BankState → BankState → Term → ℕ → ℕ → Result Normalised Fault → Type 0
Normalises old new t n rule (Ok v) = ComesTo old new t n (Value v.term v.steps)
Normalises old new t n rule (Err fault.Limit) = ComesTo old new t n Limit
Normalises old new t n rule (Err fault.Interrupted) =
    IsSpecified old (λ y. HasTree (store_of old) t (IsGround y))
Normalises old new t n rule (Err fault.Rule) = IsSpecified old
    (λ y. HasTree (store_of old) t (λ u. broken_by_elements y (u ∷ []) ≡ Some rule))
Normalises old new t n rule (Err fault.Unspecified) = (old.specified ≡ None) × (new ≡ old)
Normalises old new t n rule (Err fault.Stale) = IsSome old.specified
    × (tree_at (store_of old) t ≡ None) × (new ≡ old)
Normalises old new t n rule (Err fault.Memory) = Unit {0}
Normalises old new t n rule (Err fault.Full) = IsFilledBy (store_of new) t ⊎ LacksCells new
Normalises old new t n rule (Err e) = ⊥

-- IsStoppedBy before after r: an evaluation is interrupted only if its control has requested it, and
-- always if the control had not requested it before
pub record IsStoppedBy (before after : Type 0) (r : Result Normalised Fault) : Type 0 where
  pub only : r ≡ Err fault.Interrupted → after
  pub always : after → before ⊎ (r ≡ Err fault.Interrupted)

-- CountsTerms b r: the number of EVAL terms, or there is no specification
abbrev pub CountsTerms : BankState → Result ℕ Fault → Type 0
CountsTerms b (Ok n) = IsSpecified b (λ y. n ≡ length y.terms)
CountsTerms b (Err fault.Unspecified) = b.specified ≡ None
CountsTerms b (Err e) = ⊥

-- GivesTerm old new i r: the EVAL term with the index i, which is ground, or why there is none
abbrev pub GivesTerm : BankState → BankState → ℕ → Result Term Fault → Type 0
GivesTerm old new i (Ok t) = IsSpecified old (λ y. HasTree (store_of new) t (λ u. IsGround y u
    × (eval_tree y i ≡ Some u)))
GivesTerm old new i (Err fault.Unspecified) = (old.specified ≡ None) × (new ≡ old)
GivesTerm old new i (Err fault.Range) = IsSpecified old (λ y. length y.terms ≤ i) × (new ≡ old)
GivesTerm old new i (Err fault.Memory) = Unit {0}
GivesTerm old new i (Err fault.Full) = IsSpecified old (λ y. IsFilledWith new (eval_tree y i))
GivesTerm old new i (Err e) = ⊥
