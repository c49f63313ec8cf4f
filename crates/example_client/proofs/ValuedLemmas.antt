-- Input terms, and references of values.
use Rattle.std.proofs.Common.{◌≡◌, Option, Some, None, Result, Ok, Err, IsSome, IfSome, ap, subst, ◌∙◌}
use Rattle.std.specs.Prelude.{IfOk, is_some}
use Rattle.std.specs.FinMap as map
use Rattle.rx_term.specs.Tree.{Tree, none, more, list_of}
use Rattle.rx_term.specs.Store.{Store, tree_at}
use Rattle.rx_term.specs.declared.Term.{Term}
use Rattle.rec_syntax.specs.Syntax.{Spec}
use Rattle.rec_sorts.specs.Linked.{HasMoreSymbols}
use Rattle.rec_sorts.specs.TermRules.{broken_by_terms}
use Rattle.rec_engine.specs.Engine.{EngineState, IsGiven}
use Rattle.rec_engine.specs.declared.engine.errors.EngineFault.{EngineFault}
use Rattle.example_client.specs.Evaluated.{IsHeld}

-- a term is given where the list of it alone keeps the rules
pub given_alone : (y : Spec) (w : Store) (t list : Term) (u : Tree) → tree_at w t ≡ Some u → tree_at w list ≡ Some (list_of (more u none))
    → IfSome (tree_at w list) (λ v. broken_by_terms y v ≡ None) → IsGiven y w t
given_alone y w t list u held alone kept = record { tree = u; held = held; is_ground = subst (λ o. IfSome o (λ v. broken_by_terms y v ≡ None)) alone kept }

-- it stays so with its tree
pub given_still : (y z : Spec) (old new : Store) (t : Term) → z ≡ y → tree_at new t ≡ tree_at old t → IsGiven y old t → IsGiven z new t
given_still y z old new t same here given = record { tree = given.tree; held = here ∙ given.held; is_ground = rw same given.is_ground }

-- and in a new engine
pub given_in_engine : {B : Type 0} (store : B → Store) (y : Spec) (old : Store) (x : Result (EngineState B) EngineFault) → IfOk x (λ e. e.spec ≡ y)
    → IfOk x (λ e. HasMoreSymbols old (store e.bank)) → IfOk x (λ e. (t : Term) → IsGiven y old t → IsGiven e.spec (store e.bank) t)
given_in_engine store y old (Ok e) same grown = λ t given. given_still y e.spec old (store e.bank) t same (ap (λ c. map.get c t.0) grown.content) given
given_in_engine store y old (Err fault) same grown = tt

-- the reference of a value has a tree
pub value_there : (w : Store) (r : Term) (o : Option Tree) → IsHeld w (Some r) o → IsSome (tree_at w r)
value_there w r (Some v) held = ap is_some held
value_there w r None held = absurd held
