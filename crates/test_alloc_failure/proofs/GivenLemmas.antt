-- A term that can be evaluated once more.
use Rattle.std.proofs.Common.{◌≡◌, ◌∙◌}
use Rattle.rx_term.specs.Store.{Store, tree_at}
use Rattle.rx_term.specs.declared.Term.{Term}
use Rattle.rec_syntax.specs.Syntax.{Spec}
use Rattle.rec_engine.specs.Engine.{IsGiven}

-- with its tree and the specification a term stays given
pub given_still : (y z : Spec) (old new : Store) (t : Term) → z ≡ y → tree_at new t ≡ tree_at old t → IsGiven y old t → IsGiven z new t
given_still y z old new t same here given = record { tree = given.tree; held = here ∙ given.held; is_ground = rw same given.is_ground }
