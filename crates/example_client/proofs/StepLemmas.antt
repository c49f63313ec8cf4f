-- What a match and a make give together.
use Rattle.std.proofs.Common.{◌≡◌, Bool, true, false, List, [], Option, Some, None, Ok, IsSome, refl}
use Rattle.rx_term.specs.Tree.{Tree}
use Rattle.rx_term.specs.Store.{Store, tree_at}
use Rattle.rx_term.specs.Walks.{AllHeld, HaveTrees}
use Rattle.rx_term.specs.declared.Term.{Term}
use Rattle.rx_term.proofs.StoreLemmas.{some-value}
use Rattle.rx_term.proofs.WalkLemmas.{AllHeld-from_trees}
use Rattle.rx_pattern.specs.Matching.{matching}
use Rattle.rx_pattern.specs.Filling.{filling}
use Rattle.rx_pattern.specs.Held.{Binds}
use Rattle.example_client.specs.Step.{IsStep}

-- a match that was found has bindings
bound : (w : Store) (o : Option (List Tree)) (out : List Term) (found : Bool) → found ≡ true → Binds w o out found
    → (bs : List Tree) × (o ≡ Some bs) × HaveTrees w out bs
bound w (Some bs) out true e h = (bs, refl, h)
bound w (Some bs) out false e h = absurd h
bound w None out true e h = absurd h
bound w None out false e h = cc

-- so its references can go into a make
pub bound_held : (a b : Store) (p : Tree) (t : Term) (out : List Term) (found : Bool) → found ≡ true → IsSome (tree_at a t)
    → ((u : Tree) → tree_at a t ≡ Some u → Binds b (matching p u) out found) → AllHeld b out
bound_held a b p t out found e s answer =
    let v = some-value (tree_at a t) s in
    let x = bound b (matching p v.0) out found e (answer v.0 v.1) in
    AllHeld-from_trees b out x.0 x.2

-- and the make is a step
pub is_step : (a b c : Store) (left right : Tree) (t r : Term) (out : List Term) (found : Bool) → found ≡ true
    → ((u : Tree) → tree_at a t ≡ Some u → Binds b (matching left u) out found)
    → ((bs : List Tree) → HaveTrees b out bs → (v : Tree) × (filling right bs ≡ Ok v) × (tree_at c r ≡ Some v)) → (u : Tree) → tree_at a t ≡ Some u
    → IsStep c left right u (Some r)
is_step a b c left right t r out found e answer made u h =
    let x = bound b (matching left u) out found e (answer u h) in
    let y = made x.0 x.2 in
    (x.0, y.0, x.1, y.1, y.2)
