-- A make of annotations, if both trees are known, and the integers in them.
use Rattle.std.proofs.Common.{◌≡◌, ◌<◌, ℤ, pos, negsuc, Some, Result, Ok, Err, w32, to_z, of_z, refl, ◌∙◌, arith}
use Rattle.std.proofs.lemmas.Int.{to_z-of_z}
use Rattle.std.specs.Int.Signed.{mag}
use Rattle.std.specs.Prelude.{IfOk, IsSome}
use Rattle.rx_term.specs.Tree.{Tree, Trees, annotated, list_of}
use Rattle.rx_term.specs.Store.{Store, tree_at, noted}
use Rattle.rx_term.specs.Steps.{MakesOrRefuses}
use Rattle.rx_term.specs.declared.Term.{Term}
use Rattle.rx_term.specs.declared.faults.BankFault.{BankFault}

pub noted_there : (w : Store) (t anns : Term) (u : Tree) (us : Trees) → tree_at w t ≡ Some u → tree_at w anns ≡ Some (list_of us)
    → IsSome (noted (tree_at w t) (tree_at w anns))
noted_there w t anns u us e f = rw (e, f) refl

pub noted_made : (old new : Store) (t anns : Term) (u : Tree) (us : Trees) (x : Result Term BankFault) → tree_at old t ≡ Some u
    → tree_at old anns ≡ Some (list_of us) → MakesOrRefuses old new (noted (tree_at old t) (tree_at old anns)) x
    → IfOk x (λ r. tree_at new r ≡ Some (annotated u us))
noted_made old new t anns u us (Ok r) e f m = m.made ∙ rw (e, f) refl
noted_made old new t anns u us (Err fault) e f m = tt

-- an integer goes into a word and comes back
pub in_word : (z : ℤ) → mag z < 2147483648 → to_z w32 (of_z w32 z) ≡ z
in_word (pos n) h = to_z-of_z w32 (pos n) (omega arith)
in_word (negsuc n) h = to_z-of_z w32 (negsuc n) (omega arith)
