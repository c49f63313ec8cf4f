-- What makes and reclaims keep of a heap.
use Rattle.std.proofs.Common.{◌≡◌, arith, List, [], Contains, Option, Result, Ok, Err}
use Rattle.rx_term.specs.Tree.{Tree}
use Rattle.rx_term.specs.Store.{Store}
use Rattle.rx_term.specs.Steps.{MakesOrRefuses, Refuses, Reclaims}
use Rattle.rx_term.specs.declared.Term.{Term}
use Rattle.rx_term.specs.declared.faults.BankFault.{BankFault}
use Rattle.rx_term.proofs.StoreLemmas.{Grows-made}
use Rattle.rx_term.proofs.KeepLemmas.{Keeps-refl, Keeps-trans, Keeps-fewer, Keeps-Refuses, Keeps-after-refusal}
use Rattle.rec_engine.specs.declared.heap.pace.Pace.{Pace}
use Rattle.rec_engine.specs.Inner.Heap.{Keeping}
use Rattle.rec_engine.specs.Inner.Pace.{KeepsKnown}
use Rattle.rec_engine.proofs.KnownConstantLemmas.{known-trans, known-same, known-made, known-refused}

-- one change after the other, where all that was kept by the first is kept by the second
pub keeping-trans : {a b c : Store} {kept kept' : List Term} {p q r : Pace} → Keeping a b kept p q → Keeping b c kept' q r
    → ((t : Term) → Contains kept t → Contains kept' t) → Keeping a c kept p r
keeping-trans f g within = record { keeps = Keeps-trans f.keeps (Keeps-fewer within g.keeps); known = known-trans f.known g.known }

-- where nothing of the work list needs to stay
pub keeping-none : {a b : Store} {kept : List Term} {p q : Pace} → Keeping a b kept p q → Keeping a b [] p q
keeping-none f = record { keeps = Keeps-fewer (λ t h. absurd (omega (arith, h.1))) f.keeps; known = f.known }

-- where the bank is as it was
pub keeping-same : (w : Store) (kept : List Term) (p q : Pace) → q.constants ≡ p.constants → q.memo ≡ p.memo → Keeping w w kept p q
keeping-same w kept p q constants memo = record { keeps = Keeps-refl w kept; known = known-same w p q constants memo }

pub keeping-made : (old new : Store) (tree : Option Tree) (x : Result Term BankFault) (kept : List Term) (p : Pace)
    → MakesOrRefuses old new tree x → Keeping old new kept p p
keeping-made old new tree (Ok r) kept p m = record {
  keeps = record { trees = λ t u e h. (Grows-made old new tree (Ok r) m).trees t u e; beside = m.beside };
  known = known-made old new tree (Ok r) p m;
}
keeping-made old new tree (Err e) kept p m = record { keeps = Keeps-Refuses kept m; known = known-refused p m }

-- a make that was refused, and then a reclaim
pub keeping-after-refusal : {old mid new : Store} {tree : Option Tree} {e : BankFault} {kept : List Term} {p p' : Pace}
    → Refuses old mid tree e → Reclaims mid new kept → KeepsKnown mid new p p' → Keeping old new kept p p'
keeping-after-refusal {p = p} r m k = record { keeps = Keeps-after-refusal r m; known = known-trans (known-refused p r) k }
