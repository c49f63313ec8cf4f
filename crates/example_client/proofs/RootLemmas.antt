-- What is protected, after the calls of an engine.
use Rattle.std.proofs.Common.{ℕ, ◌≡◌, ◌<◌, ◌+◌, [], Result, Ok, Err, refl, sym, subst, ◌∙◌, inl, inr, arith}
use Rattle.std.proofs.lemmas.Bool.Decides.{eqb_tells}
use Rattle.rx_term.specs.Store.{Store, tree_at}
use Rattle.rx_term.specs.Steps.{Keeps, IsSound, ProtectsOrRefuses, with_count}
use Rattle.rx_term.specs.declared.Term.{Term}
use Rattle.rx_term.specs.declared.faults.RootsFull.{RootsFull}
use Rattle.rx_term.proofs.KeepLemmas.{kept-root}
use Rattle.example_client.specs.Kept.{IsProtected, KeepsRoots}

-- what makes and collections keep, roots among it
pub roots_kept : (a b : Store) → IsSound a → Keeps a b [] → KeepsRoots a b
roots_kept a b s k t p = (subst (λ (f : ℕ → ℕ). 0 < f t.0) (sym k.beside.roots) p, kept-root k t p (s.rooted_held t p))

pub roots_more : (a b c : Store) → KeepsRoots a b → KeepsRoots b c → KeepsRoots a c
roots_more a b c k l t p = let q = k t p in let r = l t q.0 in (r.0, r.1 ∙ q.1)

-- a count that is not 0
pub roots_counted : (w : Store) (t : Term) (n : ℕ) → 0 < n → KeepsRoots w (with_count w t n)
roots_counted w t n some s p = elim (eqb_tells s.0 t.0) [
  | inl e ↦ (rw e.0 some, refl)
  | inr e ↦ (rw e.0 p, refl)
]

pub counted : (w : Store) (t : Term) (n : ℕ) → 0 < n → IsProtected (with_count w t n) t
counted w t n some = elim (eqb_tells t.0 t.0) [
  | inl e ↦ rw e.0 some
  | inr e ↦ absurd (e.1 refl)
]

-- what a protection is answered with
pub roots_protected : (a b : Store) (t : Term) (r : Result (Unit {0}) RootsFull) → ProtectsOrRefuses a b t r → KeepsRoots a b
roots_protected a b t (Ok u) h = subst (KeepsRoots a) (sym h.1) (roots_counted a t (a.roots t.0 + 1) (omega arith))
roots_protected a b t (Err e) h = subst (KeepsRoots a) (sym h.1) (λ s p. (p, refl))
