-- What is left while one term is protected once more.
use Rattle.std.proofs.Common.{ℕ, ◌≡◌, [], ◌∷◌, Some, Contains, inl, inr, sym, ap, subst}
use Rattle.std.proofs.lemmas.Bool.Decides.{eqb_tells}
use Rattle.rx_term.specs.Tree.{Tree}
use Rattle.rx_term.specs.Store.{Store, tree_at}
use Rattle.rx_term.specs.Steps.{IsKeptRoot, IsReached, Reclaims, with_count}
use Rattle.rx_term.specs.declared.Term.{Term}
use Rattle.rx_term.proofs.PartsLemmas.{cons_head, no_element}

-- a root of the store with another count of t is a root, or t
kept_root : (w : Store) (t r : Term) (n : ℕ) → IsKeptRoot (with_count w t n) [] r → IsKeptRoot w (t ∷ []) r
kept_root w t r n k = elim (eqb_tells r.0 t.0) [
  | inl p ↦ inr (subst (λ x. Contains (t ∷ []) x) (ap (λ j. let x : Term = record { 0 = j } in x) (sym p.1)) (cons_head t []))
  | inr p ↦ elim k [ inl h ↦ inl (rw p.0 at h) | inr h ↦ absurd (no_element r h) ]
]

-- so what a collection leaves was reached from the roots, or from t
pub only_reached : (a b c : Store) (t : Term) (n : ℕ) → b ≡ with_count a t n → Reclaims b c [] → (s : Term) (u : Tree) → tree_at c s ≡ Some u
    → IsReached a (t ∷ []) u
only_reached a b c t n e m s u h =
    let k = (m.only s u h).1 in
    (k.0, (k.1.0, kept_root a t k.0 n (rw e at k.1.1), rw e at k.1.2, k.1.3))
