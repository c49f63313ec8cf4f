-- What makes and collections keep.
use Rattle.std.proofs.Common.{◌≡◌, ◌<◌, inl, inr, List, Option, Some, IsSome, Contains, refl, sym, ap, ◌∙◌, subst}
use Rattle.std.specs.FinMap as map
use Rattle.rx_term.specs.Tree.{Tree}
use Rattle.rx_term.specs.Store.{Store, tree_at}
use Rattle.rx_term.specs.Steps.{SameBesideContent, IsReached, IsKeptRoot, Reclaims, Refuses, Keeps, IsExhausted}
use Rattle.rx_term.specs.declared.Term.{Term}
use Rattle.rx_term.specs.declared.faults.BankFault.{BankFault}
use Rattle.rx_term.specs.declared.faults.BankFault.TheVariants.{Full}
use Rattle.rx_term.proofs.PartsLemmas.{parts-self}
use Rattle.rx_term.proofs.StoreLemmas.{some-value}

pub Keeps-refl : (w : Store) (work : List Term) → Keeps w w work
Keeps-refl w work = record { trees = λ t u e h. e; beside = record { symbols = refl; roots = refl; cap = refl } }

pub beside-trans : {a b c : Store} → SameBesideContent a b → SameBesideContent b c → SameBesideContent a c
beside-trans p q = record { symbols = q.symbols ∙ p.symbols; roots = q.roots ∙ p.roots; cap = q.cap ∙ p.cap }

-- what is reached is still reached
pub still-reached : {old new : Store} {work : List Term} → Keeps old new work → (u : Tree) → IsReached old work u → IsReached new work u
still-reached {old = old} {new = new} {work = work} k u h =
    let r = h.0 in
    let v = h.1.0 in
    let root : IsKeptRoot new work r = elim h.1.1 [ inl p ↦ inl (subst (λ roots. 0 < roots r.0) (sym k.beside.roots) p) | inr p ↦ inr p ] in
    (r, (v, root, k.trees r v h.1.2 (r, (v, h.1.1, h.1.2, parts-self v)), h.1.3))

pub Keeps-trans : {a b c : Store} {work : List Term} → Keeps a b work → Keeps b c work → Keeps a c work
Keeps-trans p q = record { trees = λ t u e h. q.trees t u (p.trees t u e h) (still-reached p u h); beside = beside-trans p.beside q.beside }

same-trees : {old new : Store} (work : List Term) → new.content ≡ old.content → SameBesideContent old new → Keeps old new work
same-trees work e beside = record { trees = λ t u q h. ap (λ c. map.get c t.0) e ∙ q; beside = beside }

pub Keeps-Refuses : {old new : Store} {tree : Option Tree} {e : BankFault} (work : List Term) → Refuses old new tree e → Keeps old new work
Keeps-Refuses work m = same-trees work m.content m.beside

pub Keeps-Reclaims : {old new : Store} {work : List Term} → Reclaims old new work → Keeps old new work
Keeps-Reclaims m = record { trees = m.kept; beside = m.beside }

-- a make that was refused, and then a collection
pub Keeps-after-refusal : {old mid new : Store} {tree : Option Tree} {e : BankFault} {work : List Term} → Refuses old mid tree e
    → Reclaims mid new work → Keeps old new work
Keeps-after-refusal {work = work} r m = Keeps-trans (Keeps-Refuses work r) (Keeps-Reclaims m)

pub reached-more : (w : Store) (xs ys : List Term) (u : Tree) → ((t : Term) → Contains xs t → Contains ys t) → IsReached w xs u → IsReached w ys u
reached-more w xs ys u within h = (h.0, (h.1.0, elim h.1.1 [ inl p ↦ inl p | inr p ↦ inr (within h.0 p) ], h.1.2, h.1.3))

-- what a longer work list keeps, a shorter one keeps
pub Keeps-fewer : {old new : Store} {xs ys : List Term} → ((t : Term) → Contains xs t → Contains ys t) → Keeps old new ys → Keeps old new xs
Keeps-fewer {old = old} {xs = xs} {ys = ys} within k = record { trees = λ t u e h. k.trees t u e (reached-more old xs ys u within h); beside = k.beside }

-- a reference of the work list keeps its tree
pub kept-work : {old new : Store} {work : List Term} → Keeps old new work → (t : Term) → Contains work t → IsSome (tree_at old t)
    → tree_at new t ≡ tree_at old t
kept-work {old = old} k t c h = let x = some-value (tree_at old t) h in k.trees t x.0 x.1 (t, (x.0, inr c, x.1, parts-self x.0)) ∙ sym x.1

-- so it is still held
pub still-held : {old new : Store} {work : List Term} → Keeps old new work → ((t : Term) → Contains work t → IsSome (tree_at old t)) → (t : Term)
    → Contains work t → IsSome (tree_at new t)
still-held k held t c = subst IsSome (sym (kept-work k t c (held t c))) (held t c)

-- a protected reference keeps its tree
pub kept-root : {old new : Store} {work : List Term} → Keeps old new work → (t : Term) → 0 < old.roots t.0 → IsSome (tree_at old t)
    → tree_at new t ≡ tree_at old t
kept-root {old = old} k t p h = let x = some-value (tree_at old t) h in k.trees t x.0 x.1 (t, (x.0, inl p, x.1, parts-self x.0)) ∙ sym x.1

-- right after a collection, a make that is refused for want of cells finds nothing that could be freed
pub exhausted : {old mid new : Store} {work : List Term} {tree : Option Tree} → Reclaims old mid work → Refuses mid new tree Full → IsExhausted new work
exhausted {old = old} {mid = mid} {new = new} {work = work} m r = record {
  full = ap map.len r.content ∙ r.fits ∙ sym r.beside.cap;
  needed = λ t u e. (
      let e' : tree_at mid t ≡ Some u = ap (λ c. map.get c t.0) (sym r.content) ∙ e in
      let o = m.only t u e' in
      still-reached (Keeps-Refuses work r) u (still-reached (Keeps-Reclaims m) u o.1));
}
