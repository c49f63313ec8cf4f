-- What follows from the steps of a store, for those who call one.
use Rattle.std.proofs.Common.{ℕ, ◌+◌, ◌≡◌, ◌≢◌, ◌⊎◌, Option, Some, None, Result, Ok, Err, IsSome, is_some, refl, sym, ap, ◌∙◌, subst, inl, inr, arith}
use Rattle.std.proofs.lemmas.Bool.Decides.{eqb_tells, nat_tests}
use Rattle.std.specs.Ordering.{nat_cmp}
use Rattle.std.specs.Cmp.{nat_cmp_total}
use Rattle.std.specs.FinMap as map
use Rattle.std.specs.FinMap.{gets}
use Rattle.rx_term.specs.Tree.{Tree}
use Rattle.rx_term.specs.Name.{Signature}
use Rattle.rx_term.specs.Store.{Store, tree_at, signature_of}
use Rattle.rx_term.specs.Steps.{Grows, MakesOrRefuses, AddsOrRefuses, Makes, Refuses, Adds}
use Rattle.rx_term.specs.declared.Term.{Term}
use Rattle.rx_term.specs.declared.Symbol.{Symbol}
use Rattle.rx_term.specs.declared.faults.BankFault.{BankFault}

-- two references are the same or not
pub same_term : (t r : Term) → (t ≡ r) ⊎ (t ≢ r)
same_term t r = elim (eqb_tells t.0 r.0) [ inl p ↦ inl (ap (λ k. let x : Term = record { 0 = k } in x) p.1) | inr p ↦ inr (λ e. p.1 (ap (λ x. x.0) e)) ]

pub same_symbol : (s g : Symbol) → (s ≡ g) ⊎ (s ≢ g)
same_symbol t r = elim (eqb_tells t.0 r.0) [ inl p ↦ inl (ap (λ k. let x : Symbol = record { 0 = k } in x) p.1) | inr p ↦ inr (λ e. p.1 (ap (λ x. x.0) e)) ]

pub some-value : {X : Type 0} (o : Option X) → IsSome o → (x : X) × (o ≡ Some x)
some-value None e = cc
some-value (Some x) e = (x, refl)

-- a map with one entry more
pub inserted : {X : Type 0} (c : map.FinMap nat_cmp X) (k : ℕ) (v : X) → map.get (map.insert c k v) k ≡ Some v
inserted c k v = grind (arith, gets, nat_tests)

pub not_inserted : {X : Type 0} (c : map.FinMap nat_cmp X) (k q : ℕ) (v : X) → q ≢ k → map.get (map.insert c k v) q ≡ map.get c q
not_inserted c k q v n = grind (arith, gets, nat_tests)

pub len-insert-new : {X : Type 0} (c : map.FinMap nat_cmp X) (k : ℕ) (v : X) → map.get c k ≡ None → map.len (map.insert c k v) ≡ map.len c + 1
len-insert-new c k v e = map.len-insert nat_cmp_total c k v ∙ rw e refl

some_of : {A : Type 0} {o : Option A} {x : A} → o ≡ Some x → IsSome o
some_of e = ap is_some e

-- a make keeps each tree that was there
pub kept-Makes : {old new : Store} {u : Option Tree} {r : Term} → Makes old new u r → (t : Term) (v : Tree) → tree_at old t ≡ Some v → tree_at new t ≡ Some v
kept-Makes {old = old} {r = r} m t v h =
    elim (same_term t r) [
      | inl e ↦ (let there : IsSome (tree_at old r) = some_of (subst (λ x. tree_at old x ≡ Some v) e h) in ap (λ w. tree_at w t) (m.there there) ∙ h)
      | inr n ↦ m.others t n ∙ h
    ]

-- a new symbol keeps what each one represents
pub kept-Adds : {old new : Store} {g : Signature} {s : Symbol} → Adds old new g s → (t : Symbol) (v : Signature) → signature_of old t ≡ Some v
    → signature_of new t ≡ Some v
kept-Adds {old = old} {s = s} m t v h =
    elim (same_symbol t s) [
      | inl e ↦ (let there : IsSome (signature_of old s) = some_of (subst (λ x. signature_of old x ≡ Some v) e h) in
          ap (λ w. signature_of w t) (m.there there) ∙ h)
      | inr n ↦ m.others t n ∙ h
    ]

pub Grows-Makes : {old new : Store} {u : Option Tree} {r : Term} → Makes old new u r → Grows old new
Grows-Makes {old = old} {new = new} m = record {
  trees = kept-Makes m;
  symbols = λ s g e. ap (λ t. map.get t s.0) m.beside.symbols ∙ e;
  roots = m.beside.roots;
  cap = m.beside.cap;
  room = m.room;
}

pub Grows-Refuses : {old new : Store} {u : Option Tree} {e : BankFault} → Refuses old new u e → Grows old new
Grows-Refuses {old = old} {new = new} m = record {
  trees = λ t u e. ap (λ c. map.get c t.0) m.content ∙ e;
  symbols = λ s g e. ap (λ t. map.get t s.0) m.beside.symbols ∙ e;
  roots = m.beside.roots;
  cap = m.beside.cap;
  room = let e = ap map.len m.content in let r = m.room in omega arith;
}

pub Grows-made : (old new : Store) (u : Option Tree) (x : Result Term BankFault) → MakesOrRefuses old new u x → Grows old new
Grows-made old new u (Ok r) m = Grows-Makes m
Grows-made old new u (Err e) m = Grows-Refuses m

pub Grows-Adds : {old new : Store} {g : Signature} {s : Symbol} → Adds old new g s → Grows old new
Grows-Adds {old = old} {new = new} m = record {
  trees = λ t u e. ap (λ c. map.get c t.0) m.content ∙ e;
  symbols = kept-Adds m;
  roots = m.roots;
  cap = m.cap;
  room = let e = ap map.len m.content in let r = m.spare in omega arith;
}

pub Grows-refl : (w : Store) → Grows w w
Grows-refl w = record { trees = λ t u e. e; symbols = λ s g e. e; roots = refl; cap = refl; room = omega arith }

pub Grows-trans : {a b c : Store} → Grows a b → Grows b c → Grows a c
Grows-trans p q = record {
  trees = λ t u e. q.trees t u (p.trees t u e);
  symbols = λ s g e. q.symbols s g (p.symbols s g e);
  roots = q.roots ∙ p.roots;
  cap = q.cap ∙ p.cap;
  room = let x = p.room in let y = q.room in omega arith;
}

pub Grows-added : (old new : Store) (g : Signature) (x : Result Symbol BankFault) → AddsOrRefuses old new g x → Grows old new
Grows-added old new g (Ok s) m = Grows-Adds m
Grows-added old new g (Err e) m = subst (Grows old) (sym m.0) (Grows-refl old)

pub ruleset bank_steps = (kept-Makes, kept-Adds)
