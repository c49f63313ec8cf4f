-- A list in a bank, what protects it, and what others protect.
use Rattle.std.proofs.Common.{◌+◌, ◌-◌, ◌<◌, ◌≤◌, ℕ, arith, refl, sym, ap, subst, ◌∙◌, length, drop, get_or}
use Rattle.std.specs.Prelude.{◌≡◌, ◌==◌, List, [], ◌∷◌, OnErr, OnOk, Option, Some, Ok}
use Rattle.std.specs.Prelude.{Err, Result, IsSome, is_some, if◌then◌else◌, unwrap_or}
use Rattle.std.specs.Option.{option_and_then}
use Rattle.std.proofs.lemmas.Bool.Decides.{nat_tests}
use Rattle.rx_term.specs.Tree.{Tree, none, more, from_list, items_of, list_of, to_list}
use Rattle.rx_term.specs.Store.{Store, tree_at, longer, part_at, tail_of}
use Rattle.rx_term.specs.Steps.{Keeps, with_count}
use Rattle.rx_term.specs.Walks.{held_tree}
use Rattle.rx_term.specs.declared.Term.{Term}
use Rattle.rx_term.proofs.StoreLemmas.{some-value}
use Rattle.rx_term.proofs.KeepLemmas.{kept-root}
use Rattle.rx_term.proofs.TreeLemmas.{to_from_list}
use Rattle.rec_engine.specs.Engine.{EngineState, SameEngine}
use Rattle.rec_trace.specs.Lists.{listed, IsList, count_among, IsKept, Spares, Stays, protected_instead}

-- an engine that stays the same twice
pub same_both : {B : Type 0} {a b c : EngineState B} → SameEngine a b → SameEngine b c → SameEngine a c
same_both p q = record { spec = q.spec ∙ p.spec; options = q.options ∙ p.options }

-- what a reference of a list holds
pub items-are : (w : Store) (r : Term) (ts : List Tree) → tree_at w r ≡ Some (list_of (from_list ts)) → listed w r ≡ ts
items-are w r ts e = ap (λ (o : Option Tree). to_list (items_of (unwrap_or o (list_of none)))) e ∙ to_from_list ts

pub is-list : (w : Store) (r : Term) (ts : List Tree) → tree_at w r ≡ Some (list_of (from_list ts)) → IsList w r
is-list w r ts e = e ∙ ap (λ (xs : List Tree). let o : Option Tree = Some (list_of (from_list xs)) in o) (sym (items-are w r ts e))

pub is-there : (w : Store) (r : Term) → IsList w r → IsSome (tree_at w r)
is-there w r list = ap is_some list

-- a reference whose tree stays is of the same list
pub same-list : (w w' : Store) (r : Term) → tree_at w' r ≡ tree_at w r → IsList w r → IsList w' r × (listed w' r ≡ listed w r)
same-list w w' r e list = (is-list w' r (listed w r) (e ∙ list), items-are w' r (listed w r) (e ∙ list))

-- a list with one item more
pub longer-list : (w : Store) (t below : Term) → IsSome (tree_at w t) → IsList w below
    → longer (tree_at w t) (tree_at w below) ≡ Some (list_of (from_list (held_tree w t ∷ listed w below)))
longer-list w t below held list =
    let x = some-value (tree_at w t) held in
    ap (λ o. longer o (tree_at w below)) x.1 ∙ ap (longer (Some x.0)) list
    ∙ ap (λ (o : Option Tree). let u : Option Tree = Some (list_of (more (unwrap_or o (list_of none)) (from_list (listed w below)))) in u) (sym x.1)

-- the first item of a list that has one, and the others
pub first-of : (xs : List Tree) → 0 < length xs → xs ≡ get_or xs 0 (list_of none) ∷ drop 1 xs
first-of [] lt = let no : ⊥ = omega (arith, lt) in absurd no
first-of (x ∷ xs) lt = refl

pub tail-is : (w : Store) (r : Term) → IsList w r → 0 < length (listed w r) → part_at tail_of w r ≡ Some (list_of (from_list (drop 1 (listed w r))))
tail-is w r list lt = ap (option_and_then tail_of) (list ∙ ap (λ (xs : List Tree). let o : Option Tree = Some (list_of (from_list xs)) in o)
    (first-of (listed w r) lt))

-- one count goes up, and then another one goes down
moved : (f : ℕ → ℕ) (a b k : ℕ) → 0 < f a
    → (if k == a then (if a == b then f b + 1 else f a) - 1 else (if k == b then f b + 1 else f k)) + (if k == a then 1 else 0) ≡ f
    k + (if k == b then 1 else 0)
moved f a b k low = grind (arith, nat_tests)

pub itself : (k : ℕ) → ◌≡◌ {A = ℕ} (if k == k then 1 else 0) 1
itself k = grind (arith, nat_tests)

-- the list is protected
pub rooted : (w : Store) (r : Term) → IsKept w r → 0 < w.roots r.0
rooted w r kept = let c = kept.counted r.0 in let e = itself r.0 in omega (arith, c, e)

pub spares-trans : {a b c : Store} {l m n : Term} → Spares a b l m → Spares b c m n → Spares a c l n
spares-trans {a} {b} {c} {l} {m} {n} p q = record {
  counts = λ k. (let x = p.counts k in let y = q.counts k in omega (arith, x, y));
  trees = λ t u e low. q.trees t u (p.trees t u e low) (let x = p.counts t.0 in omega (arith, x, low));
  cap = q.cap ∙ p.cap;
}

pub stays-trans : {a b c : Store} {l m n : Term} → Stays a b l m → Stays b c m n → Stays a c l n
stays-trans p q = record { kept = q.kept; spares = spares-trans p.spares q.spares }

-- nothing happens
pub stays-same : (w : Store) (r : Term) → IsKept w r → Stays w w r r
stays-same w r kept = record { kept = kept; spares = record { counts = λ k. refl; trees = λ t u e low. e; cap = refl } }

-- a call of the engine keeps the list, and its tree
pub kept-tree : (w w' : Store) (work : List Term) (r : Term) → IsKept w r → Keeps w w' work → tree_at w' r ≡ tree_at w r
kept-tree w w' work r kept keeps = kept-root keeps r (rooted w r kept) (is-there w r kept.list)

pub stays-kept : (w w' : Store) (work : List Term) (r : Term) → IsKept w r → Keeps w w' work → Stays w w' r r
stays-kept w w' work r kept keeps = record {
  kept = record {
    list = (same-list w w' r (kept-tree w w' work r kept keeps) kept.list).0;
    counted = λ k. subst (λ (roots : ℕ → ℕ). count_among r k ≤ roots k) (sym keeps.beside.roots) (kept.counted k);
  };
  spares = record {
    counts = λ k. ap (λ (roots : ℕ → ℕ). roots k + count_among r k) keeps.beside.roots;
    trees = λ t u e low. kept-root keeps t (omega (arith, low)) (ap is_some e) ∙ e;
    cap = keeps.beside.cap;
  };
}

pub kept-list : (w w' : Store) (work : List Term) (r : Term) → IsKept w r → Keeps w w' work → listed w' r ≡ listed w r
kept-list w w' work r kept keeps = (same-list w w' r (kept-tree w w' work r kept keeps) kept.list).1

-- another list is protected in the place of the list
pub list-moved : (w w' : Store) (a b : Term) → IsKept w a → IsList w b → w' ≡ protected_instead w a b → Stays w w' a b
list-moved w w' a b kept list e = subst (λ x. Stays w x a b) (sym e) (record {
  kept = record {
    list = list;
    counted = λ k. (let c = kept.counted k in let m = moved w.roots a.0 b.0 k (rooted w a kept) in omega (arith, c, m));
  };
  spares = record {
    counts = λ k. (let m = moved w.roots a.0 b.0 k (rooted w a kept) in omega (arith, m));
    trees = λ t u e low. e;
    cap = refl;
  };
})

pub moved-tree : (w w' : Store) (a b r : Term) → w' ≡ protected_instead w a b → tree_at w' r ≡ tree_at w r
moved-tree w w' a b r e = ap (λ x. tree_at x r) e

-- a fact of an answer follows from another one
pub on-ok : {A E : Type 0} {P Q : Type 0} (r : Result A E) → (P → Q) → OnOk r P → OnOk r Q
on-ok (Ok a) f p = f p
on-ok (Err e) f p = tt

-- a fact that holds anyway
pub on-err : {A E : Type 0} {P : Type 0} (r : Result A E) → P → OnErr r P
on-err (Ok a) p = tt
on-err (Err e) p = p

-- the empty list is protected
pub empty-kept : (w w1 : Store) (nil : Term) → tree_at w nil ≡ Some (list_of none) → w1 ≡ with_count w nil (w.roots nil.0 + 1)
    → IsKept w1 nil × (listed w1 nil ≡ [])
empty-kept w w1 nil is e =
    let there : tree_at w1 nil ≡ Some (list_of (from_list [])) = ap (λ x. tree_at x nil) e ∙ is in (
      record {
        list = is-list w1 nil [] there;
        counted = λ k. subst (λ x. count_among nil k ≤ x.roots k) (sym e) (once w.roots nil.0 k);
      },
      items-are w1 nil [] there,
    )
  where
    once : (f : ℕ → ℕ) (a k : ℕ) → (if k == a then 1 else 0) ≤ (if k == a then f a + 1 else f k)
    once f a k = grind (arith, nat_tests)
