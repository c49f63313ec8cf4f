-- What lies in the slots after a change of a cell or of what stands beside it, and what is told of it beside the cells.
use Rattle.std.proofs.Common.{◌≡◌, ℕ, zero, suc, ◌+◌, ◌-◌, ◌<◌, List, [], ◌∷◌, ◌++◌, length, get_or, set, map, Some, None, IfSome}
use Rattle.std.proofs.Common.{refl, sym, ap, subst, ◌∙◌, arith}
use Rattle.std.proofs.lemmas.List.{set-get_or, take_all, take-append-le, length-map, map-set, map-append, get_or-map}
use Rattle.std.proofs.Math.Seq.{map-set_same}
use Rattle.std.specs.Prelude.{Option, replicate, take}
use Rattle.std.specs.Option.{option_map}
use Rattle.rx_arena.specs.Inner.Node.{Stored, Node, node_at, node_of, changed, with_mark, with_next, given_back}
use Rattle.rx_arena.specs.Inner.Held.{IsHeld}
use Rattle.rx_arena.specs.Inner.Tables.{HasTables, nodes_of}
use Rattle.rx_arena.proofs.PutLemmas.{within_some}

pub length-nodes : (ks : List ℕ) (ts : List (Option ℕ)) (cs : List (Option Stored)) → HasTables ks ts cs → length (nodes_of ks ts cs) ≡ length cs
length-nodes [] ts cs e = e.0
length-nodes (k ∷ ks) [] cs e = absurd (omega (arith, e))
length-nodes (k ∷ ks) (t ∷ ts) [] e = absurd (omega (arith, e))
length-nodes (k ∷ ks) (t ∷ ts) (c ∷ cs) e = ap suc (length-nodes ks ts cs (omega (arith, e), omega (arith, e)))

-- what lies at one slot
pub at-nodes : (ks : List ℕ) (ts : List (Option ℕ)) (cs : List (Option Stored)) (s : ℕ) → HasTables ks ts cs
    → get_or (nodes_of ks ts cs) s None ≡ option_map (node_of (get_or ks s 0) (get_or ts s None)) (get_or cs s None)
at-nodes [] ts [] s e = refl
at-nodes [] ts (c ∷ cs) s e = absurd (omega (arith, e))
at-nodes (k ∷ ks) [] cs s e = absurd (omega (arith, e))
at-nodes (k ∷ ks) (t ∷ ts) [] s e = absurd (omega (arith, e))
at-nodes (k ∷ ks) (t ∷ ts) (c ∷ cs) zero e = refl
at-nodes (k ∷ ks) (t ∷ ts) (c ∷ cs) (suc s) e = at-nodes ks ts cs s (omega (arith, e), omega (arith, e))

-- a slot is written, and what stands beside it
pub set-nodes : (ks : List ℕ) (ts : List (Option ℕ)) (cs : List (Option Stored)) (s k : ℕ) (t : Option ℕ) (c : Option Stored) → HasTables ks ts cs
    → nodes_of (set ks s k) (set ts s t) (set cs s c) ≡ set (nodes_of ks ts cs) s (option_map (node_of k t) c)
set-nodes [] ts cs s k t c e = refl
set-nodes (j ∷ ks) [] cs s k t c e = absurd (omega (arith, e))
set-nodes (j ∷ ks) (u ∷ ts) [] s k t c e = absurd (omega (arith, e))
set-nodes (j ∷ ks) (u ∷ ts) (d ∷ cs) zero k t c e = refl
set-nodes (j ∷ ks) (u ∷ ts) (d ∷ cs) (suc s) k t c e =
    ap (λ z. option_map (node_of j u) d ∷ z) (set-nodes ks ts cs s k t c (omega (arith, e), omega (arith, e)))

empty-nodes : (n : ℕ) → nodes_of (replicate n 0) (replicate n None) (replicate n None) ≡ replicate n None
empty-nodes zero = refl
empty-nodes (suc n) = ap (λ z. None ∷ z) (empty-nodes n)

-- a block is added
pub grown-nodes : (ks : List ℕ) (ts : List (Option ℕ)) (cs : List (Option Stored)) (n : ℕ) → HasTables ks ts cs
    → nodes_of (ks ++ replicate n 0) (ts ++ replicate n None) (cs ++ replicate n None) ≡ nodes_of ks ts cs ++ replicate n None
grown-nodes [] [] [] n e = empty-nodes n
grown-nodes [] [] (c ∷ cs) n e = absurd (omega (arith, e))
grown-nodes [] (t ∷ ts) cs n e = absurd (omega (arith, e))
grown-nodes (k ∷ ks) [] cs n e = absurd (omega (arith, e))
grown-nodes (k ∷ ks) (t ∷ ts) [] n e = absurd (omega (arith, e))
grown-nodes (k ∷ ks) (t ∷ ts) (c ∷ cs) n e =
    ap (λ z. option_map (node_of k t) c ∷ z) (grown-nodes ks ts cs n (omega (arith, e), omega (arith, e)))

stored-at : (k : ℕ) (t : Option ℕ) (c : Option Stored) (n : Node) → option_map (node_of k t) c ≡ Some n → (m : Stored) × (c ≡ Some m)
stored-at k t None n e = absurd (cc)
stored-at k t (Some m) n e = (m, refl)

mapped : {X Y : Type 0} (f : X → Y) (c : Option X) (P : X → Type 0) (Q : Y → Type 0) → ((x : X) → P x → Q (f x)) → IfSome c P → IfSome (option_map f c) Q
mapped f None P Q h p = tt
mapped f (Some x) P Q h p = h x p

unmapped : {X Y : Type 0} (f : X → Y) (c : Option X) (P : X → Type 0) (Q : Y → Type 0) → ((x : X) → Q (f x) → P x) → IfSome (option_map f c) Q → IfSome c P
unmapped f None P Q h q = tt
unmapped f (Some x) P Q h q = h x q

module _ (ks : List ℕ) (ts : List (Option ℕ)) (cs : List (Option Stored)) (has : HasTables ks ts cs) (s : ℕ) where
  -- the node that a cell makes in the slot
  abbrev here : Stored → Node
  here = node_of (get_or ks s 0) (get_or ts s None)

  -- what lies in the slot is changed: the cell, the mark and the next slot
  pub changed-nodes : (k : ℕ) (t : Option ℕ) (g : Stored → Stored) (f : Node → Node) → ((c : Stored) → node_of k t (g c) ≡ f (here c))
      → nodes_of (set ks s k) (set ts s t) (changed s g cs) ≡ changed s f (nodes_of ks ts cs)
  changed-nodes k t g f same = set-nodes ks ts cs s k t (option_map g (node_at cs s)) has
      ∙ ap (set (nodes_of ks ts cs) s) (both (node_at cs s) ∙ sym (ap (option_map f) (at-nodes ks ts cs s has))) where
        both : (c : Option Stored) → option_map (node_of k t) (option_map g c) ≡ option_map f (option_map here c)
        both None = refl
        both (Some c) = ap Some (same c)

  itself : changed s (λ c. c) cs ≡ cs
  itself = ap (set cs s) (kept (node_at cs s)) ∙ set-get_or cs s None where
    kept : (c : Option Stored) → option_map (λ (x : Stored). x) c ≡ c
    kept None = refl
    kept (Some c) = refl

  -- the cell alone is changed
  pub cell-nodes : (g : Stored → Stored) (f : Node → Node) → ((c : Stored) → here (g c) ≡ f (here c))
      → nodes_of ks ts (changed s g cs) ≡ changed s f (nodes_of ks ts cs)
  cell-nodes g f same = (λ i. nodes_of (sym (set-get_or ks s 0) i) (sym (set-get_or ts s None) i) (changed s g cs))
      ∙ changed-nodes (get_or ks s 0) (get_or ts s None) g f same

  -- the mark alone
  pub mark-nodes : (k : ℕ) → nodes_of (set ks s k) ts cs ≡ changed s (with_mark k) (nodes_of ks ts cs)
  mark-nodes k = (λ i. nodes_of (set ks s k) (sym (set-get_or ts s None) i) (sym itself i))
      ∙ changed-nodes k (get_or ts s None) (λ c. c) (with_mark k) (λ c. refl)

  -- the next slot alone
  pub next-nodes : (t : Option ℕ) → nodes_of ks (set ts s t) cs ≡ changed s (with_next t) (nodes_of ks ts cs)
  next-nodes t = (λ i. nodes_of (sym (set-get_or ks s 0) i) (set ts s t) (sym itself i))
      ∙ changed-nodes (get_or ks s 0) t (λ c. c) (with_next t) (λ c. refl)

  -- the mark and the next slot
  pub given_back-nodes : (t : Option ℕ) → nodes_of (set ks s 2) (set ts s t) cs ≡ changed s (given_back t) (nodes_of ks ts cs)
  given_back-nodes t = (λ i. nodes_of (set ks s 2) (set ts s t) (sym itself i)) ∙ changed-nodes 2 t (λ c. c) (given_back t) (λ c. refl)

  -- a slot that is seen to hold a node has a cell
  pub held-nodes : IsHeld (nodes_of ks ts cs) s → IsHeld cs s
  held-nodes h = stored-at (get_or ks s 0) (get_or ts s None) (get_or cs s None) h.0 (sym (at-nodes ks ts cs s has) ∙ h.1)

  -- a fact of a cell is one of what is seen
  pub shown-nodes : (P : Stored → Type 0) (Q : Node → Type 0) → ((c : Stored) → P c → Q (here c)) → IfSome (get_or cs s None) P
      → IfSome (get_or (nodes_of ks ts cs) s None) Q
  shown-nodes P Q h p = subst (λ z. IfSome z Q) (sym (at-nodes ks ts cs s has)) (mapped here (get_or cs s None) P Q h p)

  pub unshown-nodes : (P : Stored → Type 0) (Q : Node → Type 0) → ((c : Stored) → Q (here c) → P c) → IfSome (get_or (nodes_of ks ts cs) s None) Q
      → IfSome (get_or cs s None) P
  unshown-nodes P Q h q = unmapped here (get_or cs s None) P Q h (subst (λ z. IfSome z Q) (at-nodes ks ts cs s has) q)

  any_cell : (c : Option Stored) → IfSome c (λ _. Unit {0})
  any_cell None = tt
  any_cell (Some c) = tt

  -- what stands beside a cell is so of the node that is seen
  pub mark-at : IfSome (get_or (nodes_of ks ts cs) s None) (λ n. get_or ks s 0 ≡ n.mark)
  mark-at = shown-nodes (λ _. Unit {0}) (λ n. get_or ks s 0 ≡ n.mark) (λ c _. refl) (any_cell (get_or cs s None))

  pub next-at : IfSome (get_or (nodes_of ks ts cs) s None) (λ n. get_or ts s None ≡ n.next)
  next-at = shown-nodes (λ _. Unit {0}) (λ n. get_or ts s None ≡ n.next) (λ c _. refl) (any_cell (get_or cs s None))

  -- a slot has its entries
  pub within-nodes : s < length (nodes_of ks ts cs) → (s < length ks) × (s < length ts) × (s < length cs)
  within-nodes lt = let e = length-nodes ks ts cs has in (omega (arith, lt, e, has), omega (arith, lt, e, has), omega (arith, lt, e))

  pub held-within : IsHeld (nodes_of ks ts cs) s → (s < length ks) × (s < length ts) × (s < length cs)
  held-within h = within-nodes (within_some (nodes_of ks ts cs) s h.0 h.1)

-- a link that is seen to lead to a node leads to a cell
pub chain-nodes : (ks : List ℕ) (ts : List (Option ℕ)) (cs : List (Option Stored)) (has : HasTables ks ts cs) (s : ℕ)
    → IfSome (get_or (nodes_of ks ts cs) s None) (λ n. IfSome n.chain (IsHeld (nodes_of ks ts cs)))
    → IfSome (get_or cs s None) (λ c. IfSome c.chain (IsHeld cs))
chain-nodes ks ts cs has s = unshown-nodes ks ts cs has s (λ c. IfSome c.chain (IsHeld cs)) (λ n. IfSome n.chain (IsHeld (nodes_of ks ts cs)))
    (λ c. led c.chain) where
      led : (z : Option ℕ) → IfSome z (IsHeld (nodes_of ks ts cs)) → IfSome z (IsHeld cs)
      led None h = tt
      led (Some t) h = held-nodes ks ts cs has t h

-- an entry that is there
pub get_or_any : {A : Type 0} (xs : List A) (s : ℕ) → s < length xs → (d e : A) → get_or xs s d ≡ get_or xs s e
get_or_any [] s lt d e = absurd (omega (arith, lt))
get_or_any (x ∷ xs) zero lt d e = refl
get_or_any (x ∷ xs) (suc s) lt d e = get_or_any xs s (omega (arith, lt)) d e

-- a list with what one block adds
pub resized : {A : Type 0} (xs : List A) (x : A) (n m : ℕ) → n ≡ length xs → m ≡ length xs
    → take (n + 1024) xs ++ replicate (n + 1024 - m) x ≡ xs ++ replicate 1024 x
resized xs x n m e f = let more : n + 1024 - m ≡ 1024 = omega (arith, e, f) in
    λ i. take_all (n + 1024) xs (omega (arith, e)) i ++ replicate (more i) x

-- a new list that is made longer
pub filled : {A : Type 0} (xs : List A) (x : A) (n m : ℕ) → xs ≡ [] → m ≡ 0 → take n xs ++ replicate (n - m) x ≡ replicate n x
filled xs x n m none at =
    let rest : n - m ≡ n = omega (arith, at) in
    (λ i. take_all n xs (omega (arith, ap length none)) i ++ replicate (rest i) x) ∙ ap (λ ys. ys ++ replicate n x) none

-- a list from which what was added is taken away again
pub cut-grown : {A : Type 0} (xs mid new : List A) (x : A) (n : ℕ) → n ≡ length xs → mid ≡ xs ++ replicate 1024 x → new ≡ take n mid → new ≡ xs
cut-grown xs mid new x n e is cut = cut ∙ ap (take n) is ∙ take-append-le n xs (replicate 1024 x) (omega (arith, e)) ∙ take_all n xs (omega (arith, e))

pub cut-back : {A : Type 0} (xs mid new : List A) (x : A) (n m : ℕ) → n ≡ length xs → m ≡ length xs
    → mid ≡ take (n + 1024) xs ++ replicate (n + 1024 - m) x → new ≡ take n mid → new ≡ xs
cut-back xs mid new x n m e f is cut = cut-grown xs mid new x n e (is ∙ resized xs x n m e f) cut

-- a table that tells something of each slot
module _ {Y : Type 0} (f : Option Node → Y) where
  none-told : (n : ℕ) → map f (replicate n None) ≡ replicate n (f None)
  none-told zero = refl
  none-told (suc n) = ap (λ z. f None ∷ z) (none-told n)

  module _ (ys : List Y) (ns : List (Option Node)) (told : ys ≡ map f ns) where
    pub told-length : length ys ≡ length ns
    told-length = ap length told ∙ length-map ns f

    -- a slot is filled
    pub told-set : (s : ℕ) (o : Option Node) → set ys s (f o) ≡ map f (set ns s o)
    told-set s o = ap (λ z. set z s (f o)) told ∙ sym (map-set f ns s o)

    -- what a slot holds is changed, but not what is told of it
    pub told-kept : (s : ℕ) (g : Node → Node) → f (option_map g (node_at ns s)) ≡ f (node_at ns s) → ys ≡ map f (changed s g ns)
    told-kept s g h = told ∙ sym (map-set_same f ns s (option_map g (node_at ns s)) None h)

    -- a block is added
    pub told-grown : (n : ℕ) → ys ++ replicate n (f None) ≡ map f (ns ++ replicate n None)
    told-grown n = (λ i. told i ++ sym (none-told n) i) ∙ sym (map-append f ns (replicate n None))

    -- what is told of one slot
    pub told-at : (s : ℕ) (d : Y) → s < length ns → get_or ys s d ≡ f (node_at ns s)
    told-at s d lt = ap (λ z. get_or z s d) told ∙ get_or-map f ns s None d lt
