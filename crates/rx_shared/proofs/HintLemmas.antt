-- Which slots have entries in the hints, as cells come and go.
use Rattle.std.proofs.Common.{◌≡◌, ◌≢◌, ℕ, ◌+◌, ◌*◌, ◌<◌, List, inl, inr, Option, Some, None, IsSome, is_some, refl, sym, ap, subst, ◌∙◌, arith}
use Rattle.std.proofs.lemmas.Bool.Decides.{eqb_tells}
use Rattle.rx_arena.specs.declared.CellBody.{CellBody}
use Rattle.rx_arena.specs.declared.Face.{Face}
use Rattle.rx_arena.specs.Faces.{ask, word_of}
use Rattle.rx_arena.proofs.FaceLemmas.{fits-small, word-small}
use Rattle.rx_arena.specs.Put.{times}
use Rattle.rx_arena.specs.Arena.{Taken, ArenaState, taken_at}
use Rattle.rx_sweep.specs.Reach.{names, cell_names}
use Rattle.rx_shared.specs.Bodies.{cell_of, whole, IsWritten}
use Rattle.rx_shared.specs.Inner.Finding.{HoldsWord}
use Rattle.rx_shared.specs.Inner.Hints.{entry, Covers, CoversTaken, Stays}
use Rattle.rx_shared.specs.Tidy.{heap_of, cell_in}
use Rattle.rx_shared.specs.declared.bank.SharedBank.{SharedBank}
use Rattle.rx_shared.specs.State.{store_of, store_from, tree_of_body}
use Rattle.rx_shared.specs.Inner.Soundness.{table, cell-held}
use Rattle.rx_term.specs.Name.{Signature}
use Rattle.rx_term.specs.Tree.{Tree}
use Rattle.rx_term.specs.Store.{tree_at, longer, applied}
use Rattle.rx_term.specs.declared.Term.{Term}
use Rattle.rx_term.proofs.HeapLemmas.{lt_or_le}
use Rattle.rx_names.specs.Names.{symbols_of}
use Rattle.rx_term.specs.Heap.{Least, is_whole}
use Rattle.rx_term.specs.Steps.{Makes}
use Rattle.rx_shared.proofs.BodyLemmas.{cell-taken, same-body, same-word}
use Rattle.rx_shared.proofs.ContentLemmas.{same-store}
use Rattle.rx_shared.proofs.MakingLemmas.{found}
use Rattle.rx_shared.proofs.ReclaimingLemmas.{bank-closed}

-- an arena without cells
pub covers-none : (xs : List ℕ) (a : ArenaState) → ((s : ℕ) → taken_at a s ≡ None) → CoversTaken xs a
covers-none xs a none s t e = absurd (let n = none s in cc)

-- each cell was there before, with the same body
pub covers-along : (xs ys : List ℕ) (a z : ArenaState)
    → ((s : ℕ) (t : Taken) → taken_at z s ≡ Some t → (v : Taken) × (taken_at a s ≡ Some v) × (v.body ≡ t.body))
    → Stays xs ys → CoversTaken xs a → CoversTaken ys z
covers-along xs ys a z was stays covers s t e =
    let v = was s t e in
    λ p h. stays p (covers s v.0 v.1 p (subst (λ (y : CellBody). 0 < times p (names y)) (sym v.2) h))

-- the same cells
pub covers-same : (xs : List ℕ) (a z : ArenaState) → ((s : ℕ) → taken_at z s ≡ taken_at a s) → CoversTaken xs a → CoversTaken xs z
covers-same xs a z same covers s t e = covers s t (sym (same s) ∙ e)

module _ (b : SharedBank) where
  -- no cell names a free slot
  not-named : (k : ℕ) → taken_at b.arena k ≡ None → (s : ℕ) (t : Taken) → taken_at b.arena s ≡ Some t → (p : ℕ) → 0 < times p (names t.body) → p ≢ k
  not-named k free s t e p h q =
      let there = bank-closed b s p (subst (λ o. 0 < times p (cell_names o)) (sym e) h) in
      let at : taken_at b.arena k ≡ Some there.0 = ap (taken_at b.arena) (sym q) ∙ there.1 in
      cc

  -- a cell more, in a slot that was free
  pub covers-added : (ys : List ℕ) (z : ArenaState) (k : ℕ) (u : Taken) → taken_at b.arena k ≡ None
      → taken_at z k ≡ Some u → ((s : ℕ) → s ≢ k → taken_at z s ≡ taken_at b.arena s)
      → ((s : ℕ) → s ≢ k → 0 < entry b.hints.last.items s → 0 < entry ys s) → Covers ys u.body → CoversTaken ys z
  covers-added ys z k u free here others stays covers s t e = elim (eqb_tells s k) [
    | inl q ↦ (let same : u ≡ t = (let at : taken_at z s ≡ Some u = ap (taken_at z) q.1 ∙ here in cc) in subst (λ (v : Taken). Covers ys v.body) same covers)
    | inr q ↦ (let was : taken_at b.arena s ≡ Some t = sym (others s q.1) ∙ e in λ p h. stays p (not-named k free s t was p h) (b.covered s t was p h))
  ]

  -- if no taken cell can have the body, no slot holds it
  pub ruled-out : (body : CellBody) → IsWritten body → ¬ (Covers b.hints.last.items body) → (s : ℕ) → heap_of b.arena s ≢ Some (cell_of body)
  ruled-out body written out s e =
      let t = cell-taken (taken_at b.arena s) (cell_of body) e in
      let same : t.0.body ≡ body = same-body t.0.body body (b.tidy.written s t.0 t.1) written t.2 in
      out (subst (Covers b.hints.last.items) same (b.covered s t.0 t.1))

  -- a body that is there has its tree already, whatever the hints say then
  pub found-beside : (body : CellBody) (tree : IsSome (tree_of_body (store_of b) body)) (i : ℕ) → heap_of b.arena i ≡ Some (cell_of body)
      → (w : Least (is_whole (heap_of b.arena) (table b) b.arena.cap))
      → Makes (store_of b) (store_from (symbols_of b.names) b.arena w) (tree_of_body (store_of b) body) (record { 0 = i })
  found-beside body tree i e w =
      subst (λ v. Makes (store_of b) v (tree_of_body (store_of b) body) (record { 0 = i }))
      (sym (same-store (symbols_of b.names) b.arena b.arena b.whole w refl refl refl refl)) (found b body tree i e)

-- a slot whose cell has the word of the body that is looked for holds it
pub guessed : (a : ArenaState) (s w : ℕ) (body : CellBody) → HoldsWord a s w → w ≡ word_of body → heap_of a s ≡ Some (cell_of body)
guessed a s w body (t, here, is, ne) e = ap cell_in here ∙ ap (λ (f : Face). Some (cell_of (whole f))) (same-word w t.body body ne is e)

-- the slot of a held reference is small
pub held-small : (b : SharedBank) (t : Term) → IsSome (tree_at (store_of b) t) → t.0 < 1073741824
held-small b t held = elim (lt_or_le t.0 b.arena.cap) [
  | inl lt ↦ (let small = b.tidy.small in omega (arith, lt, small))
  | inr le ↦ absurd (let there = sym (cell-held b t.0) ∙ held in let gone = ap (λ o. is_some (cell_in o)) (b.tidy.bounded t.0 le) in let both =
      sym gone ∙ there in cc)
]

-- the word of a body without annotations does not say to ask the cell, where its parts are small
pub not-asked : (k a b hash : ℕ) → k < 4 → b < 1073741824 → (a < 4294967296) × ((k * 1073741824 + b) * 4294967296 + a < 18446744073709551615)
    → word_of (record { kind = k; a = a; b = b; anns = None; hash = hash }) ≢ ask
not-asked k a b hash few low small e =
    let s : (k * 1073741824 + b) * 4294967296 + a ≡ 18446744073709551615 =
    sym (word-small (record { kind = k; a = a; b = b; anns = None; hash = hash }) (fits-small k a b few small.0 low)) ∙ e in
    let less = small.1 in
    omega (arith, s, less)

-- the list after a first item is held, and so are arguments
pub longer-tail : (x xs : Option Tree) → IsSome (longer x xs) → IsSome xs
longer-tail None None h = h
longer-tail (Some t) None h = h
longer-tail x (Some u) h = refl

pub applied-args : (s : Option Signature) (xs : Option Tree) → IsSome (applied s xs) → IsSome xs
applied-args None None h = h
applied-args (Some g) None h = h
applied-args s (Some u) h = refl
