-- A store's arena mirrors its store.
use Rattle.std.proofs.Common.{◌≡◌, ◌≢◌, ℕ, zero, suc, [], ◌∷◌, get_or, ◌+◌, ◌%◌, ◌≤◌, inl, inr, List}
use Rattle.std.proofs.Common.{length, Option, Some, None, IsSome, is_some, refl, sym, ap, ◌∙◌, arith}
use Rattle.std.specs.Prelude.{cond, nat_eq}
use Rattle.std.proofs.lemmas.Bool.Decides.{eqb_tells}
use Rattle.rx_term.specs.Tree.{Tree, Trees, Int, Appl, Items, Hole, none, more, annotations}
use Rattle.rx_term.specs.Heap.{Says, Notes}
use Rattle.rx_arena.specs.declared.CellBody.{CellBody}
use Rattle.rx_arena.specs.declared.Slot.{Slot}
use Rattle.rx_arena.specs.Put.{times, times_in}
use Rattle.rx_arena.specs.Arena.{Taken, ArenaState, taken_at, IsTaken, chain_at, stored_hash, hash_at, root_count}
use Rattle.rx_arena.proofs.PutLemmas.{times_in-at}
use Rattle.rx_shared.specs.Bodies.{notes_of, cell_of, IsWritten}
use Rattle.rx_shared.specs.Tidy.{IsTidy, cell_in}
use Rattle.rx_shared.specs.State.{store_of}
use Rattle.rx_sweep.specs.Reach.{IsHomed}
use Rattle.rx_arena.proofs.WalkLemmas.{chain_in}
use Rattle.rx_shared.specs.Inner.Soundness.{table, cell-held, bank-law}
use Rattle.rx_shared.specs.Mirror.{HasWords, HasNotes, Mirrors}
use Rattle.rx_shared.specs.declared.bank.SharedBank.{SharedBank}
use Rattle.rx_term.proofs.NoteLemmas.{says-notes}
use Rattle.rx_shared.proofs.ReadingLemmas.{trees, held-taken, body-says, kind-is, first-is, second-is}

module _ (b : SharedBank) (x : CellBody) (written : IsWritten x) where
  words-of : (u : Tree) → Says (trees b) (table b) (cell_of x) u → HasWords (store_of b) u x
  words-of (Int z anns) s = (kind-is x written _ s.0, first-is x written _ s.0, second-is x written _ s.0)
  words-of (Items none anns) s = (kind-is x written _ s.0, first-is x written _ s.0, second-is x written _ s.0)
  words-of (Items (more v vs) anns) s = (
    kind-is x written _ s.1.1,
    ap (trees b) (first-is x written _ s.1.1) ∙ s.1.2,
    ap (trees b) (second-is x written _ s.1.1) ∙ s.1.3,
  )
  words-of (Appl name quoted args anns) s = (
    kind-is x written _ s.1.1,
    ap (table b) (first-is x written _ s.1.1) ∙ s.1.2,
    ap (trees b) (second-is x written _ s.1.1) ∙ s.1.3,
  )
  words-of (Hole v anns) s = (kind-is x written _ s.1, ap (trees b) (first-is x written _ s.1) ∙ s.2, second-is x written _ s.1)

notes-of : (b : SharedBank) (anns : Trees) (o : Option Slot) → Notes (trees b) (notes_of o) anns → HasNotes (store_of b) anns o
notes-of b none None n = refl
notes-of b none (Some s) n = absurd (cc)
notes-of b (more v vs) None (i, a, q) = absurd (cc)
notes-of b (more v vs) (Some s) (i, a, q) = (s, refl, (let e : s.0 ≡ i = cc in ap (trees b) e ∙ q))

held-slot : (b : SharedBank) (t : ℕ) → IsTaken b.arena t → IsSome (trees b t)
held-slot b t x = cell-held b t ∙ ap (λ o. is_some (cell_in o)) x.1

-- two chains hold a slot no more often than all together
two_places : (s : ℕ) (css : List (List ℕ)) (c d : ℕ) → c ≢ d → times s (get_or css c []) + times s (get_or css d []) ≤ times_in s css
two_places s [] c d ne = omega arith
two_places s (x ∷ xs) zero zero ne = absurd (ne refl)
two_places s (x ∷ xs) zero (suc d) ne = let le = times_in-at s xs d in omega (arith, le)
two_places s (x ∷ xs) (suc c) zero ne = let le = times_in-at s xs c in omega (arith, le)
two_places s (x ∷ xs) (suc c) (suc d) ne = let le = two_places s xs c d (λ e. ne (ap suc e)) in omega (arith, le)

-- a slot that stands once in all chains, and in the chain of its hash, is in no other
one-home : (a : ArenaState) → IsTidy a → (s : ℕ) (t : Taken) → taken_at a s ≡ Some t → (c : ℕ)
    → times s (chain_at a c) ≡ cond (nat_eq c (hash_at a s % length a.chains)) 1 0
one-home a tidy s t e c =
    let home = t.body.hash % length a.chains in
    let hash : hash_at a s % length a.chains ≡ home = ap (λ o. stored_hash o % length a.chains) e in
    let one = tidy.homed s t e in
    elim (eqb_tells c home) [
      | inl p ↦ ap (λ d. times s (chain_at a d)) p.1 ∙ one ∙ sym (ap (λ h. cond (nat_eq c h) 1 0) hash ∙ ap (λ y. cond y 1 0) p.0)
      | inr p ↦ (let both = two_places s a.chains c home p.1 in let most = tidy.alone s in omega (arith, both, most, one))
          ∙ sym (ap (λ h. cond (nat_eq c h) 1 0) hash ∙ ap (λ y. cond y 1 0) p.0)
    ]

-- each slot in a chain is in the one that its hash names
pub bank-homed : (b : SharedBank) → IsHomed b.arena
bank-homed b s c h =
    let t = (bank-law b).chained_taken s (chain_in b.arena c s h) in
    let is = one-home b.arena b.tidy s t.0 t.1 c in
    elim (eqb_tells c (hash_at b.arena s % length b.arena.chains)) [
      | inl q ↦ q.1
      | inr q ↦ absurd (let none : ◌≡◌ {A = ℕ} (cond (nat_eq c (hash_at b.arena s % length b.arena.chains)) 1 0) 0 = ap (λ y. cond y 1 0) q.0 in
          omega (arith, h, is, none))
    ]

pub mirrors : (b : SharedBank) → Mirrors (store_of b) b.arena
mirrors b = record {
  slots = λ t. (held-taken b t.0, held-slot b t.0);
  roots = λ t x e. sym (ap root_count e);
  bodies = λ t u x e q. (
      let heap = ap cell_in q in
      let s = body-says b t.0 x.body u heap e in
      let written = b.tidy.written t.0 x q in
      record {
        words = words-of b x.body written u s;
        notes = notes-of b (annotations u) x.body.anns
            (says-notes (trees b) (table b) (cell_of x.body) u s);
        hash = written.hash;
      });
  chains = λ s c t. one-home b.arena b.tidy s t.0 t.1 c;
  unmarked = b.tidy.unmarked;
  no_gray = b.tidy.no_gray;
}
