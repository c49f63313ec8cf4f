-- What a store keeps when its arena is collected.
use Rattle.std.proofs.Common.{◌≡◌, ℕ, zero, suc, ◌%◌, ◌<◌, ◌≤◌, ◌⊎◌, inl, inr, Bool, true, false, List, [], length}
use Rattle.std.proofs.Common.{get_or, Option, Some, None, IsSome, is_some, refl, sym, ap, subst, ◌∙◌, arith, Contains}
use Rattle.std.specs.Prelude.{if◌then◌else◌, filter}
use Rattle.std.proofs.lemmas.List.{length-map}
use Rattle.std.proofs.lemmas.List.Elements.{Contains-append_left, Contains-append_right, Contains-append_cases}
use Rattle.std.specs.FinMap as fin
use Rattle.rx_term.specs.Tree.{Tree}
use Rattle.rx_term.specs.Parts.{parts}
use Rattle.rx_term.specs.Store.{tree_at}
use Rattle.rx_term.specs.Steps.{Reclaims, IsReached, IsKeptRoot}
use Rattle.rx_term.specs.Heap.{Cell, links, node_links, notes_links, kept_slots, IsLinked, start, along, Least, IsDistinct, is_whole, content_of, content_by}
use Rattle.rx_term.specs.declared.Term.{Term}
use Rattle.rx_term.proofs.HeapLemmas.{least}
use Rattle.rx_term.proofs.StoreLemmas.{some-value}
use Rattle.rx_term.proofs.ReclaimLemmas.{kept-whole, kept-heap, kept-content, only-content, kept-part, linked-part, link-part}
use Rattle.rx_names.specs.Names.{symbols_of}
use Rattle.rx_arena.specs.declared.CellBody.{CellBody}
use Rattle.rx_arena.specs.declared.Slot.{Slot}
use Rattle.rx_arena.specs.Put.{times, times_in}
use Rattle.rx_arena.specs.Arena.{Taken, ArenaState, taken_at, IsTaken, chain_at, roots_at, root_count, with_marking, IsArena}
use Rattle.rx_arena.proofs.ChainLemmas.{one_or_more}
use Rattle.rx_sweep.specs.Reach as reach
use Rattle.rx_sweep.specs.Reach.{annotations, words, names, cell_names, named_at, unmarked, is_taken, CanCollect, Collected}
use Rattle.rx_sweep.specs.Reach.IsReached.{rooted, grayed, named}
use Rattle.rx_sweep.specs.Inner.Marking.{Marks}
use Rattle.rx_sweep.proofs.BareLemmas.{same_taken, taken_same, same_roots, same_names, same_chains, same_at, same_spare, same_count, same_cap}
use Rattle.rx_sweep.proofs.SweepLemmas.{times-filter_true}
use Rattle.rx_shared.specs.Bodies.{node_of, kind_of, notes_of, cell_of, IsWritten}
use Rattle.rx_shared.specs.Tidy.{IsTidy, IsOneOf, heap_of, cell_in}
use Rattle.rx_shared.specs.Inner.Counting.{content-count}
use Rattle.rx_shared.specs.State.{store_of, store_from}
use Rattle.rx_shared.specs.Inner.Soundness.{table, bank-heap, cells_taken, cell-held, sound}
use Rattle.rx_term.proofs.BankLemmas.{same_ref}
use Rattle.rx_shared.specs.declared.bank.SharedBank.{SharedBank}
use Rattle.rx_shared.proofs.ArenaLemmas.{tidy-from, chained-once}
use Rattle.rx_shared.proofs.BodyLemmas.{cell-taken}
use Rattle.rx_term.proofs.BankLemmas.{whole-along, content-unique}
use Rattle.rx_shared.proofs.ListingLemmas.{counted_in, in_counted, get_or-map_filter}
use Rattle.rx_shared.proofs.ReadingLemmas.{trees, held-taken, body-says}

-- a body names the slots that its cell links to
words-links : (kind a b : ℕ) → kind ≡ kind_of (node_of kind a b) → words kind a b ≡ node_links (node_of kind a b)
words-links zero a b e = refl
words-links (suc zero) a b e = refl
words-links (suc (suc zero)) a b e = refl
words-links (suc (suc (suc zero))) a b e = refl
words-links (suc (suc (suc (suc zero)))) a b e = refl
words-links (suc (suc (suc (suc (suc k))))) a b e = absurd (omega (arith, e))

notes-links : (o : Option Slot) → annotations o ≡ notes_links (notes_of o)
notes-links None = refl
notes-links (Some s) = refl

module _ (x : CellBody) (written : IsWritten x) where
  pub named-linked : (t : ℕ) → 0 < times t (names x) → Contains (links (cell_of x)) t
  named-linked t h = elim (Contains-append_cases (annotations x.anns) (words x.kind x.a x.b) t (counted_in (names x) t h)) [
    | inl p ↦ Contains-append_right (node_links (node_of x.kind x.a x.b)) (notes_links (notes_of x.anns)) t (subst (λ ss. Contains ss t) (notes-links x.anns) p)
    | inr p ↦ Contains-append_left (node_links (node_of x.kind x.a x.b)) (notes_links (notes_of x.anns)) t
        (subst (λ ss. Contains ss t) (words-links x.kind x.a x.b written.kind) p)
  ]

  pub linked-named : (t : ℕ) → Contains (links (cell_of x)) t → 0 < times t (names x)
  linked-named t h = in_counted (names x) t (elim (Contains-append_cases (node_links (node_of x.kind x.a x.b)) (notes_links (notes_of x.anns)) t h) [
    | inl p ↦ Contains-append_right (annotations x.anns) (words x.kind x.a x.b) t
        (subst (λ ss. Contains ss t) (sym (words-links x.kind x.a x.b written.kind)) p)
    | inr p ↦ Contains-append_left (annotations x.anns) (words x.kind x.a x.b) t (subst (λ ss. Contains ss t) (sym (notes-links x.anns)) p)
  ])

named-taken : (o : Option Taken) (t : ℕ) → 0 < times t (cell_names o) → (x : Taken) × (o ≡ Some x)
named-taken None t h = absurd (omega (arith, h))
named-taken (Some x) t h = (x, refl)

-- what a store's cells name is taken
pub bank-closed : (b : SharedBank) (s t : ℕ) → 0 < times t (named_at b.arena s) → IsTaken b.arena t
unfolding content_by
bank-closed b s t h =
    let x = named-taken (taken_at b.arena s) t h in
    let in_body : 0 < times t (names x.0.body) = subst (λ o. 0 < times t (cell_names o)) x.1 h in
    let link = named-linked x.0.body (b.tidy.written s x.0 x.1) t in_body in
    let heap : heap_of b.arena s ≡ Some (cell_of x.0.body) = ap cell_in x.1 in
    let held : IsSome (trees b s) = by_heap s (cell_of x.0.body) heap in
    let u = some-value (trees b s) held in
    let v = link-part (trees b) (table b) (cell_of x.0.body) u.0 t (body-says b s x.0.body u.0 heap u.1) link in
    held-taken b t (ap is_some v.1)
  where
    by_heap : (s : ℕ) (y : Cell) → heap_of b.arena s ≡ Some y → IsSome (trees b s)
    by_heap s y e = cell-held b s ∙ ap is_some e

-- the slot is rooted, or passed in
abbrev pub IsStart : SharedBank → List Term → ℕ → Type 0
IsStart b extra s = (0 < roots_at b.arena s) ⊎ IsOneOf extra s

unmarked-cell : (o : Option Taken) → cell_in (unmarked o) ≡ cell_in o
unmarked-cell None = refl
unmarked-cell (Some t) = refl

unmarked-roots : (o : Option Taken) → root_count (unmarked o) ≡ root_count o
unmarked-roots None = refl
unmarked-roots (Some t) = refl

unmarked-body : (o : Option Taken) (t : Taken) → unmarked o ≡ Some t → (v : Taken) × (o ≡ Some v) × (v.body ≡ t.body)
unmarked-body None t e = absurd (cc)
unmarked-body (Some v) t e = let q : with_marking false v ≡ t = cc in (v, refl, ap (λ (w : Taken). w.body) q)

-- an arena in which what is passed in is gray
module _ (b : SharedBank) (g : ArenaState) (extra : List Term) (m : Marks b.arena g (IsOneOf extra)) (law_g : IsArena g) where
  pub can_collect : CanCollect g
  can_collect = record {
    chained = λ s h. (let t = taken_same b.arena g m.same s h in ap (times_in s) (same_chains b.arena g m.same) ∙ chained-once b.arena b.tidy s t.0 t.1);
    closed = λ s t h. same_taken b.arena g m.same t (bank-closed b s t (subst (λ ss. 0 < times t ss) (same_names b.arena g m.same s) h));
    marked_gray = λ s h. elim (m.only s h) [
      | inl p ↦ absurd (let z = b.tidy.unmarked s in cc)
      | inr p ↦ p.1
    ];
  }

  -- what is gray was passed in
  gray_handed : (s : ℕ) → 0 < times s g.gray → IsOneOf extra s
  gray_handed s h = elim (m.only s (law_g.gray_marked s h)) [
    | inl p ↦ absurd (let z = b.tidy.unmarked s in cc)
    | inr p ↦ p.0
  ]

  start-reached : (s : ℕ) → IsStart b extra s → reach.IsReached g s
  start-reached s h = elim h [
    | inl p ↦ rooted s (subst (λ n. 0 < n) (sym (same_roots b.arena g m.same s)) p)
    | inr p ↦ elim (m.only s (m.marked s p)) [
      | inl q ↦ absurd (let z = b.tidy.unmarked s in cc)
      | inr q ↦ grayed s q.1
    ]
  ]

  linked_from : (s t : ℕ) → IsLinked (heap_of b.arena) (IsStart b extra) s → 0 < times t (named_at g s) → IsLinked (heap_of b.arena) (IsStart b extra) t
  linked_from s t l h =
      let here : 0 < times t (named_at b.arena s) = subst (λ ss. 0 < times t ss) (same_names b.arena g m.same s) h in
      let x = named-taken (taken_at b.arena s) t here in
      let in_body : 0 < times t (names x.0.body) = subst (λ o. 0 < times t (cell_names o)) x.1 here in
      along l (ap cell_in x.1) (named-linked x.0.body (b.tidy.written s x.0 x.1) t in_body)

  pub reached-linked : (s : ℕ) → reach.IsReached g s → IsLinked (heap_of b.arena) (IsStart b extra) s
  reached-linked _ (rooted s p) = start (inl (subst (λ n. 0 < n) (same_roots b.arena g m.same s) p))
  reached-linked _ (grayed s p) = start (inr (gray_handed s p))
  reached-linked _ (named s t r h) = linked_from s t (reached-linked s r) h

  module _ (z : ArenaState) (left : Collected g z) (law : IsArena z) where
    abbrev keep : ℕ → Bool
    keep s = is_taken z s

    keep-taken : (s : ℕ) → keep s ≡ true → IsTaken z s
    keep-taken s e = let t = some-value (taken_at z s) e in (t.0, t.1)

    taken-keep : (s : ℕ) → IsTaken z s → keep s ≡ true
    taken-keep s t = ap is_some t.1

    start-keep : (s : ℕ) → IsStart b extra s → keep s ≡ true
    start-keep s h = taken-keep s ((left.taken s).1 (start-reached s h))

    -- a kept slot's cell is as it was
    kept-was : (s : ℕ) → IsTaken z s → taken_at z s ≡ unmarked (taken_at b.arena s)
    kept-was s t = left.kept s ((left.taken s).0 t) ∙ same_at b.arena g m.same s

    closed-keep : (s i : ℕ) (x : Cell) → keep s ≡ true → heap_of b.arena s ≡ Some x → Contains (links x) i → keep i ≡ true
    closed-keep s i x k e c =
        let y = cell-taken (taken_at b.arena s) x e in
        let in_body : 0 < times i (names y.0.body) = linked-named y.0.body (b.tidy.written s y.0 y.1) i (subst (λ w. Contains (links w) i) (sym y.2) c) in
        let at_s : 0 < times i (named_at g s) = subst (λ ss. 0 < times i ss) (sym (ap cell_names y.1) ∙ sym (same_names b.arena g m.same s)) in_body in
        taken-keep i ((left.taken i).1 (named s i ((left.taken s).0 (keep-taken s k)) at_s))

    pub collected-heap : heap_of z ≡ kept_slots keep (heap_of b.arena)
    collected-heap = λ j s. at s j where
      by_cell : (s : ℕ) (o : Option Taken) → taken_at z s ≡ o → heap_of z s ≡ (if is_some o then heap_of b.arena s else None)
      by_cell s None e = ap cell_in e
      by_cell s (Some t) e = ap cell_in (kept-was s (t, e)) ∙ unmarked-cell (taken_at b.arena s)

      at : (s : ℕ) → heap_of z s ≡ kept_slots keep (heap_of b.arena) s
      at s = by_cell s (taken_at z s) refl

    pub collected-cap : z.cap ≡ b.arena.cap
    collected-cap = left.cap ∙ same_cap b.arena g m.same

    pub collected-chains : length z.chains ≡ length b.arena.chains
    collected-chains = ap length left.chains ∙ length-map g.chains (filter (λ s. is_taken z s)) ∙ ap length (same_chains b.arena g m.same)

    not-rooted : (s : ℕ) → keep s ≡ false → roots_at b.arena s ≡ 0
    not-rooted s k = elim (one_or_more (roots_at b.arena s)) [ inl p ↦ p | inr p ↦ absurd (let q = start-keep s (inl p) in cc) ]

    pub collected-roots : (s : ℕ) → roots_at z s ≡ roots_at b.arena s
    collected-roots s = by_cell (taken_at z s) refl where
      by_cell : (o : Option Taken) → taken_at z s ≡ o → roots_at z s ≡ roots_at b.arena s
      by_cell None e = ap root_count e ∙ sym (not-rooted s (ap is_some e))
      by_cell (Some t) e = ap root_count (kept-was s (t, e)) ∙ unmarked-roots (taken_at b.arena s)

    pub collected-was : (s : ℕ) (t : Taken) → taken_at z s ≡ Some t → (v : Taken) × (taken_at b.arena s ≡ Some v) × (v.body ≡ t.body)
    collected-was s t e = unmarked-body (taken_at b.arena s) t (sym (kept-was s (t, e)) ∙ e)

    pub collected-tidy : IsTidy z
    collected-tidy = tidy-from z law
        (λ s t e. let v = collected-was s t e in subst IsWritten v.2 (b.tidy.written s v.0 v.1))
        (λ s t e.
        let v = collected-was s t e in
        let home = b.tidy.homed s v.0 v.1 in
        let k = v.0.body.hash % length b.arena.chains in
        let same : chain_at z k ≡ filter (λ s. is_taken z s) (chain_at b.arena k) =
        ap (λ (css : List (List ℕ)). get_or css k []) left.chains ∙ get_or-map_filter (λ s. is_taken z s) g.chains k
        ∙ ap (λ (css : List (List ℕ)). filter (λ s. is_taken z s) (get_or css k [])) (same_chains b.arena g m.same) in
        ap (λ (y : CellBody). times s (chain_at z (y.hash % length z.chains))) (sym v.2)
        ∙ ap (λ n. times s (chain_at z (v.0.body.hash % n))) collected-chains ∙ ap (times s) same
        ∙ times-filter_true (λ s. is_taken z s) s (chain_at b.arena k) (taken-keep s (t, e)) ∙ home)
        left.no_marks left.no_gray
        (λ s. subst (λ n. n ≤ 65535) (sym (collected-roots s)) (b.tidy.counted s))

    whole_after : is_whole (kept_slots keep (heap_of b.arena)) (table b) b.arena.cap b.whole.0 ≡ true
    whole_after = kept-whole (heap_of b.arena) (table b) b.arena.cap b.whole.0 (bank-heap b) keep closed-keep

    least_after : Least (is_whole (kept_slots keep (heap_of b.arena)) (table b) b.arena.cap)
    least_after = least (is_whole (kept_slots keep (heap_of b.arena)) (table b) b.arena.cap) b.whole.0 whole_after

    pub collected-whole : Least (is_whole (heap_of z) (table b) z.cap)
    collected-whole = whole-along (table b) (kept_slots keep (heap_of b.arena)) (heap_of z) b.arena.cap z.cap collected-heap collected-cap least_after

    pub collected-distinct : IsDistinct (heap_of z)
    collected-distinct = subst IsDistinct (sym collected-heap) (kept-heap (heap_of b.arena) (table b) b.arena.cap b.whole.0 (bank-heap b) keep
        closed-keep b.whole.0 whole_after).distinct

    kept-root : (s : Term) → IsKeptRoot (store_of b) extra s → keep s.0 ≡ true
    kept-root s h = start-keep s.0 (elim h [ inl p ↦ inl p | inr p ↦ inr (s, p, refl) ])

    root-kept : (s : ℕ) → IsStart b extra s → IsKeptRoot (store_of b) extra (record { 0 = s })
    root-kept s h = elim h [ inl p ↦ inl p | inr p ↦ inr (subst (Contains extra) (same_ref p.0 (record { 0 = s }) p.2) p.1) ]

    module _ (held : (t : Term) → Contains extra t → IsSome (tree_at (store_of b) t)) (w : Least (is_whole (heap_of z) (table b) z.cap)) where
      start-held : (s : ℕ) → IsStart b extra s → IsSome (fin.get (store_of b).content s)
      start-held s h = elim h [
        | inl p ↦ (sound b).rooted_held (record { 0 = s }) p
        | inr p ↦ subst (λ k. IsSome (fin.get (store_of b).content k)) p.2 (held p.0 p.1)
      ]

      content-after : content_by (heap_of z) (table b) z.cap w ≡ content_of (kept_slots keep (heap_of b.arena)) (table b) b.arena.cap least_after.0
      unfolding content_by
      content-after = content-unique (table b) (kept_slots keep (heap_of b.arena)) (heap_of z) b.arena.cap z.cap collected-heap collected-cap least_after w

      kept-after : (t : Term) (u : Tree) → tree_at (store_of b) t ≡ Some u → IsReached (store_of b) extra u
          → fin.get (content_by (heap_of z) (table b) z.cap w) t.0 ≡ Some u
      unfolding content_by
      kept-after t u e (s, (v, root, at, part)) =
          let k = kept-part (heap_of b.arena) (table b) b.arena.cap b.whole.0 (bank-heap b) keep closed-keep least_after.0 least_after.1.passes s.0
          t.0 u v (kept-root s root) at part e in
          ap (λ c. fin.get c t.0) content-after ∙ kept-content (heap_of b.arena) (table b) b.arena.cap b.whole.0 (bank-heap b) keep closed-keep
          least_after.0 least_after.1.passes t.0 u k e

      only-after : (t : Term) (u : Tree) → fin.get (content_by (heap_of z) (table b) z.cap w) t.0 ≡ Some u
          → (tree_at (store_of b) t ≡ Some u) × IsReached (store_of b) extra u
      unfolding content_by
      only-after t u e =
          let o = only-content (heap_of b.arena) (table b) b.arena.cap b.whole.0 (bank-heap b) keep closed-keep least_after.0 least_after.1.passes t.0
          u (sym (ap (λ c. fin.get c t.0) content-after) ∙ e) in
          let l = linked-part (heap_of b.arena) (table b) b.arena.cap b.whole.0 (bank-heap b) (IsStart b extra) start-held t.0
          (reached-linked t.0 ((left.taken t.0).0 (keep-taken t.0 o.0))) in
          let same : l.1.1.0 ≡ u = (let p = l.1.1.3 in let q = o.1 in cc) in
          (o.1, (record { 0 = l.0 }, (l.1.0, root-kept l.0 l.1.1.1, l.1.1.2, subst (Contains (parts l.1.0)) same l.1.1.4)))

      -- exactly what is reached stays
      pub collected-reclaims : Reclaims (store_of b) (store_from (symbols_of b.names) z w) extra
      collected-reclaims = record {
        kept = kept-after;
        only = only-after;
        beside = record { symbols = refl; roots = λ j s. collected-roots s j; cap = collected-cap };
        room = (
            let after = content-count z (table b) w collected-tidy.bounded in
            let before = cells_taken b in
            let s = same_spare b.arena g m.same in
            let n = same_count b.arena g m.same in
            omega (arith, after, before, s, n, left.spare));
      }
