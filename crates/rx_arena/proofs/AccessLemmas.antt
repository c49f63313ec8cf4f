-- Steps of a walk: the cell of one slot is taken out and put back, or seen through a `&` to the owner. Assumes `Logic`.
use Rattle.std.proofs.Common.{◌≡◌, ℕ, ◌+◌, ◌<◌, List, [], ◌∷◌, length, get_or, set, Some, None, refl, sym, ap, ◌∙◌, arith}
use Rattle.std.specs.Prelude.{Option}
use seplogic.Ra.Ura.{Ura}
use base.Fraction.{full_share}
use base.Logic.{ent, id⊢, fst∗, never}
use base.Fml.{Lft, Share, Fml, fat, froom, flft}
use mir.Val.{Val}
use types.Logic.{Logic, sem}
use types.Kit.{Item, Goal, Seq, Step, Soaks, step, ‵, some, ◌⊛◌, ◌$◌, ◌∵◌, !, qed, move, drop, use1, use2, split, pick, rewrite, fsplit, done}
use denote.Laws.{Is, shows}
use denote.Memory.{lone, cell_at, part_at, shared_of, hidden_shr}
use denote.Opens.{Shut, hide}
use denote.RawPtr.{Ptr, block_ptr, in_a_block, lies_at, room_at}
use denote.Steps.{facts, owned, looks, shuts, only}
use denote.Struct.Laws as LL
use denote.Struct.Lending.{lent_at}
use borrow.Table.OneValue.{part_in, part_out}
use Rattle.rx_arena.specs.Inner.Node.{Stored}
use Rattle.rx_arena.specs.Inner.Held.{IsPlace}
use Rattle.rx_arena.specs.Inner.Ownership.{place, cell_of, slot_owns, slots_own, slot_lent, slots_lent}
use Rattle.rx_arena.specs.declared.cells.Cell.{Cell}
use Rattle.rx_arena.specs.declared.cells.Place.{Place}
use Rattle.rx_arena.specs.contracts.cells.Cell as C
use Rattle.rx_arena.proofs.cells.Cell.TheLaws as cell
use Rattle.rx_arena.proofs.SlotLemmas.{all_but, one_taken, one_returned, one_lent}
use Rattle.rx_arena.proofs.PutLemmas.{within_some}
use Rattle.rx_arena.proofs.StepLemmas.{cell_val, cell_is, cell_told, CellFits}

-- the cell at a place, as the machine has it
abbrev pub cell_lies : Share → Cell → ℕ → ℕ → Fml
cell_lies q x b o = fat q (lone C.the_row.mir) b o (cell_val x)

module _ {M : Type 1} {𝓤 : Ura M} {𝓛 : Logic 𝓤} {K : Type 0} {Γ : List (Item 𝓤)} {G : Goal 𝓤 𝓛.H} where
  pub cell_out : K → (x : Cell) (b o : ℕ) → (CellFits x → Seq K 𝓛 (‵ (cell_lies full_share x b o) ∷ Γ) G)
      → Seq K 𝓛 (‵ (part_at C.the_row full_share x b o) ∷ Γ) G
  cell_out t x b o k =
      use1 𝓛 (some (λ (v : Val). ‵ (fat full_share (lone C.the_row.mir) b o v) ⊛ ‵ (C.the_row.own_val x (v ∷ []))))
      (part_out 𝓛 C.the_row refl full_share x b o) $ pick t (λ v. split t $ move t (1 ∷ []) $
      facts t C.the_row (Is C.the_row) (shows 𝓛 C.the_row) x (v ∷ []) (λ is. let told = cell_told x (v ∷ []) is in
      rewrite t 0 (λ (w : Val). ‵ (fat full_share (lone C.the_row.mir) b o w)) (ap only told.0) refl $ k told.1))

  pub cell_in : K → (x : Cell) (b o : ℕ) → CellFits x → Step K 𝓛 (‵ (part_at C.the_row full_share x b o) ∷ Γ) G (‵ (cell_lies full_share x b o) ∷ Γ) G
  cell_in t x b o f = step (λ s.
      owned t C.the_row (Is C.the_row) (LL.makes C.the_type cell.the_plain 𝓛) x (cell_val x ∷ []) (cell_is x f) $ move t (1 ∷ 0 ∷ []) $
      use2 𝓛 (‵ (part_at C.the_row full_share x b o)) (part_in 𝓛 C.the_row refl full_share x b o (cell_val x)) $ s)

-- what a slot owns is its room, once what lies there is forgotten
pub slot_forgotten : {M : Type 1} {𝓤 : Ura M} (𝓛 : Logic 𝓤) (bs : List Ptr) (s : ℕ) (c : Option Stored)
    → ent 𝓤 (sem 𝓛 (slot_owns bs s c)) (sem 𝓛 (slot_owns bs s None))
slot_forgotten {𝓤 = 𝓤} 𝓛 bs s None = id⊢ 𝓤 _
slot_forgotten {𝓤 = 𝓤} 𝓛 bs s (Some n) = let x = cell_of bs s n in
    qed 𝓛 (‵ (slot_owns bs s (Some n)) ∷ []) ∵ in_a_block ! (place bs s) (λ p. lies_at C.the_row full_share p x) (id⊢ 𝓤 (never 𝓤)) (λ b o e.
    cell_out ! x b o (λ f.
    use1 𝓛 (‵ (froom (lone C.the_row.mir) b o)) (𝓛.laws.at_room (lone C.the_row.mir) b o (cell_val x)) $ rewrite ! 0 (λ (p : Ptr).
    ‵ (room_at C.the_row p)) (sym e) refl $ done !))

module _ {M : Type 1} {𝓤 : Ura M} {𝓛 : Logic 𝓤} {K : Type 0} {Γ : List (Item 𝓤)} {G : Goal 𝓤 𝓛.H} (bs : List Ptr) (cs : List (Option Stored)) (p : Place) where
  -- the room of a slot, whatever lies there
  pub slot_cleared : K → IsPlace bs p → p.slot < length cs
      → ((b o : ℕ) → p.at ≡ block_ptr b o → Seq K 𝓛 (‵ (froom (lone C.the_row.mir) b o) ∷ ‵ (all_but bs 0 cs p.slot) ∷ Γ) G)
      → Seq K 𝓛 (‵ (slots_own bs 0 cs) ∷ Γ) G
  slot_cleared t placed within k =
      use1 𝓛 (‵ (slot_owns bs (p.slot + 0) (get_or cs p.slot None)) ⊛ ‵ (all_but bs 0 cs p.slot)) (one_taken 𝓛 bs 0 cs p.slot within) $ split t $
      use1 𝓛 (‵ (slot_owns bs (p.slot + 0) None)) (slot_forgotten 𝓛 bs (p.slot + 0) (get_or cs p.slot None)) $
      rewrite t 0 (λ (j : ℕ). ‵ (slot_owns bs j None)) {x = p.slot} (omega arith) refl $ rewrite t 0 (λ (q : Ptr). ‵ (room_at C.the_row q)) (sym placed) refl $
      in_a_block t p.at (λ q. room_at C.the_row q) (id⊢ 𝓤 (never 𝓤)) k

  pub slot_closes : K → IsPlace bs p → p.slot < length cs → (m : Stored) → CellFits (cell_of bs p.slot m) → (b o : ℕ) → p.at ≡ block_ptr b o
      → Step K 𝓛 (‵ (slots_own bs 0 (set cs p.slot (Some m))) ∷ Γ) G (‵ (cell_lies full_share (cell_of bs p.slot m) b o) ∷ ‵ (all_but bs 0 cs p.slot) ∷ Γ) G
  slot_closes t placed within m f b o e = step (λ s.
      let x = cell_of bs p.slot m in
      cell_in t x b o f $ rewrite t 0 (λ (q : Ptr). ‵ (lies_at C.the_row full_share q x)) (sym e ∙ placed) refl $
      rewrite t 0 (λ (j : ℕ). ‵ (slot_owns bs j (Some m))) {x = p.slot + 0} (omega arith) refl $
      use2 𝓛 (‵ (slots_own bs 0 (set cs p.slot (Some m)))) (one_returned 𝓛 bs 0 cs p.slot (Some m) within) $ s)

module _ {M : Type 1} {𝓤 : Ura M} {𝓛 : Logic 𝓤} {K : Type 0} {Γ : List (Item 𝓤)} {G : Goal 𝓤 𝓛.H} (bs : List Ptr) (cs : List (Option Stored))
    (p : Place) (n : Stored) where
  pub slot_opens : K → IsPlace bs p → get_or cs p.slot None ≡ Some n
      → ((b o : ℕ) → p.at ≡ block_ptr b o → CellFits (cell_of bs p.slot n)
      → Seq K 𝓛 (‵ (cell_lies full_share (cell_of bs p.slot n) b o) ∷ ‵ (all_but bs 0 cs p.slot) ∷ Γ) G)
      → Seq K 𝓛 (‵ (slots_own bs 0 cs) ∷ Γ) G
  slot_opens t placed held k =
      let x = cell_of bs p.slot n in
      use1 𝓛 (‵ (slot_owns bs (p.slot + 0) (get_or cs p.slot None)) ⊛ ‵ (all_but bs 0 cs p.slot))
      (one_taken 𝓛 bs 0 cs p.slot (within_some cs p.slot n held)) $ split t $
      rewrite t 0 (λ (j : ℕ). ‵ (slot_owns bs j (get_or cs p.slot None))) {x = p.slot} (omega arith) refl $
      rewrite t 0 (λ (z : Option Stored). ‵ (slot_owns bs p.slot z)) held refl $ rewrite t 0 (λ (q : Ptr). ‵ (lies_at C.the_row full_share q x))
      (sym placed) refl $
      in_a_block t p.at (λ q. lies_at C.the_row full_share q x) (id⊢ 𝓤 (never 𝓤)) (λ b o e. cell_out t x b o (λ f. k b o e f))

  pub slot_looks : K → {κ : Lft} → IsPlace bs p → get_or cs p.slot None ≡ Some n
      → ((b o : ℕ) → p.at ≡ block_ptr b o → Seq K 𝓛 (‵ (hidden_shr C.the_row κ (cell_of bs p.slot n) b o) ∷ Γ) G) → Seq K 𝓛 (‵ (slots_lent bs 0 cs κ) ∷ Γ) G
  slot_looks t {κ} placed held k =
      let x = cell_of bs p.slot n in
      use1 𝓛 (‵ (slot_lent bs (p.slot + 0) (get_or cs p.slot None) κ)) (one_lent 𝓛 bs κ 0 cs p.slot (within_some cs p.slot n held)) $
      rewrite t 0 (λ (j : ℕ). ‵ (slot_lent bs j (get_or cs p.slot None) κ)) {x = p.slot} (omega arith) refl $
      rewrite t 0 (λ (z : Option Stored). ‵ (slot_lent bs p.slot z κ)) held refl $ rewrite t 0 (λ (q : Ptr). ‵ (lent_at C.the_row q x κ)) (sym placed) refl $
      in_a_block t p.at (λ q. lent_at C.the_row q x κ) (fst∗ 𝓤 (never 𝓤) (sem 𝓛 (shared_of C.the_row x 0 0 κ))) (λ b o e. fsplit t $ drop t $ hide t $ k b o e)

module _ {M : Type 1} {𝓤 : Ura M} {𝓛 : Logic 𝓤} {K : Type 0} {Γ : List (Item 𝓤)} {G : Goal 𝓤 𝓛.H} where
  -- a part of the cell, and the way back to the token
  pub cell_seen : K → Soaks G → {κ : Lft} {q : Share} (x : Cell) (b o : ℕ)
      → ((part : Share) → CellFits x → Seq K 𝓛 (‵ (cell_lies part x b o) ∷ Shut 𝓛 κ q (part_at C.the_row part x b o) ∷ Γ) G)
      → Seq K 𝓛 (‵ (hidden_shr C.the_row κ x b o) ∷ ‵ (flft κ q) ∷ Γ) G
  cell_seen t z x b o k =
      looks t z C.the_row (LL.copied C.the_type cell.the_copy 𝓛).opens x b o (λ part vs.
      move t (1 ∷ []) $ facts t C.the_row (Is C.the_row) (shows 𝓛 C.the_row) x vs (λ is. let told = cell_told x vs is in
      rewrite t 0 (λ (us : List Val). ‵ (cell_at part C.the_row.mir us b o)) told.0 refl $
      use1 𝓛 (‵ (cell_lies part x b o)) (𝓛.laws.raw_at part (lone C.the_row.mir) b o (cell_val x)) $ move t (2 ∷ []) $ drop t $ k part told.1))

  pub cell_shut : K → Soaks G → {κ : Lft} {q : Share} (part : Share) (x : Cell) (b o : ℕ) → CellFits x
      → Step K 𝓛 (‵ (flft κ q) ∷ Γ) G (‵ (cell_lies part x b o) ∷ Shut 𝓛 κ q (part_at C.the_row part x b o) ∷ Γ) G
  cell_shut t z part x b o f = step (λ s.
      owned t C.the_row (Is C.the_row) (LL.makes C.the_type cell.the_plain 𝓛) x (cell_val x ∷ []) (cell_is x f) $ move t (1 ∷ 0 ∷ []) $
      use1 𝓛 (‵ (cell_at part C.the_row.mir (cell_val x ∷ []) b o)) (𝓛.laws.at_raw part (lone C.the_row.mir) b o (cell_val x)) $ shuts t z C.the_row
      part x (cell_val x ∷ []) b o $ s)
