-- A block's room becomes empty slots, and slots become room again. Assumes `Logic`.
use Rattle.std.proofs.Common.{◌≡◌, ℕ, zero, suc, ◌+◌, ◌*◌, ◌/◌, ◌%◌, ◌<◌, ◌≤◌, List, [], ◌∷◌, ◌++◌}
use Rattle.std.proofs.Common.{length, get_or, Some, None, IfSome, refl, sym, ap, ◌∙◌, arith}
use Rattle.std.proofs.lemmas.List.{length-append}
use Rattle.std.specs.Prelude.{Option, replicate}
use seplogic.Ra.Ura.{Ura}
use base.Fraction.{full_share}
use base.Logic.{ent, sep, id⊢}
use base.Fml.{ftrue, froom}
use mir.Syntax.{Ty, ty_array}
use types.Logic.{Logic, sem}
use types.Kit.{‵, ◌⊛◌, ◌$◌, ◌∵◌, !, qed, by, move, keep, drop, use1, use2, split, fsplit, fjoin, rewrite, done}
use denote.Memory.{lone}
use denote.Steps.{nothing}
use denote.RawPtr.{Ptr, null_ptr, block_ptr, lies_at, room_at, room_for, ◌+ₚ◌}
use Rattle.rx_arena.specs.Inner.Node.{Stored, IsLink, HasLink, HaveLinks}
use Rattle.rx_arena.specs.declared.cells.Cell.{Cell}
use Rattle.rx_arena.specs.Inner.Ownership.{place, link_to, cell_of, slot_owns, slots_own}
use Rattle.rx_arena.specs.contracts.cells.Cell as C
use Rattle.rx_arena.proofs.AccessLemmas.{slot_forgotten}

get_or-old : (bs cs : List Ptr) (i : ℕ) → i < length bs → get_or (bs ++ cs) i null_ptr ≡ get_or bs i null_ptr
get_or-old [] cs i lt = absurd (omega (arith, lt))
get_or-old (b ∷ bs) cs zero lt = refl
get_or-old (b ∷ bs) cs (suc i) lt = get_or-old bs cs i (omega (arith, lt))

get_or-end : (bs : List Ptr) (p : Ptr) → get_or (bs ++ p ∷ []) (length bs) null_ptr ≡ p
get_or-end [] p = refl
get_or-end (b ∷ bs) p = get_or-end bs p

-- the places of the slots that were there stay
place-old : (bs cs : List Ptr) (s : ℕ) → s < 1024 * length bs → place (bs ++ cs) s ≡ place bs s
place-old bs cs s lt = ap (λ (p : Ptr). p +ₚ ((s % 1024) * 48)) (get_or-old bs cs (s / 1024) (omega (arith, lt)))

-- the i-th place of the last block
place-end : (bs : List Ptr) (p : Ptr) (i : ℕ) → i < 1024 → place (bs ++ p ∷ []) (1024 * length bs + i) ≡ p +ₚ (i * 48)
place-end bs p i lt =
    let at : (1024 * length bs + i) / 1024 ≡ length bs = omega arith in let off : ((1024 * length bs + i) % 1024) * 48 ≡ i * 48 = omega arith in
    (λ j. get_or (bs ++ p ∷ []) (at j) null_ptr +ₚ off j) ∙ ap (λ (q : Ptr). q +ₚ (i * 48)) (get_or-end bs p)

link-old : (bs cs : List Ptr) (s : ℕ) (z : Option ℕ) → s < 1024 * length bs → IsLink (1024 * length bs) s z → link_to (bs ++ cs) s z ≡ link_to bs s z
link-old bs cs s None lt h = place-old bs cs s lt
link-old bs cs s (Some t) lt h = place-old bs cs t h.0

module _ {M : Type 1} {𝓤 : Ura M} (𝓛 : Logic 𝓤) where
  open 𝓛 use {H}

  slot-grow : (bs qs : List Ptr) (s : ℕ) (c : Option Stored) → s < 1024 * length bs → IfSome c (HasLink (1024 * length bs) s)
      → ent 𝓤 (sem 𝓛 (slot_owns bs s c)) (sem 𝓛 (slot_owns (bs ++ qs) s c))
  slot-grow bs qs s None lt h = qed 𝓛 (‵ (slot_owns bs s None) ∷ [])
      ∵ rewrite ! 0 (λ (p : Ptr). ‵ (room_at C.the_row p)) (sym (place-old bs qs s lt)) refl $ done !
  slot-grow bs qs s (Some n) lt h =
      let same : cell_of (bs ++ qs) s n ≡ cell_of bs s n = λ i. record (cell_of bs s n) { chain = link-old bs qs s n.chain lt h i } in
      qed 𝓛 (‵ (slot_owns bs s (Some n)) ∷ []) ∵ rewrite ! 0 (λ (p : Ptr). ‵ (lies_at C.the_row full_share p (cell_of bs s n)))
      (sym (place-old bs qs s lt)) refl $
      rewrite ! 0 (λ (x : Cell). ‵ (lies_at C.the_row full_share (place (bs ++ qs) s) x)) (sym same) refl $ done !

  slots-grow : (bs qs : List Ptr) (s : ℕ) (cs : List (Option Stored)) → s + length cs ≤ 1024 * length bs → HaveLinks (1024 * length bs) s cs
      → ent 𝓤 (sem 𝓛 (slots_own bs s cs)) (sem 𝓛 (slots_own (bs ++ qs) s cs))
  slots-grow bs qs s [] le h = qed 𝓛 (‵ ftrue ∷ []) ∵ done !
  slots-grow bs qs s (c ∷ cs) le h = qed 𝓛 (‵ (slots_own bs s (c ∷ cs)) ∷ [])
      ∵ fsplit ! $ use1 𝓛 (‵ (slot_owns (bs ++ qs) s c)) (slot-grow bs qs s c (omega (arith, le)) h.0) $ move ! (1 ∷ []) $
      use1 𝓛 (‵ (slots_own (bs ++ qs) (suc s) cs)) (slots-grow bs qs (suc s) cs (omega (arith, le)) h.1) $ move ! (1 ∷ 0 ∷ []) $ fjoin ! $ done !

  slots-append : (bs : List Ptr) (s : ℕ) (cs ds : List (Option Stored))
      → ent 𝓤 (sep 𝓤 (sem 𝓛 (slots_own bs s cs)) (sem 𝓛 (slots_own bs (s + length cs) ds))) (sem 𝓛 (slots_own bs s (cs ++ ds)))
  slots-append bs s [] ds = qed 𝓛 (‵ ftrue ∷ ‵ (slots_own bs (s + 0) ds) ∷ [])
      ∵ drop ! $ rewrite ! 0 (λ (k : ℕ). ‵ (slots_own bs k ds)) {x = s} (omega arith) refl $ done !
  slots-append bs s (c ∷ cs) ds = qed 𝓛 (‵ (slots_own bs s (c ∷ cs)) ∷ ‵ (slots_own bs (s + suc (length cs)) ds) ∷ []) ∵ fsplit ! $ move ! (1 ∷ 2 ∷ []) $
      rewrite ! 1 (λ (k : ℕ). ‵ (slots_own bs k ds)) {x = suc s + length cs} (omega arith) refl $ use2 𝓛 (‵ (slots_own bs (suc s) (cs ++ ds)))
      (slots-append bs (suc s) cs ds) $ move ! (1 ∷ 0 ∷ []) $ fjoin ! $ done !

  abbrev cell_type : Ty
  cell_type = lone C.the_row.mir

  -- the last k cells of a block's room are empty slots
  room-slots : (bs : List Ptr) (b o k i : ℕ) → i + k ≤ 1024 → ent 𝓤 (H.room (ty_array cell_type k) b (o + i * 48))
      (sem 𝓛 (slots_own (bs ++ block_ptr b o ∷ []) (1024 * length bs + i) (replicate k None)))
  room-slots bs b o zero i le = qed 𝓛 (‵ (froom (ty_array cell_type 0) b (o + i * 48)) ∷ []) ∵ keep ! [] $ done !
  room-slots bs b o (suc k) i le = qed 𝓛 (‵ (froom (ty_array cell_type (suc k)) b (o + i * 48)) ∷ []) ∵
      use1 𝓛 (‵ (froom cell_type b (o + i * 48)) ⊛ ‵ (froom (ty_array cell_type k) b (o + i * 48 + 48)))
      (𝓛.laws.room_uncons cell_type k b (o + i * 48)) $ split ! $ move ! (1 ∷ []) $
      rewrite ! 0 (λ (x : ℕ). ‵ (froom (ty_array cell_type k) b x)) {x = o + suc i * 48} (omega arith) refl $
      use1 𝓛 (‵ (slots_own (bs ++ block_ptr b o ∷ []) (1024 * length bs + suc i) (replicate k None))) (room-slots bs b o k (suc i) (omega (arith, le))) $
      rewrite ! 0 (λ (x : ℕ). ‵ (slots_own (bs ++ block_ptr b o ∷ []) x (replicate k None))) {x = suc (1024 * length bs + i)} (omega arith) refl
      $ move ! (1 ∷ []) $
      rewrite ! 0 (λ (p : Ptr). ‵ (room_for cell_type p)) (sym (place-end bs (block_ptr b o) i (omega (arith, le)))) refl $ fjoin ! $ done !

  -- a new block adds empty slots
  pub block-added : (bs : List Ptr) (cs : List (Option Stored)) (b o : ℕ) → length cs ≡ 1024 * length bs → HaveLinks (1024 * length bs) 0 cs
      → ent 𝓤 (sep 𝓤 (H.room (ty_array cell_type 1024) b o) (sem 𝓛 (slots_own bs 0 cs)))
      (sem 𝓛 (slots_own (bs ++ block_ptr b o ∷ []) 0 (cs ++ replicate 1024 None)))
  block-added bs cs b o e h = qed 𝓛 (‵ (froom (ty_array cell_type 1024) b o) ∷ ‵ (slots_own bs 0 cs) ∷ []) ∵
      rewrite ! 0 (λ (x : ℕ). ‵ (froom (ty_array cell_type 1024) b x)) {x = o + 0 * 48} (omega arith) refl $
      use1 𝓛 (‵ (slots_own (bs ++ block_ptr b o ∷ []) (1024 * length bs + 0) (replicate 1024 None))) (room-slots bs b o 1024 0 (omega arith)) $
      rewrite ! 0 (λ (x : ℕ). ‵ (slots_own (bs ++ block_ptr b o ∷ []) x (replicate 1024 None))) {x = 0 + length cs} (omega (arith, e)) refl $ move ! (1 ∷ []) $
      use1 𝓛 (‵ (slots_own (bs ++ block_ptr b o ∷ []) 0 cs)) (slots-grow bs (block_ptr b o ∷ []) 0 cs (omega (arith, e)) h) $ by !
      (slots-append (bs ++ block_ptr b o ∷ []) 0 cs (replicate 1024 None))

  slots-forget : (bs : List Ptr) (s : ℕ) (cs : List (Option Stored)) → ent 𝓤 (sem 𝓛 (slots_own bs s cs)) (sem 𝓛 (slots_own bs s (replicate (length cs) None)))
  slots-forget bs s [] = id⊢ 𝓤 _
  slots-forget bs s (c ∷ cs) = qed 𝓛 (‵ (slots_own bs s (c ∷ cs)) ∷ [])
      ∵ fsplit ! $ use1 𝓛 (‵ (slot_owns bs s None)) (slot_forgotten 𝓛 bs s c) $ move ! (1 ∷ []) $
      use1 𝓛 (‵ (slots_own bs (suc s) (replicate (length cs) None))) (slots-forget bs (suc s) cs) $ move ! (1 ∷ 0 ∷ []) $ fjoin ! $ done !

  empties-cut : (bs : List Ptr) (s k m : ℕ) → ent 𝓤 (sem 𝓛 (slots_own bs s (replicate (k + m) None)))
      (sep 𝓤 (sem 𝓛 (slots_own bs s (replicate k None))) (sem 𝓛 (slots_own bs (s + k) (replicate m None))))
  empties-cut bs s zero m = qed 𝓛 (‵ (slots_own bs s (replicate (zero + m) None)) ∷ [])
      ∵ rewrite ! 0 (λ (j : ℕ). ‵ (slots_own bs s (replicate j None))) {x = m} (omega arith) refl $
      rewrite ! 0 (λ (j : ℕ). ‵ (slots_own bs j (replicate m None))) {x = s + 0} (omega arith) refl $ nothing ! $ done !
  empties-cut bs s (suc k) m = qed 𝓛 (‵ (slots_own bs s (replicate (suc k + m) None)) ∷ [])
      ∵ rewrite ! 0 (λ (j : ℕ). ‵ (slots_own bs s (replicate j None))) {x = suc (k + m)} (omega arith) refl $ fsplit ! $ move ! (1 ∷ []) $
      use1 𝓛 (‵ (slots_own bs (suc s) (replicate k None)) ⊛ ‵ (slots_own bs (suc s + k) (replicate m None))) (empties-cut bs (suc s) k m) $ split !
      $ move ! (2 ∷ 0 ∷ []) $ fjoin ! $ move ! (1 ∷ []) $
      rewrite ! 0 (λ (j : ℕ). ‵ (slots_own bs j (replicate m None))) {x = s + suc k} (omega arith) refl $ move ! (1 ∷ []) $ done !

  empties-shrink : (bs qs : List Ptr) (s k : ℕ) → s + k ≤ 1024 * length bs
      → ent 𝓤 (sem 𝓛 (slots_own (bs ++ qs) s (replicate k None))) (sem 𝓛 (slots_own bs s (replicate k None)))
  empties-shrink bs qs s zero le = id⊢ 𝓤 _
  empties-shrink bs qs s (suc k) le = qed 𝓛 (‵ (slots_own (bs ++ qs) s (replicate (suc k) None)) ∷ [])
      ∵ fsplit ! $ rewrite ! 0 (λ (p : Ptr). ‵ (room_at C.the_row p)) (place-old bs qs s (omega (arith, le))) refl $ move ! (1 ∷ []) $
      use1 𝓛 (‵ (slots_own bs (suc s) (replicate k None))) (empties-shrink bs qs (suc s) k (omega (arith, le))) $ move ! (1 ∷ 0 ∷ []) $ fjoin ! $ done !

  slots-room : (bs : List Ptr) (b o k i : ℕ) → i + k ≤ 1024 → ent 𝓤
      (sem 𝓛 (slots_own (bs ++ block_ptr b o ∷ []) (1024 * length bs + i) (replicate k None))) (H.room (ty_array cell_type k) b (o + i * 48))
  slots-room bs b o zero i le = 𝓛.laws.room_nil cell_type b (o + i * 48)
  slots-room bs b o (suc k) i le = qed 𝓛 (‵ (slots_own (bs ++ block_ptr b o ∷ []) (1024 * length bs + i) (replicate (suc k) None)) ∷ []) ∵ fsplit ! $
      rewrite ! 0 (λ (p : Ptr). ‵ (room_for cell_type p)) (place-end bs (block_ptr b o) i (omega (arith, le))) refl $ move ! (1 ∷ []) $
      rewrite ! 0 (λ (x : ℕ). ‵ (slots_own (bs ++ block_ptr b o ∷ []) x (replicate k None))) {x = 1024 * length bs + suc i} (omega arith) refl $
      use1 𝓛 (‵ (froom (ty_array cell_type k) b (o + suc i * 48))) (slots-room bs b o k (suc i) (omega (arith, le))) $
      rewrite ! 0 (λ (x : ℕ). ‵ (froom (ty_array cell_type k) b x)) {x = o + i * 48 + 48} (omega arith) refl $ move ! (1 ∷ []) $
      by ! (𝓛.laws.room_cons cell_type k b (o + i * 48))

  -- the last block is room again, and the other slots are empty
  pub block-removed : (bs : List Ptr) (cs : List (Option Stored)) (b o : ℕ) → length cs ≡ 1024 * length (bs ++ block_ptr b o ∷ [])
      → ent 𝓤 (sem 𝓛 (slots_own (bs ++ block_ptr b o ∷ []) 0 cs)) (sep 𝓤 (H.room (ty_array cell_type 1024) b o)
      (sem 𝓛 (slots_own bs 0 (replicate (1024 * length bs) None))))
  block-removed bs cs b o e = let all = bs ++ block_ptr b o ∷ [] in
      qed 𝓛 (‵ (slots_own all 0 cs) ∷ []) ∵ use1 𝓛 (‵ (slots_own all 0 (replicate (length cs) None))) (slots-forget all 0 cs) $
      rewrite ! 0 (λ (j : ℕ). ‵ (slots_own all 0 (replicate j None))) {x = 1024 * length bs + 1024}
      (omega (arith, e, length-append bs (block_ptr b o ∷ []))) refl $
      use1 𝓛 (‵ (slots_own all 0 (replicate (1024 * length bs) None)) ⊛ ‵ (slots_own all (0 + 1024 * length bs) (replicate 1024 None)))
      (empties-cut all 0 (1024 * length bs) 1024) $ split ! $
      use1 𝓛 (‵ (slots_own bs 0 (replicate (1024 * length bs) None))) (empties-shrink bs (block_ptr b o ∷ []) 0 (1024 * length bs) (omega arith))
      $ move ! (1 ∷ []) $
      rewrite ! 0 (λ (x : ℕ). ‵ (slots_own all x (replicate 1024 None))) {x = 1024 * length bs + 0} (omega arith) refl $
      use1 𝓛 (‵ (froom (ty_array cell_type 1024) b (o + 0 * 48))) (slots-room bs b o 1024 0 (omega arith)) $
      rewrite ! 0 (λ (x : ℕ). ‵ (froom (ty_array cell_type 1024) b x)) {x = o} (omega arith) refl $ done !
