-- A loose box, as the machine has it: a pointer beside a handle, with the memory of the box. Assumes
-- `Logic`.
use Rattle.std.proofs.Common.{◌≡◌, ℕ, List, [], ◌∷◌, ◌++◌, refl, subst, T}
use mathlib.Core.Bool.{true, ◌&&◌}
use seplogic.Ra.Ura.{Ura}
use mir.Syntax.{Ty, impl, tnil, dnil}
use mir.Raw.{raw as bare}
use mir.Val.{Val, vptr, vstruct, vcons, vnil, of_list, has_ty, WT}
use base.Logic.{never, fst∗}
use types.Logic.{Logic, sem}
use types.Kit.{Item, Goal, Seq, Step, step, ‵, ◌$◌, move, drop, fsplit, fjoin, fpick, fpack, feq_i, feq_l}
use denote.RattleType.{RattleType, Valss}
use denote.Builtin.{RawPtr}
use denote.Memory.{lone}
use denote.RawPtr.{Ptr, block_ptr, null_ptr, ptr_val, in_a_block}
use denote.Steps.{nothing}
use denote.Param.{layout}
use denote.Param.Laws.{Laws}
use denote.Struct.Struct.{within}
use denote.Struct.Owning.{shape}
use Rattle.std.specs.declared.alloc.Allocator.{Ghosts}
use Rattle.std.specs.Box.Ownership.{box_owns}
use Rattle.std.proofs.alloc.Calls.{Al, handle_tells}
use Rattle.std.proofs.ResultValues.{and_tt}
use Rattle.psilt_core.specs.contracts.loose.Loose as loose

-- the value has the type
abbrev pub Suits : Ty → Val → Type 0
Suits τ v = T (has_ty τ v) × WT v

-- a pointer beside a handle
abbrev pub beside : Val → Val → Val
beside p h = vstruct (vcons p (vcons h vnil))

module _ (R Z : RattleType) (L : Laws Z) (g : Ghosts Z.Denot) where
  abbrev pub row : RattleType
  row = loose.the_row R Z g

  -- the handle's type with its laws; nothing is called
  abbrev handle : Al
  handle = record { row = Z; laws = L; g = g; d = impl [] tnil dnil; drops = impl [] tnil dnil }

  pub beside_suits : (b o : ℕ) (h : Val) → Suits (layout Z) h → T (has_ty (layout Z) h && true) × WT (beside (vptr b o) h)
  beside_suits b o h s = (and_tt (has_ty (layout Z) h) s.0, (tt, (s.1, tt)))

  module _ {M : Type 1} {𝓤 : Ura M} {𝓛 : Logic 𝓤} {K : Type 0} {Γ : List (Item 𝓤)} {G : Goal 𝓤 𝓛.H} where
    -- a loose box is taken apart
    pub apart : K → (x : row.Denot) (vs : List Val)
        → ((b o : ℕ) (h : Val) → x.at ≡ block_ptr b o → vs ≡ beside (vptr b o) h ∷ [] → Suits (layout Z) h
        → Seq K 𝓛 (‵ (box_owns (g.dealloc_token x.alloc) R (block_ptr b o) x.value) ∷ ‵ (Z.own_val x.alloc (h ∷ [])) ∷ Γ) G)
        → Seq K 𝓛 (‵ (row.own_val x vs) ∷ Γ) G
    apart t x vs next =
        fsplit t $ fpick t (λ parts. fsplit t $ feq_l t (λ whole. fsplit t $ feq_l t (λ pointer.
        fsplit t $ handle_tells handle t x.alloc parts.1.0 (λ h told fits. move t (1 ∷ []) $ drop t $ move t (1 ∷ []) $
        in_a_block t x.at (λ p. box_owns (g.dealloc_token x.alloc) R p x.value)
        (fst∗ 𝓤 (never 𝓤) (sem 𝓛 (g.dealloc_token x.alloc (bare (lone R.mir)) null_ptr))) (λ b o at.
        let by_pointer = subst (λ (ps : List Val). vs ≡ vstruct (of_list (ps ++ (parts.1.0 ++ []))) ∷ []) pointer whole in
        let by_handle = subst (λ (hs : List Val). vs ≡ vstruct (of_list (ptr_val x.at ∷ (hs ++ []))) ∷ []) told by_pointer in
        next b o h at (subst (λ (p : Ptr). vs ≡ vstruct (of_list (ptr_val p ∷ h ∷ [])) ∷ []) at by_handle) fits)))))

    -- and put together
    pub together : K → (b o : ℕ) (h : Val) (a : Z.Denot) (v : R.Denot)
        → Step K 𝓛 (‵ (row.own_val (record { at = block_ptr b o; alloc = a; value = v }) (beside (vptr b o) h ∷ [])) ∷ Γ) G
        (‵ (box_owns (g.dealloc_token a) R (block_ptr b o) v) ∷ ‵ (Z.own_val a (h ∷ [])) ∷ Γ) G
    together t b o h a v = step (λ rest. let made : Val = beside (vptr b o) h in
        nothing t $ move t (2 ∷ 0 ∷ []) $ fjoin t $ feq_i t (List Val) (vptr b o ∷ []) (vptr b o ∷ []) refl $ fjoin t $ feq_i t (List Val) (made ∷ [])
        (made ∷ []) refl $ fjoin t $
        fpack t (Valss (RawPtr ∷ Z ∷ [])) (within (shape (loose.the_type R Z g)) (block_ptr b o, (a, tt)) (made ∷ [])) (vptr b o ∷ [], (h ∷ [], tt))
        $ fjoin t $ rest)
