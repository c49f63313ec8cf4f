-- `of` keeps the pointer, with the memory. Assumes `Logic`.
use Rattle.std.proofs.Common.{◌≡◌, List, [], ◌∷◌, ◌++◌, refl, sym, subst, Some}
use Rattle.std.proofs.raw_atomic.Walks.{proved_at, leaves}
use Rattle.std.proofs.alloc.Calls.{Goes-blank}
use Rattle.std.specs.contracts.alloc.Global as heap
use Rattle.std.proofs.alloc.Global.TheLaws as heap_laws
use Rattle.std.specs.contracts.impls.GlobalAllocator.TheImpl.{ghosts}
use mir.Val.{Val, vptr}
use base.Logic.{SProp, ent, emp, id⊢}
use base.Fml.{ftrue}
use prog.Wp.{WpFn}
use contract.Monad.{fact, fact_i}
use contract.Running.{tables}
use types.Kit.{‵, raw, ◌⊛◌, ◌$◌, ◌∵◌, !, qed, by, move, keep, split, fsplit, fjoin, use0, suffices}
use types.Part.{agg, sub, whole}
use types.Run.{stop, fld, of_opd, no_more, and_then, returns, enter}
use types.ByLocal.{alloc_all, pass_all, free_all, look_at, get, get_in, sets}
use denote.RattleType.{owns}
use denote.RawPtr.{block_ptr}
use denote.Exit.{yes}
use denote.Signature.{types_at, plain}
use denote.Steps.{nothing}
use denote.Triple.Entry.{alive}
use denote.Triple.Walked.{Stays, stay_dropped, walk_of}
use Rattle.psilt_core.specs.contracts.work.Work.{the_row as work}
use Rattle.psilt_core.proofs.LooseLemmas as loose
use Rattle.psilt_core.proofs.HeldLemmas.{held_val, held_field, held_filled}
use Rattle.psilt_core.specs.contracts.held.Held.{the_row as row}
use Rattle.psilt_core.specs.contracts.held.Held.of.{ended, clauses}
use Rattle.psilt_core.specs.contracts.held.Held.of.Key.{name as key}
use Rattle.psilt_core.proofs.held.Held.of.Statement.{statement}
use Rattle.psilt_core.proofs.held.Held.of.Code as code

pub of_spec : {M : Type 1} → statement M
of_spec 𝓤 𝓛 𝓜 𝓡 wired =
    let c = clauses 𝓛 𝓜.mem 𝓡.returns in let E = ended in let 𝓣 = tables 𝓤 𝓛.H 𝓜 𝓡 𝓡.env in
    let slot = plain (λ _. loose.row work heap.the_row heap_laws.the_row_laws ghosts) in let stays : Stays E.signature.params E.kept =
    (stay_dropped slot yes, tt) in
    proved_at 𝓛 E stays c 𝓜 𝓡 (Goes-blank 𝓛 0 slot yes (λ κs x f. tt), tt) key code.function (code.unfolded 𝓤 𝓛.H 𝓜 𝓡 wired) (λ z are.
    let x = z.0.3.0 in let Post : Val → SProp 𝓤 = (walk_of 𝓛 E stays c).post z in
    let runs : List Val → SProp 𝓤 = λ us. WpFn 𝓤 𝓛.H 𝓣.C 𝓣.Λ code.function us Post in
    qed 𝓛 ((raw (alive 𝓛 E.signature z.0.0 z.0.1) ⊛ ‵ (owns (types_at E.signature.params z.0.0) z.0.3 z.0.4)) ∷ ‵ ftrue ∷ []) ∵
    split ! $ move ! (1 ∷ []) $ fsplit ! $ loose.apart work heap.the_row heap_laws.the_row_laws ghosts ! x z.0.4.0 (λ b o h at are_words fits.
    keep ! (0 ∷ 3 ∷ []) $
    -- [the memory; the tokens]
    let w : Val = loose.beside (vptr b o) h in let suits = loose.beside_suits work heap.the_row heap_laws.the_row_laws ghosts b o h fits in
    let made : row.Denot = record { at = block_ptr b o; value = Some x.value } in
    suffices ! (runs (w ∷ [])) (subst (λ (us : List Val). ent 𝓤 (runs (w ∷ [])) (runs us)) (sym (λ i. are_words i ++ [])) (id⊢ 𝓤 (runs (w ∷ [])))) $
    enter ! 𝓣.C 𝓣.Λ code.function (w ∷ []) Post $ alloc_all ! (λ l. pass_all ! refl (suits, tt) $
    sets ! (of_opd ! (get_in ! (fld ! refl (stop !)) (sub ! 0 refl (whole !)))) refl (tt, tt) $
    sets ! (of_opd ! (get ! refl)) refl (tt, tt) $ sets ! (agg ! (and_then ! (get ! refl) (no_more !))) refl (tt, (tt, tt)) $ returns !
    (look_at ! 0 refl) $ free_all ! refl $
    use0 𝓛 (‵ (held_field (block_ptr b o))) (held_filled 𝓛 (block_ptr b o)) $ fjoin ! $
    use0 𝓛 (raw (fact 𝓤 (made.value ≡ Some x.value))) (fact_i 𝓤 (made.value ≡ Some x.value) (emp 𝓤) refl) $ nothing ! $ nothing ! $ fjoin ! $
    -- [what is left of the box; its value is told; the held box; the tokens]
    keep ! (3 ∷ 0 ∷ 2 ∷ 1 ∷ []) $ by ! (leaves 𝓛 E stays c z (held_val (block_ptr b o)) made (tt, tt) (tt, tt)))))
