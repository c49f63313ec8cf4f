-- `into_loose` hands the pointer on, with the memory. Assumes `Logic`.
use Rattle.std.proofs.Common.{◌≡◌, List, [], ◌∷◌, ◌++◌, refl, ap, ◌∙◌, Some, IsSome}
use Rattle.std.proofs.raw_atomic.Walks.{proved_at, leaves}
use Rattle.std.proofs.alloc.Calls.{Al, Goes-blank, handle_tells}
use Rattle.std.specs.contracts.alloc.Global as heap
use Rattle.std.proofs.alloc.Global.TheLaws as heap_laws
use Rattle.std.specs.contracts.impls.GlobalAllocator.TheImpl.{ghosts}
use mir.Raw.{raw as bare}
use mir.Val.{Val, vptr}
use types.Logic.{sem}
use denote.Memory.{lone}
use Rattle.std.specs.Prelude.{Option}
use Rattle.std.specs.Box.Ownership.{box_owns}
use Rattle.psilt_core.specs.declared.work.Work.{Work}
use mir.Syntax.{impl, tnil, dnil}
use base.Logic.{SProp, emp, never, fst∗}
use prog.Wp.{WpFn}
use contract.Monad.{fact, fact_i}
use contract.Running.{tables}
use types.Kit.{‵, raw, ◌⊛◌, prop, ◌$◌, ◌∵◌, !, qed, by, move, keep, split, fsplit, fjoin, use0, regoal, rewrite}
use types.Part.{agg, sub, whole}
use types.Run.{stop, fld, of_opd, no_more, and_then, returns, enter}
use types.ByLocal.{alloc_all, pass_all, free_all, look_at, get, get_in, sets}
use denote.RattleType.{owns}
use denote.RawPtr.{Ptr, block_ptr, null_ptr, in_a_block}
use denote.Exit.{yes}
use denote.Signature.{types_at, plain}
use denote.Steps.{nothing, heard}
use denote.Triple.Entry.{alive}
use denote.Triple.Walked.{Stays, stay_dropped, walk_of}
use Rattle.psilt_core.specs.Inner.Owned.{boxed_if}
use Rattle.psilt_core.specs.contracts.work.Work.{the_row as work}
use Rattle.psilt_core.proofs.LooseLemmas as loose
use Rattle.psilt_core.proofs.HeldLemmas.{held_val, held_known}
use Rattle.psilt_core.specs.contracts.held.Held.{the_row as row}
use Rattle.psilt_core.specs.contracts.held.Held.into_loose.{ended, clauses}
use Rattle.psilt_core.specs.contracts.held.Held.into_loose.Key.{name as key}
use Rattle.psilt_core.proofs.held.Held.into_loose.Statement.{statement}
use Rattle.psilt_core.proofs.held.Held.into_loose.Code as code
use Rattle.rx_term.proofs.StoreLemmas.{some-value}

-- the type of the handle, with its laws; nothing is called
abbrev handle : Al
handle = record { row = heap.the_row; laws = heap_laws.the_row_laws; g = ghosts; d = impl [] tnil dnil; drops = impl [] tnil dnil }

pub into_loose_spec : {M : Type 1} → statement M
into_loose_spec 𝓤 𝓛 𝓜 𝓡 wired =
    let c = clauses 𝓛 𝓜.mem 𝓡.returns in let E = ended in let 𝓣 = tables 𝓤 𝓛.H 𝓜 𝓡 𝓡.env in
    let slot = plain (λ _. row) in let beside = plain (λ _. heap.the_row) in let stays : Stays E.signature.params E.kept =
    (stay_dropped slot yes, (stay_dropped beside yes, tt)) in
    proved_at 𝓛 E stays c 𝓜 𝓡 (Goes-blank 𝓛 0 slot yes (λ κs x f. tt), (Goes-blank 𝓛 0 beside yes (λ κs x f. tt), tt)) key code.function
    (code.unfolded 𝓤 𝓛.H 𝓜 𝓡 wired) (λ z are.
    let x = z.0.3.0 in let a = z.0.3.1.0 in let Post : Val → SProp 𝓤 = (walk_of 𝓛 E stays c).post z in
    qed 𝓛 ((raw (alive 𝓛 E.signature z.0.0 z.0.1) ⊛ ‵ (owns (types_at E.signature.params z.0.0) z.0.3 z.0.4)) ∷ raw (fact 𝓤 (IsSome x.value)) ∷ []) ∵
    split ! $ move ! (2 ∷ []) $ heard ! (IsSome x.value) (λ is_some. let held = some-value x.value is_some in
    move ! (1 ∷ []) $ fsplit ! $ move ! (1 ∷ []) $ fsplit ! $
    handle_tells handle ! a z.0.4.1.0 (λ h told fits. move ! (2 ∷ []) $ fsplit ! $ keep ! (1 ∷ 2 ∷ 4 ∷ []) $
    -- [what is owned beside the pointer; the handle; the tokens]
    rewrite ! 0 (λ (o : Option Work). ‵ (boxed_if x.at o)) held.1 refl $
    in_a_block ! x.at (λ p. box_owns (ghosts.dealloc_token a) work p held.0)
    (fst∗ 𝓤 (never 𝓤) (sem 𝓛 (ghosts.dealloc_token a (bare (lone work.mir)) null_ptr))) (λ b o at.
    let pointer_is = held_known x.at z.0.4.0 are.0.0 ∙ ap (λ (p : Ptr). held_val p ∷ []) at in let suits =
    loose.beside_suits work heap.the_row heap_laws.the_row_laws ghosts b o h fits in
    regoal ! (λ (us : List Val). prop (WpFn 𝓤 𝓛.H 𝓣.C 𝓣.Λ code.function us Post)) (λ i. pointer_is i ++ (told i ++ [])) refl $
    enter ! 𝓣.C 𝓣.Λ code.function (held_val (block_ptr b o) ∷ h ∷ []) Post $ alloc_all ! (λ l. pass_all ! refl ((tt, (tt, tt)), (fits, tt)) $
    sets ! (of_opd ! (get_in ! (fld ! refl (stop !)) (sub ! 0 refl (whole !)))) refl (tt, tt) $ sets ! (of_opd ! (get ! refl)) refl (tt, tt) $
    sets ! (agg ! (and_then ! (get ! refl) (and_then ! (get ! refl) (no_more !)))) refl suits $ returns ! (look_at ! 0 refl) $ free_all ! refl $
    loose.together work heap.the_row heap_laws.the_row_laws ghosts ! b o h a held.0 $
    use0 𝓛 (raw (fact 𝓤 (x.value ≡ Some held.0))) (fact_i 𝓤 (x.value ≡ Some held.0) (emp 𝓤) held.1) $ nothing ! $ nothing ! $ fjoin ! $ nothing ! $ fjoin ! $
    -- [what is left of both; the value is told; the loose box; the tokens]
    keep ! (3 ∷ 0 ∷ 2 ∷ 1 ∷ []) $ by ! (leaves 𝓛 E stays c z (loose.beside (vptr b o) h) (record { at = block_ptr b o; alloc = a; value = held.0 })
    (tt, (tt, tt)) (tt, (tt, tt))))))))
