-- `of` takes the box's pointer and its handle, with the memory. Assumes `Logic`.
use Rattle.std.proofs.Common.{◌≡◌, List, [], ◌∷◌, ◌++◌, refl, sym, ap, ◌∙◌, subst}
use Rattle.std.proofs.raw_atomic.Walks.{proved_at, leaves}
use Rattle.std.proofs.alloc.Calls.{Goes-blank, handle_tells}
use Rattle.std.proofs.BoxSteps.Form as form
use Rattle.std.proofs.BoxSteps.Steps.{box_out, box_in}
use Rattle.std.specs.Box.Ownership.{box_owns}
use Rattle.std.specs.contracts.boxed.Box.into_raw_with_allocator as raw_box
use Rattle.std.proofs.boxed.Box.into_raw_with_allocator.Met.{met}
use mir.Syntax.{Fn, Args, a_type, dcons, dnil}
use mir.Raw.{raw as bare}
use mir.Val.{Val, vptr, vstruct, of_list}
use mir.MapTy.{inst_fn}
use base.Logic.{SProp, ent, emp, never, id⊢, fst∗}
use base.Fml.{ftrue, fsep, flft}
use prog.Wp.{WpFn}
use contract.Monad.{fact, fact_i}
use contract.Running.{tables}
use types.Logic.{sem}
use types.Kit.{‵, raw, ◌⊛◌, some, later, ◌$◌, ◌∵◌, !, qed, by, move, keep, drop, split, split3}
use types.Kit.{join, fsplit, fjoin, fpick, pick, suffices, use0, use1, await, rewrite, feq_l}
use types.Part.{agg, sub, whole}
use types.Run.{stop, fld, of_opd, no_more, and_then, returns, enter}
use types.ByLocal.{alloc_all, pass_all, free_all, look_at, get, get_in, sets, lands_as}
use denote.Builtin.{RawPtr}
use denote.Exit.{no}
use denote.Param.{param, layout, bounded}
use denote.Param.Laws.{param_laws}
use denote.RattleType.{RattleType, owns}
use denote.RawPtr.{Ptr, block_ptr, null_ptr, ptr_val, in_a_block}
use denote.Signature.{types_at, plain}
use denote.Steps.{nothing, only, heard}
use denote.Struct.Tuple.{Tuple}
use denote.Triple.Call.{calls_at}
use denote.Triple.Spec.{triple_of}
use denote.Triple.Table.{framed}
use denote.Triple.Walked.{Stays, stay_dropped, walk_of}
use Rattle.psilt_core.proofs.LooseLemmas.{beside, beside_suits, together}
use Rattle.psilt_core.specs.contracts.loose.Loose.of.{ended, clauses}
use Rattle.psilt_core.specs.contracts.loose.Loose.of.Key.{name as key}
use Rattle.psilt_core.proofs.loose.Loose.of.Statement.{statement}
use Rattle.psilt_core.proofs.loose.Loose.of.Code as code

pub of_spec : {M : Type 1} → statement M
of_spec 𝓤 𝓛 𝓜 𝓡 wired T A L LA g d dx dd allocator glue glued =
    let c = clauses T A g d dx dd 𝓛 𝓜.mem 𝓡.returns in let E = ended T A g d dx dd in let 𝓣 = tables 𝓤 𝓛.H 𝓜 𝓡 𝓡.env in
    let R : RattleType = param 0 T in let Z : RattleType = param 1 A in let LZ = param_laws 1 A LA in
    let args : Args = bounded (a_type ∷ a_type ∷ []) (T, (A, tt)) (dcons d (dcons dx (dcons dd dnil))) in let fn : Fn = inst_fn args code.function in
    let boxes : form.Bx = record { row = T; laws = L; al = record { row = A; laws = LA; g = g; d = d; drops = dd } } in let Both : RattleType =
    Tuple (RawPtr ∷ Z ∷ []) in
    let slot = plain (λ _. form.B boxes) in let stays : Stays E.signature.params E.kept = (stay_dropped slot no, tt) in
    proved_at 𝓛 E stays c 𝓜 𝓡 (Goes-blank 𝓛 2 slot no (λ κs x f. tt), tt) (key args) fn (code.unfolded 𝓤 𝓛.H 𝓜 𝓡 wired (T, (A, tt)) d dx dd) (λ z are.
    let κs = z.0.0 in let qs = z.0.1 in let x = z.0.3.0 in let a = x.alloc in let Post : Val → SProp 𝓤 = (walk_of 𝓛 E stays c).post z in
    let runs : List Val → SProp 𝓤 = λ us. WpFn 𝓤 𝓛.H 𝓣.C 𝓣.Λ fn us Post in
    let tokens = ‵ (flft κs.0 qs.0) ⊛ ‵ (flft κs.1.0 qs.1.0) ⊛ ‵ ftrue in
    let callee = triple_of 𝓛 (raw_box.signature T A g d dd dx) (raw_box.spec T A g d dd dx 𝓛 𝓜.mem 𝓡.returns) in
    qed 𝓛 ((tokens ⊛ ‵ (owns (types_at E.signature.params κs) z.0.3 z.0.4)) ∷ raw ((c κs z.0.3).requires z.1) ∷ []) ∵
    split ! $ move ! (1 ∷ []) $ fsplit ! $ box_out boxes ! x z.0.4.0 (λ b o h at are_words fits. box_in boxes ! x b o x.value at refl $
    -- [the box; nothing; the tokens; the `requires`]
    let w : Val = form.word boxes h b o in let suits = beside_suits R Z LZ g b o h fits in
    let asked : callee.Ghost = ((κs, qs, tt, (x, tt), (w ∷ [], tt)), tt) in
    fjoin ! $ move ! (1 ∷ 0 ∷ []) $ join ! $ join ! $ use1 𝓛 (raw (callee.pre asked)) (id⊢ 𝓤 _) $
    suffices ! (runs (w ∷ [])) (subst (λ (us : List Val). ent 𝓤 (runs (w ∷ [])) (runs us)) (sym (λ i. are_words i ++ [])) (id⊢ 𝓤 (runs (w ∷ [])))) $
    enter ! 𝓣.C 𝓣.Λ fn (w ∷ []) Post $ alloc_all ! (λ l. pass_all ! refl (suits, tt) $ sets ! (of_opd ! (get ! refl)) refl suits $
    calls_at ! (framed 𝓤 𝓛.H 𝓜 𝓣) callee (met 𝓤 𝓛 𝓜 𝓡 (code.calls-std::boxed::Box::into_raw_with_allocator 𝓡.env wired) T A L LA g d dd dx allocator
    glued glue) asked (and_then ! (get ! refl) (no_more !)) (λ u.
    use1 𝓛 (later (some (λ (r : Ptr × A.Denot). (tokens ⊛ ‵ (Both.own_val r (u ∷ []))) ⊛ some (λ (_ : (Unit {0} × (Unit {0} × Unit {0})) × Unit {0}).
    ‵ (fsep (fsep ftrue (fsep ftrue ftrue)) ftrue) ⊛ (raw (fact 𝓤 (r.1 ≡ a)) ⊛ ‵ (box_owns (g.dealloc_token a) R r.0 x.value)))))) (id⊢ 𝓤 _) $
    await ! tt $ pick ! (λ r. split ! $ move ! (1 ∷ []) $ pick ! (λ _. split3 ! $ drop ! $ heard ! (r.1 ≡ a) (λ same.
    in_a_block ! r.0 (λ p. box_owns (g.dealloc_token a) R p x.value) (fst∗ 𝓤 (never 𝓤) (sem 𝓛 (g.dealloc_token a (bare (layout T)) null_ptr))) (λ b' o' at'.
    -- [the memory; the pair that was answered; the tokens], and the pair is its two parts
    move ! (1 ∷ []) $ split ! $ move ! (1 ∷ []) $ fpick ! (λ parts.
    fsplit ! $ feq_l ! (λ whole_is. fsplit ! $ feq_l ! (λ pointer.
    fsplit ! $ rewrite ! 0 (λ (s : A.Denot). ‵ (A.own_val s parts.1.0)) same refl $ handle_tells boxes.al ! a parts.1.0 (λ h' told fits'.
    let made = beside_suits R Z LZ g b' o' h' fits' in
    lands_as ! (ap only (whole_is ∙ (λ j. vstruct (of_list ((pointer ∙ ap (λ (p : Ptr). ptr_val p ∷ []) at') j ++ (told j ++ []))) ∷ []))) refl made $
    sets ! (of_opd ! (get_in ! (fld ! refl (stop !)) (sub ! 0 refl (whole !)))) refl (tt, tt) $ sets !
    (of_opd ! (get_in ! (fld ! refl (stop !)) (sub ! 1 refl (whole !)))) refl fits' $
    sets ! (of_opd ! (get ! refl)) refl fits' $ sets ! (agg ! (and_then ! (get ! refl) (and_then ! (get ! refl) (no_more !)))) refl made $ move !
    (3 ∷ 0 ∷ []) $ together R Z LZ g ! b' o' h' a x.value $
    use0 𝓛 (raw (fact 𝓤 (x.value ≡ x.value))) (fact_i 𝓤 (x.value ≡ x.value) (emp 𝓤) refl) $ nothing ! $ nothing ! $ fjoin ! $
    returns ! (look_at ! 0 refl) $ free_all ! refl $ keep ! (4 ∷ 0 ∷ 2 ∷ 1 ∷ []) $ by !
    (leaves 𝓛 E stays c z (beside (vptr b' o') h') (record { at = block_ptr b' o'; alloc = a; value = x.value }) ((tt, (tt, tt)), tt) (tt, tt))))))))))))))
