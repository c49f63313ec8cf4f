-- `number` reads the number in the cell that a link leads to. Assumes `Logic`.
use Rattle.std.proofs.Common.{◌≡◌, List, [], ◌∷◌, ◌^◌, get_or, None, IfSome, refl, sym, subst, w32}
use Rattle.std.specs.Prelude.{Option}
use Rattle.std.proofs.raw_atomic.Walks.{proved, leaves}
use base.Logic.{emp}
use base.Fml.{ftrue, flft}
use mir.Syntax.{named}
use mir.Val.{Val, vint, vptr}
use prog.Wp.{WpFn}
use contract.Monad.{fact, fact_i}
use contract.Running.{tables}
use types.Kit.{‵, raw, ◌⊛◌, prop, at_ret, ◌$◌, ◌∵◌, !, qed, by, move, keep, drop, use0, split, join, regoal, fsplit, fjoin, feq_i, flt_i}
use types.Part.{whole, sub, look_in}
use types.Run.{from, hop, stop, fld, load, of_opd, first, blocks, exec, returns, enter}
use types.ByLocal.{alloc_all, pass_all, free_all, look_at, look_in_at, get, sets, sets_last, env}
use denote.Opens.{unhide}
use denote.Ref.{shr_vals, shr_Tells}
use denote.RattleType.{owns}
use denote.RawPtr.{Ptr, block_ptr}
use denote.Signature.{types_at}
use denote.Steps.{nothing, heard}
use denote.Triple.Walked.{Stays, walk_of, stay_dropped, Goes-dropped}
use Rattle.std.proofs.VecSteps.Shapes.{after}
use Rattle.rx_arena.specs.Inner.Node.{Stored, led_to}
use Rattle.rx_arena.specs.Inner.Held.{IsLead}
use Rattle.rx_arena.specs.Inner.Ownership.{cell_of}
use Rattle.rx_arena.specs.declared.cells.Place.{Place}
use Rattle.rx_arena.proofs.cells.Lead.TheLaws as lead_laws
use Rattle.rx_arena.specs.contracts.cells.Cells.{the_row as Cs}
use Rattle.rx_arena.specs.contracts.cells.Cells.number as f
use Rattle.rx_arena.proofs.cells.Cells.number.Statement.{statement}
use Rattle.rx_arena.proofs.cells.Cells.number.Code as code
use Rattle.rx_arena.proofs.StepLemmas.{param_at, lead_val, lead_Tells, LeadGood}
use Rattle.rx_arena.proofs.AccessLemmas.{slot_looks, cell_seen, cell_shut}

abbrev stayed : Stays f.ended.signature.params f.ended.kept
stayed = (stay_dropped (param_at f.ended.signature.params 0) f.ended.kept.0, (stay_dropped (param_at f.ended.signature.params 1) f.ended.kept.1.0, tt))

pub number_spec : {M : Type 1} → statement M
number_spec 𝓤 𝓛 𝓜 𝓡 wired =
    let c = f.clauses 𝓛 𝓜.mem 𝓡.returns in let W = walk_of 𝓛 f.ended stayed c in let 𝓣 = tables 𝓤 𝓛.H 𝓜 𝓡 𝓡.env in
    proved 𝓛 f.ended stayed c 𝓜 𝓡 (
      Goes-dropped 𝓛 1 (param_at f.ended.signature.params 0) f.ended.kept.0 (λ κs x w. refl),
      (Goes-dropped 𝓛 1 (param_at f.ended.signature.params 1) f.ended.kept.1.0 (λ κs x w. refl), tt),
    )
    f.Key.name code.function (code.unfolded 𝓤 𝓛.H 𝓜 𝓡 wired)
    (λ κs. (shr_vals, ((λ p. lead_val p ∷ []), tt))) (λ κs. (shr_Tells (named 0) κs.0 Cs, (lead_Tells, tt))) (λ κs qs bounds a g are.
    let κ = κs.0 in let rb = a.0.ref_ptr.0 in let ro = a.0.ref_ptr.1 in let d = a.0.now in let p = a.1.0 in
    let Asked = IsLead d.blocks d.slots p in
    let y : W.Ghost = ((κs, qs, bounds, a, (shr_vals a.0, (lead_val p ∷ [], tt))), g) in
    let Runs = λ (q : Ptr). prop (WpFn 𝓤 𝓛.H 𝓣.C 𝓣.Λ code.function (vptr rb ro ∷ lead_val (record p { to = q }) ∷ []) (W.post y)) in
    qed 𝓛 (((‵ (flft κ qs.0) ⊛ ‵ ftrue) ⊛ ‵ (owns (types_at f.signature.params κs) a y.0.4)) ∷ raw (fact 𝓤 Asked) ∷ []) ∵
    move ! (1 ∷ []) $ heard ! Asked (λ asked. split ! $ split ! $ move ! (2 ∷ []) $ fsplit ! $ fsplit ! $ keep ! (1 ∷ 3 ∷ []) $
    let t = led_to p.slot asked.0.chain in let m = asked.3.0 in
    let next : Place = record { slot = t; at = p.to } in let x = cell_of d.blocks t m in
    let Named = λ (n : Stored). t ≡ led_to p.slot n.chain in
    let Given = IfSome (get_or d.slots p.slot None) Named in
    let given : Given = subst (λ (z : Option Stored). IfSome z Named) (sym asked.1) refl in
    -- [what the `&` to the owner holds; the token]
    unhide ! $ fsplit ! $ drop ! $
    slot_looks d.blocks d.slots next m ! asked.2 asked.3.1 (λ b o e.
    let good : LeadGood (record p { to = block_ptr b o }) = subst (λ (q : Ptr). LeadGood (record p { to = q })) e
    ((lead_laws.the_row_laws.lawful 𝓛).typed p (lead_val p ∷ []) are.1.0).0 in
    -- [what a `&` to the cell holds; the token]
    regoal ! Runs e refl $ enter ! _ _ _ _ _ $ alloc_all ! (λ l. pass_all ! refl ((tt, tt), (good, tt)) $
    let E = env code.Mir.locals l in
    cell_seen ! tt x b o (λ part fits. let few = fits.1 in
    first ! $ blocks ! $
    sets_last ! (of_opd ! (load ! (from ! (fld ! refl (hop ! (look_in_at ! 2 (sub ! 1 refl (whole !))) (fld ! refl (stop !)))))
    (look_in ! 0 (sub ! 1 refl (whole !))))) refl (tt, record { fits = few }) $
    exec ! 𝓣.C 𝓣.Λ E (after 1 code.function.body) (at_ret E (W.post y)) $ cell_shut ! tt part x b o fits $
    sets ! (of_opd ! (get ! refl)) refl (tt, record { fits = few }) $ returns ! (look_at ! 0 refl) $ free_all ! refl $
    flt_i ! t (2 ^ 32) few $ feq_i ! (List Val) (vint w32 t ∷ []) (vint w32 t ∷ []) refl $ fjoin ! $ use0 𝓛 (raw (fact 𝓤 Given))
    (fact_i 𝓤 Given (emp 𝓤) given) $
    nothing ! $ nothing ! $ fjoin ! $ nothing ! $ fjoin ! $ nothing ! $ move ! (4 ∷ 0 ∷ []) $ join ! $ move ! (0 ∷ 1 ∷ 3 ∷ []) $
    by ! (leaves 𝓛 f.ended stayed c y (vint w32 t) t (tt, (tt, tt)) (tt, (tt, tt))))))))
