use Rattle.std.proofs.Common.{◌∷◌, ◌-◌, ◌≡◌, [], ap, arith, drop, length, rules, take, subst, sym, ◌∙◌, refl}
use Rattle.rx_term.specs.Tree.{Tree}
use Rattle.rx_term.specs.Walks.{AllHeld, held_trees}
use Rattle.rx_term.proofs.WalkLemmas.{AllHeld-drop}
use Rattle.rec_sorts.specs.Evaluation.{Call, Done, Outcome}
use Rattle.rec_engine.specs.Engine.{IsCallOutcome}
use Rattle.rec_engine.specs.Machine.{called}
use Rattle.rec_trace.specs.declared.tracer.Tracer.{Tracer}
use Rattle.rec_trace.proofs.ListLemmas.{stays-kept, stays-trans}
use Rattle.rec_trace.proofs.TurnLemmas.{called-tree, evaluated, rest-of, saved-held}
use Rattle.rec_trace.proofs.tracer.Tracer.evaluate.Goals as goal

pub call-requires-clause-values : goal.call-requires-clause-values
call-requires-clause-values g c =
    let y = c.args.engine.now.spec in
    let w = g.B.TermBank.store c.args.engine.now.bank in
    let w1 = g.B.TermBank.store c.save.new.engine.bank in
    let held = saved-held y w w1 c.args.self.now c.save.new.row c.save.new.self c.args.symbol c.args.count (c.len.result - c.args.count)
    c.requires.can.row c.in_ok-save.ensures.saves in
    subst (AllHeld w1) (sym (rest-of (c.len.result - c.args.count) c.deref.result.now ∙ ap (drop (c.len.result - c.args.count)) c.deref.ensures.value))
    (AllHeld-drop w1 c.save.new.row.values.items (c.len.result - c.args.count) held)

pub returns-in_err-call-clause-relists : goal.returns-in_err-call-clause-relists
returns-in_err-call-clause-relists g c = record {
  same = search rules;
  stays = stays-trans c.save.ensures.relists.stays
      (stays-kept _ _ (c.save.new.self.list ∷ []) c.save.new.self.list c.save.ensures.relists.stays.kept c.call.ensures.keeps);
  room = search rules;
}

pub returns-in_err-replace-in-Value-clause-relists : goal.returns-in_err-replace-in-Value-clause-relists
returns-in_err-replace-in-Value-clause-relists g c = record {
  same = search rules;
  stays = stays-trans c.save.ensures.relists.stays
      (stays-kept _ _ (c.save.new.self.list ∷ []) c.save.new.self.list c.save.ensures.relists.stays.kept c.call.ensures.keeps);
  room = search rules;
}

pub returns-in-Limit-clause-relists : goal.returns-in-Limit-clause-relists
returns-in-Limit-clause-relists g c = record {
  same = search rules;
  stays = stays-trans c.save.ensures.relists.stays
      (stays-kept _ _ (c.save.new.self.list ∷ []) c.save.new.self.list c.save.ensures.relists.stays.kept c.call.ensures.keeps);
  room = search rules;
}

pub returns-in-Limit-clause-comes : goal.returns-in-Limit-clause-comes
returns-in-Limit-clause-comes g c =
    let y = c.args.engine.now.spec in
    let w = g.B.TermBank.store c.args.engine.now.bank in
    let w1 = g.B.TermBank.store c.save.new.engine.bank in
    let w2 = g.B.TermBank.store c.call.new.self.bank in
    let a = c.args.self.now in
    let saves = c.in_ok-save.ensures.saves in
    let long = c.len.ensures in
    let counted = a.row.values.ok.0 in
    let at : c.len.result - c.args.count ≡ length a.row.values.items - c.args.count = omega (arith, long, counted) in
    let rs = take (length c.deref.result.now - (c.len.result - c.args.count)) (drop (c.len.result - c.args.count) c.deref.result.now) in
    let values : take (length c.deref.result.now - (c.len.result - c.args.count)) (drop (c.len.result - c.args.count) c.deref.result.now) ≡
    drop (length a.row.values.items - c.args.count) a.row.values.items =
    rest-of (c.len.result - c.args.count) c.deref.result.now
    ∙ ap (drop (c.len.result - c.args.count)) (c.deref.ensures.value ∙ saves.values) ∙ ap (λ n. drop n a.row.values.items) at in
    let tree = ap (λ rs. called y c.args.symbol (held_trees w1 rs)) values
    ∙ called-tree y w w1 c.args.symbol c.args.count _ a.row.values.items c.requires.can.row saves.parts in
    let outcome = subst (λ z. IsCallOutcome z w2 a.left (called z c.args.symbol (held_trees w1 rs)) c.in_ok-call.field-0)
    c.save.ensures.relists.same.spec c.in_ok-call.ensures.outcome in
    let over = subst (IsCallOutcome y w2 a.left (called y c.args.symbol (held_trees w1 rs))) c.in-Limit.is outcome in
    ap (Call y a.left) (sym tree) ∙ over

pub returns-in_ok-replace-in-Value-clause-relists : goal.returns-in_ok-replace-in-Value-clause-relists
returns-in_ok-replace-in-Value-clause-relists g c = record {
  same = search rules;
  stays = stays-trans c.save.ensures.relists.stays
      (stays-kept _ _ (c.save.new.self.list ∷ []) c.save.new.self.list c.save.ensures.relists.stays.kept c.call.ensures.keeps);
  room = search rules;
}

pub returns-in_ok-replace-in-Value-clause-comes : goal.returns-in_ok-replace-in-Value-clause-comes
returns-in_ok-replace-in-Value-clause-comes g c =
    let y = c.args.engine.now.spec in
    let w = g.B.TermBank.store c.args.engine.now.bank in
    let w1 = g.B.TermBank.store c.save.new.engine.bank in
    let w2 = g.B.TermBank.store c.call.new.self.bank in
    let a = c.args.self.now in
    let saves = c.in_ok-save.ensures.saves in
    let long = c.len.ensures in
    let counted = a.row.values.ok.0 in
    let at : c.len.result - c.args.count ≡ length a.row.values.items - c.args.count = omega (arith, long, counted) in
    let rs = take (length c.deref.result.now - (c.len.result - c.args.count)) (drop (c.len.result - c.args.count) c.deref.result.now) in
    let values : take (length c.deref.result.now - (c.len.result - c.args.count)) (drop (c.len.result - c.args.count) c.deref.result.now) ≡
    drop (length a.row.values.items - c.args.count) a.row.values.items =
    rest-of (c.len.result - c.args.count) c.deref.result.now
    ∙ ap (drop (c.len.result - c.args.count)) (c.deref.ensures.value ∙ saves.values) ∙ ap (λ n. drop n a.row.values.items) at in
    let tree = ap (λ rs. called y c.args.symbol (held_trees w1 rs)) values
    ∙ called-tree y w w1 c.args.symbol c.args.count _ a.row.values.items c.requires.can.row saves.parts in
    let outcome = subst (λ z. IsCallOutcome z w2 a.left (called z c.args.symbol (held_trees w1 rs)) c.in_ok-call.field-0)
    c.save.ensures.relists.same.spec c.in_ok-call.ensures.outcome in
    let comes = subst (IsCallOutcome y w2 a.left (called y c.args.symbol (held_trees w1 rs))) c.in-Value.is outcome in
    let spent = comes.4 in
    let left : comes.1 ≡ a.left - c.in-Value.steps = omega (arith, spent) in
    let new : Tracer = record a { row = c.replace.new.self; saved = c.save.new.self; left = a.left - c.in-Value.steps } in
    let h = evaluated y w w1 a c.save.new.row c.save.new.self c.args.symbol c.args.count (c.len.result - c.args.count) c.requires.can.row saves w2 new
    c.in-Value.term comes.0 c.requires.can.good at c.call.ensures.keeps comes.2 c.replace.ensures.steps c.in_ok-replace-in-Value.ensures.values
    c.in_ok-replace-in-Value.ensures.low refl in
    (comes.0, ap (Call y a.left) (sym tree) ∙ comes.3 ∙ ap (λ k. let o : Outcome Tree = Done comes.0 k in o) left, h.order, h.moves, h.stack)
