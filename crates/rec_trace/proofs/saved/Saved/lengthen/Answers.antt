use Rattle.std.proofs.Common.{◌∷◌, ◌++◌, [], rules, subst, sym}
use Rattle.rec_trace.specs.Inner.Saving.{KeepsLowest}
use Rattle.rec_trace.specs.Lists.{Stays}
use Rattle.rec_trace.proofs.ListLemmas.{on-err, same_both, stays-kept, stays-trans}
use Rattle.rec_trace.proofs.SavedLemmas.{saving-next, saving-refused}
use Rattle.rec_trace.proofs.saved.Saved.lengthen.Goals as goal

pub returns-in_err-list-clause-relists : goal.returns-in_err-list-clause-relists
returns-in_err-list-clause-relists g c =
    let h = c.values.invariant.1 in
    record {
      same = search rules;
      stays = stays-trans h.stays (stays-kept _ _ (c.values.values.items ++ c.values.self.list ∷ []) c.values.self.list h.stays.kept c.hold_on.ensures.keeps);
      room = search rules;
    }

pub returns-in_err-protect_instead-clause-relists : goal.returns-in_err-protect_instead-clause-relists
returns-in_err-protect_instead-clause-relists g c =
    let h = c.values.invariant.1 in
    record {
      same = search rules;
      stays = subst (λ x. Stays (g.B.TermBank.store c.args.engine.now.bank) x c.args.self.now.list c.values.self.list)
          (sym c.in_err-protect_instead.ensures.err)
          (stays-trans h.stays (stays-kept _ _ (c.values.values.items ++ c.values.self.list ∷ []) c.values.self.list h.stays.kept c.hold_on.ensures.keeps));
      room = search rules;
    }

pub values-preserved : goal.values-preserved
values-preserved g c = (
  same_both (same_both c.values.invariant.0 c.hold_on.ensures.same) c.protect_instead.ensures.same,
  saving-next (g.B.TermBank.store c.args.engine.now.bank) (g.B.TermBank.store c.values.engine.bank) (g.B.TermBank.store c.hold_on.new.self.bank)
      (g.B.TermBank.store c.protect_instead.new.engine.bank) c.args.self.now c.values.self c.args.values.now.items c.values.values.items
      c.hold_on.new.stack.items c.args.count c.in_ok-list.list c.values.invariant.1 c.values-test.true c.hold_on.ensures.keeps
      c.in_ok-list.ensures.stack c.in_ok-list.ensures.held c.in_ok-protect_instead.ensures.ok,
)

pub returns-in_err-list-clause-refused : goal.returns-in_err-list-clause-refused
returns-in_err-list-clause-refused g c =
    on-err c.from_residual.result
    (saving-refused (g.B.TermBank.store c.args.engine.now.bank) (g.B.TermBank.store c.values.engine.bank) (g.B.TermBank.store c.hold_on.new.self.bank)
    c.args.self.now c.values.self c.args.values.now.items c.values.values.items c.hold_on.new.stack.items c.args.count c.values.invariant.1
    c.hold_on.ensures.keeps c.hold_on.ensures.below)

pub returns-in_err-protect_instead-clause-refused : goal.returns-in_err-protect_instead-clause-refused
returns-in_err-protect_instead-clause-refused g c =
    on-err c.from_residual-in_err-protect_instead.result
    (subst (λ x. KeepsLowest (g.B.TermBank.store c.args.engine.now.bank) x c.args.values.now.items c.hold_on.new.stack.items c.args.self.now c.values.self)
    (sym c.in_err-protect_instead.ensures.err)
    (saving-refused (g.B.TermBank.store c.args.engine.now.bank) (g.B.TermBank.store c.values.engine.bank) (g.B.TermBank.store c.hold_on.new.self.bank)
    c.args.self.now c.values.self c.args.values.now.items c.values.values.items c.hold_on.new.stack.items c.args.count c.values.invariant.1
    c.hold_on.ensures.keeps c.hold_on.ensures.below))
