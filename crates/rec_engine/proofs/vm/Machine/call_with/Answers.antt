use Rattle.std.proofs.Common.{refl, ap, ◌∙◌, arith, rules, Ok}
use Rattle.rec_engine.proofs.ControlLemmas.{obeys-failed, obeys-stopped}
use Rattle.rx_term.specs.Walks.{held_trees}
use Rattle.rec_sorts.specs.Evaluation.{Call}
use Rattle.rec_engine.specs.Machine.{called}
use Rattle.rec_engine.proofs.CallLemmas.{begins-behind, call-limit, call-within, call-reached, one-kept, kept-first, ready-through}
use Rattle.rec_engine.proofs.EvaluationLemmas.{came-full, some-is, came-above}
use Rattle.rec_engine.proofs.vm.Machine.call_with.Goals as goal

pub returns-in_err-empty-clause-stays : goal.returns-in_err-empty-clause-stays
returns-in_err-empty-clause-stays g c =
    let w0 = g.B.TermBank.store c.args.self.now.heap.bank in
    let w1 = g.B.TermBank.store c.set_out.new.self.heap.bank in
    let s = c.set_out.ensures.stays in
    record { spec = s.spec; code = s.code; depth = s.depth; bottom = refl; keeps = one-kept w0 w1 c.args.kept c.args.values.now s.keeps; ready = s.ready }

pub run_call-requires : goal.run_call-requires
run_call-requires g c = record {
  sound = search rules;
  callee = search rules;
  some = (let w0 = g.B.TermBank.store c.args.self.now.heap.bank in
      let w1 = g.B.TermBank.store c.set_out.new.self.heap.bank in (
        Call c.args.self.now.checked.spec c.args.n (called c.args.self.now.checked.spec c.args.symbol (held_trees w0 c.args.values.now)),
        begins-behind c.args.self.now.checked.spec c.set_out.new.self.checked.spec c.set_out.new.self.code w0 w1 _ c.args.symbol c.args.kept
            c.args.values.now _ c.in_ok-empty.ensures.stays.spec c.in_ok-empty.ensures.stays.keeps c.requires.values c.requires.symbol c.requires.count
            c.clear.ensures.items c.in_ok-empty.ensures.set,
      ));
}

pub returns-in_err-reached-clause-stays : goal.returns-in_err-reached-clause-stays
returns-in_err-reached-clause-stays g c =
    let w0 = g.B.TermBank.store c.args.self.now.heap.bank in
    let w1 = g.B.TermBank.store c.set_out.new.self.heap.bank in
    let w2 = g.B.TermBank.store c.run_call.new.self.heap.bank in
    let s = c.set_out.ensures.stays in
    let t = c.run_call.ensures.stays in
    record {
      spec = t.spec ∙ s.spec;
      code = t.code ∙ s.code;
      depth = t.depth ∙ s.depth;
      bottom = refl;
      keeps =
          kept-first w0 w1 w2 c.args.kept c.in_ok-empty.empty c.args.values.now s.keeps t.keeps;
      ready = ready-through s.spec s.code t.ready;
    }

pub returns-in_default-clause-stays : goal.returns-in_default-clause-stays
returns-in_default-clause-stays g c =
    let w0 = g.B.TermBank.store c.args.self.now.heap.bank in
    let w1 = g.B.TermBank.store c.set_out.new.self.heap.bank in
    let w2 = g.B.TermBank.store c.run_call.new.self.heap.bank in
    let s = c.set_out.ensures.stays in
    let t = c.run_call.ensures.stays in
    record {
      spec = t.spec ∙ s.spec;
      code = t.code ∙ s.code;
      depth = t.depth ∙ s.depth;
      bottom = refl;
      keeps =
          kept-first w0 w1 w2 c.args.kept c.in_ok-empty.empty c.args.values.now s.keeps t.keeps;
      ready = ready-through s.spec s.code t.ready;
    }

pub returns-in-Limit-clause-stays : goal.returns-in-Limit-clause-stays
returns-in-Limit-clause-stays g c =
    let w0 = g.B.TermBank.store c.args.self.now.heap.bank in
    let w1 = g.B.TermBank.store c.set_out.new.self.heap.bank in
    let w2 = g.B.TermBank.store c.run_call.new.self.heap.bank in
    let s = c.set_out.ensures.stays in
    let t = c.run_call.ensures.stays in
    record {
      spec = t.spec ∙ s.spec;
      code = t.code ∙ s.code;
      depth = t.depth ∙ s.depth;
      bottom = refl;
      keeps =
          kept-first w0 w1 w2 c.args.kept c.in_ok-empty.empty c.args.values.now s.keeps t.keeps;
      ready = ready-through s.spec s.code t.ready;
    }

pub returns-in-Deep-clause-stays : goal.returns-in-Deep-clause-stays
returns-in-Deep-clause-stays g c =
    let w0 = g.B.TermBank.store c.args.self.now.heap.bank in
    let w1 = g.B.TermBank.store c.set_out.new.self.heap.bank in
    let w2 = g.B.TermBank.store c.run_call.new.self.heap.bank in
    let s = c.set_out.ensures.stays in
    let t = c.run_call.ensures.stays in
    record {
      spec = t.spec ∙ s.spec;
      code = t.code ∙ s.code;
      depth = t.depth ∙ s.depth;
      bottom = refl;
      keeps =
          kept-first w0 w1 w2 c.args.kept c.in_ok-empty.empty c.args.values.now s.keeps t.keeps;
      ready = ready-through s.spec s.code t.ready;
    }

pub returns-in-Value-clause-stays : goal.returns-in-Value-clause-stays
returns-in-Value-clause-stays g c =
    let w0 = g.B.TermBank.store c.args.self.now.heap.bank in
    let w1 = g.B.TermBank.store c.set_out.new.self.heap.bank in
    let w2 = g.B.TermBank.store c.run_call.new.self.heap.bank in
    let s = c.set_out.ensures.stays in
    let t = c.run_call.ensures.stays in
    record {
      spec = t.spec ∙ s.spec;
      code = t.code ∙ s.code;
      depth = t.depth ∙ s.depth;
      bottom = refl;
      keeps =
          kept-first w0 w1 w2 c.args.kept c.in_ok-empty.empty c.args.values.now s.keeps t.keeps;
      ready = ready-through s.spec s.code t.ready;
    }

pub returns-in-Limit-clause-exact : goal.returns-in-Limit-clause-exact
returns-in-Limit-clause-exact g c =
    let w0 = g.B.TermBank.store c.args.self.now.heap.bank in
    let w1 = g.B.TermBank.store c.set_out.new.self.heap.bank in
    let w2 = g.B.TermBank.store c.run_call.new.self.heap.bank in
    let y = c.args.self.now.checked.spec in
    let u = called y c.args.symbol (held_trees w0 c.args.values.now) in
    call-limit y c.args.n u w2 c.run_call.new.self.state c.run_call.new.self.heap.work.items c.in-Some.end c.in-Limit.is
    (some-is _ c.in-Some.is c.in_ok-reached.ensures.comes (Call y c.args.n u) (begins-behind c.args.self.now.checked.spec c.set_out.new.self.checked.spec
    c.set_out.new.self.code w0 w1 _ c.args.symbol c.args.kept c.args.values.now _ c.in_ok-empty.ensures.stays.spec
    c.in_ok-empty.ensures.stays.keeps c.requires.values c.requires.symbol c.requires.count c.clear.ensures.items c.in_ok-empty.ensures.set))

pub index-term-requires : goal.index-term-requires
index-term-requires g c =
    let w0 = g.B.TermBank.store c.args.self.now.heap.bank in
    let w1 = g.B.TermBank.store c.set_out.new.self.heap.bank in
    let w2 = g.B.TermBank.store c.run_call.new.self.heap.bank in
    let y = c.args.self.now.checked.spec in
    let u = called y c.args.symbol (held_trees w0 c.args.values.now) in
    let r = call-within y c.args.n u w2 c.run_call.new.self.state c.run_call.new.self.heap.work.items c.in-Some.end c.in-Value.is
    (some-is _ c.in-Some.is c.in_ok-reached.ensures.comes (Call y c.args.n u) (begins-behind c.args.self.now.checked.spec c.set_out.new.self.checked.spec
    c.set_out.new.self.code w0 w1 _ c.args.symbol c.args.kept c.args.values.now _ c.in_ok-empty.ensures.stays.spec
    c.in_ok-empty.ensures.stays.keeps c.requires.values c.requires.symbol c.requires.count c.clear.ensures.items c.in_ok-empty.ensures.set)) in
    let two = r.0 in
    let l = c.run_call.new.self.heap.work.ok.0 in
    omega (arith, two, l)

pub overflow_sub-steps : goal.overflow_sub-steps
overflow_sub-steps g c =
    let w0 = g.B.TermBank.store c.args.self.now.heap.bank in
    let w1 = g.B.TermBank.store c.set_out.new.self.heap.bank in
    let w2 = g.B.TermBank.store c.run_call.new.self.heap.bank in
    let y = c.args.self.now.checked.spec in
    let u = called y c.args.symbol (held_trees w0 c.args.values.now) in
    (call-within y c.args.n u w2 c.run_call.new.self.state c.run_call.new.self.heap.work.items c.in-Some.end c.in-Value.is
    (some-is _ c.in-Some.is c.in_ok-reached.ensures.comes (Call y c.args.n u) (begins-behind c.args.self.now.checked.spec c.set_out.new.self.checked.spec
    c.set_out.new.self.code w0 w1 _ c.args.symbol c.args.kept c.args.values.now _ c.in_ok-empty.ensures.stays.spec
    c.in_ok-empty.ensures.stays.keeps c.requires.values c.requires.symbol c.requires.count c.clear.ensures.items c.in_ok-empty.ensures.set))).1

pub returns-in-Value-clause-exact : goal.returns-in-Value-clause-exact
returns-in-Value-clause-exact g c =
    let w0 = g.B.TermBank.store c.args.self.now.heap.bank in
    let w1 = g.B.TermBank.store c.set_out.new.self.heap.bank in
    let w2 = g.B.TermBank.store c.run_call.new.self.heap.bank in
    let y = c.args.self.now.checked.spec in
    let u = called y c.args.symbol (held_trees w0 c.args.values.now) in
    call-reached y c.args.n u w2 c.run_call.new.self.state c.run_call.new.self.heap.work.items c.in-Some.end c.index-term.result.now
    c.in_ok-reached.ensures.held c.in-Value.is (some-is _ c.in-Some.is c.in_ok-reached.ensures.comes (Call y c.args.n u)
    (begins-behind c.args.self.now.checked.spec c.set_out.new.self.checked.spec c.set_out.new.self.code w0 w1 _ c.args.symbol c.args.kept
    c.args.values.now _ c.in_ok-empty.ensures.stays.spec c.in_ok-empty.ensures.stays.keeps c.requires.values c.requires.symbol c.requires.count
    c.clear.ensures.items c.in_ok-empty.ensures.set)) c.index-term.ensures

pub returns-in-Deep-clause-deep : goal.returns-in-Deep-clause-deep
returns-in-Deep-clause-deep g c _ =
    let w0 = g.B.TermBank.store c.args.self.now.heap.bank in
    let w1 = g.B.TermBank.store c.set_out.new.self.heap.bank in
    let y = c.args.self.now.checked.spec in
    let u = called y c.args.symbol (held_trees w0 c.args.values.now) in
    came-full (g.B.TermBank.store c.run_call.new.self.heap.bank) c.run_call.new.self.state c.run_call.new.self.heap.work.items (Call y c.args.n u)
    c.in-Some.end c.in-Deep.is (some-is _ c.in-Some.is c.in_ok-reached.ensures.comes (Call y c.args.n u)
    (begins-behind c.args.self.now.checked.spec c.set_out.new.self.checked.spec c.set_out.new.self.code w0 w1 _ c.args.symbol c.args.kept
    c.args.values.now _ c.in_ok-empty.ensures.stays.spec c.in_ok-empty.ensures.stays.keeps c.requires.values c.requires.symbol c.requires.count
    c.clear.ensures.items c.in_ok-empty.ensures.set))

pub returns-in-Value-clause-stands : goal.returns-in-Value-clause-stands
returns-in-Value-clause-stands g c =
    let w0 = g.B.TermBank.store c.args.self.now.heap.bank in
    let w1 = g.B.TermBank.store c.set_out.new.self.heap.bank in
    let y = c.args.self.now.checked.spec in
    let u = called y c.args.symbol (held_trees w0 c.args.values.now) in (
      c.in_ok-empty.empty,
      came-above (g.B.TermBank.store c.run_call.new.self.heap.bank) c.run_call.new.self.state c.run_call.new.self.heap.work.items (Call y c.args.n u)
          c.in-Some.end c.args.kept c.in_ok-empty.empty c.index-term.result.now c.in-Value.is
          (some-is _ c.in-Some.is c.in_ok-reached.ensures.comes (Call y c.args.n u)
          (begins-behind c.args.self.now.checked.spec c.set_out.new.self.checked.spec c.set_out.new.self.code w0 w1 _ c.args.symbol c.args.kept
          c.args.values.now _ c.in_ok-empty.ensures.stays.spec c.in_ok-empty.ensures.stays.keeps c.requires.values c.requires.symbol c.requires.count
          c.clear.ensures.items c.in_ok-empty.ensures.set)) c.run_call.ensures.stays.bottom c.index-term.ensures,
    )

pub returns-in_err-reached-clause-obeys : goal.returns-in_err-reached-clause-obeys
returns-in_err-reached-clause-obeys g c = obeys-failed _ c.run_call.ensures.obeys c.in_err-reached.was c.from_residual-in_err-reached.ensures.1

pub returns-in_default-clause-obeys : goal.returns-in_default-clause-obeys
returns-in_default-clause-obeys g c = obeys-stopped c.run_call.ensures.obeys (c.in_ok-reached.was ∙ ap Ok c.in_default.is)
