use Rattle.std.proofs.Common.{refl, ◌∙◌, arith, rules}
use Rattle.rx_term.specs.Walks.{held_trees}
use Rattle.rec_sorts.specs.Evaluation.{Done}
use Rattle.rec_engine.specs.Machine.{called}
use Rattle.rec_engine.proofs.CallLemmas.{applies-behind, applied-within, applied-reached, applied-value, one-kept, kept-first, ready-through}
use Rattle.rec_engine.proofs.vm.Machine.apply_values.Goals as goal

pub returns-in_err-empty-clause-stays : goal.returns-in_err-empty-clause-stays
returns-in_err-empty-clause-stays g c =
    let w0 = g.B.TermBank.store c.args.self.now.heap.bank in
    let w1 = g.B.TermBank.store c.set_out.new.self.heap.bank in
    let s = c.set_out.ensures.stays in
    record { spec = s.spec; code = s.code; depth = s.depth; bottom = refl; keeps = one-kept w0 w1 c.args.kept c.args.values.now s.keeps; ready = s.ready }

pub run_finish-requires : goal.run_finish-requires
run_finish-requires g c = record {
  sound = search rules;
  callee = search rules;
  some = (let w0 = g.B.TermBank.store c.args.self.now.heap.bank in
      let w1 = g.B.TermBank.store c.set_out.new.self.heap.bank in (
        Done (called c.args.self.now.checked.spec c.args.symbol (held_trees w0 c.args.values.now)) 0,
        applies-behind c.args.self.now.checked.spec c.set_out.new.self.checked.spec c.set_out.new.self.code w0 w1 _ c.args.symbol c.args.kept
            c.args.values.now _ c.in_ok-empty.ensures.stays.spec c.in_ok-empty.ensures.stays.keeps c.requires.values c.requires.symbol c.requires.count
            c.clear.ensures.items c.in_ok-empty.ensures.set,
      ));
}

pub returns-in_err-reached-clause-stays : goal.returns-in_err-reached-clause-stays
returns-in_err-reached-clause-stays g c =
    let w0 = g.B.TermBank.store c.args.self.now.heap.bank in
    let w1 = g.B.TermBank.store c.set_out.new.self.heap.bank in
    let w2 = g.B.TermBank.store c.run_finish.new.self.heap.bank in
    let s = c.set_out.ensures.stays in
    let t = c.run_finish.ensures.stays in
    record {
      spec = t.spec ∙ s.spec;
      code = t.code ∙ s.code;
      depth = t.depth ∙ s.depth;
      bottom = refl;
      keeps =
          kept-first w0 w1 w2 c.args.kept c.in_ok-empty.empty c.args.values.now s.keeps t.keeps;
      ready = ready-through s.spec s.code t.ready;
    }

pub returns-in-Deep-clause-stays : goal.returns-in-Deep-clause-stays
returns-in-Deep-clause-stays g c =
    let w0 = g.B.TermBank.store c.args.self.now.heap.bank in
    let w1 = g.B.TermBank.store c.set_out.new.self.heap.bank in
    let w2 = g.B.TermBank.store c.run_finish.new.self.heap.bank in
    let s = c.set_out.ensures.stays in
    let t = c.run_finish.ensures.stays in
    record {
      spec = t.spec ∙ s.spec;
      code = t.code ∙ s.code;
      depth = t.depth ∙ s.depth;
      bottom = refl;
      keeps =
          kept-first w0 w1 w2 c.args.kept c.in_ok-empty.empty c.args.values.now s.keeps t.keeps;
      ready = ready-through s.spec s.code t.ready;
    }

pub returns-in-Value-clause-stays : goal.returns-in-Value-clause-stays
returns-in-Value-clause-stays g c =
    let w0 = g.B.TermBank.store c.args.self.now.heap.bank in
    let w1 = g.B.TermBank.store c.set_out.new.self.heap.bank in
    let w2 = g.B.TermBank.store c.run_finish.new.self.heap.bank in
    let s = c.set_out.ensures.stays in
    let t = c.run_finish.ensures.stays in
    record {
      spec = t.spec ∙ s.spec;
      code = t.code ∙ s.code;
      depth = t.depth ∙ s.depth;
      bottom = refl;
      keeps =
          kept-first w0 w1 w2 c.args.kept c.in_ok-empty.empty c.args.values.now s.keeps t.keeps;
      ready = ready-through s.spec s.code t.ready;
    }

pub unreachable-requires : goal.unreachable-requires
unreachable-requires g c =
    let w0 = g.B.TermBank.store c.args.self.now.heap.bank in
    let w1 = g.B.TermBank.store c.set_out.new.self.heap.bank in
    let w2 = g.B.TermBank.store c.run_finish.new.self.heap.bank in
    let y = c.args.self.now.checked.spec in
    let u = called y c.args.symbol (held_trees w0 c.args.values.now) in
    applied-reached u 0 w2 c.run_finish.new.self.state c.run_finish.new.self.heap.work.items c.in_ok-reached.reached c.in-Limit.is
    (c.in_ok-reached.ensures.comes (Done u 0) (applies-behind c.args.self.now.checked.spec c.set_out.new.self.checked.spec c.set_out.new.self.code
    w0 w1 _ c.args.symbol c.args.kept c.args.values.now _ c.in_ok-empty.ensures.stays.spec c.in_ok-empty.ensures.stays.keeps c.requires.values
    c.requires.symbol c.requires.count c.clear.ensures.items c.in_ok-empty.ensures.set))

pub index-requires : goal.index-requires
index-requires g c =
    let w0 = g.B.TermBank.store c.args.self.now.heap.bank in
    let w1 = g.B.TermBank.store c.set_out.new.self.heap.bank in
    let w2 = g.B.TermBank.store c.run_finish.new.self.heap.bank in
    let y = c.args.self.now.checked.spec in
    let u = called y c.args.symbol (held_trees w0 c.args.values.now) in
    let two = applied-within u 0 w2 c.run_finish.new.self.state c.run_finish.new.self.heap.work.items c.in_ok-reached.reached c.in-Value.is
    (c.in_ok-reached.ensures.comes (Done u 0) (applies-behind c.args.self.now.checked.spec c.set_out.new.self.checked.spec c.set_out.new.self.code
    w0 w1 _ c.args.symbol c.args.kept c.args.values.now _ c.in_ok-empty.ensures.stays.spec c.in_ok-empty.ensures.stays.keeps c.requires.values
    c.requires.symbol c.requires.count c.clear.ensures.items c.in_ok-empty.ensures.set)) in
    let l = c.run_finish.new.self.heap.work.ok.0 in
    omega (arith, two, l)

pub returns-in-Value-clause-exact : goal.returns-in-Value-clause-exact
returns-in-Value-clause-exact g c =
    let w0 = g.B.TermBank.store c.args.self.now.heap.bank in
    let w1 = g.B.TermBank.store c.set_out.new.self.heap.bank in
    let w2 = g.B.TermBank.store c.run_finish.new.self.heap.bank in
    let y = c.args.self.now.checked.spec in
    let u = called y c.args.symbol (held_trees w0 c.args.values.now) in
    applied-value u 0 w2 c.run_finish.new.self.state c.run_finish.new.self.heap.work.items c.in_ok-reached.reached c.index.result.now
    c.in_ok-reached.ensures.held c.in-Value.is (c.in_ok-reached.ensures.comes (Done u 0)
    (applies-behind c.args.self.now.checked.spec c.set_out.new.self.checked.spec c.set_out.new.self.code w0 w1 _ c.args.symbol c.args.kept
    c.args.values.now _ c.in_ok-empty.ensures.stays.spec c.in_ok-empty.ensures.stays.keeps c.requires.values c.requires.symbol c.requires.count
    c.clear.ensures.items c.in_ok-empty.ensures.set)) c.index.ensures
