use Rattle.std.proofs.Common.{refl, subst, ap, ◌∙◌, arith, Ok, []}
use Rattle.rec_engine.proofs.ControlLemmas.{obeys-failed, obeys-stopped}
use Rattle.rx_term.specs.Steps.{Keeps}
use Rattle.rec_sorts.specs.Evaluation.{Eval}
use Rattle.rec_engine.proofs.CodeLemmas.{starts}
use Rattle.rec_engine.proofs.EvaluationLemmas.{first-one, first-two, two-held, kept-all, came-full, came-limit, came-within, came-value, came-above, some-is}
use Rattle.rec_engine.proofs.StayLemmas.{ready-kept, stays-kept}
use Rattle.rec_engine.proofs.vm.Machine.evaluate.Goals as goal

pub run-requires : goal.run-requires
run-requires g c = record {
  sound = (let w0 = g.B.TermBank.store c.args.self.now.heap.bank in
      let w1 = g.B.TermBank.store c.push_nil.new.self.bank in
      let k1 = subst (λ xs. Keeps w0 w1 xs) (first-one c.args.self.now.heap.work.items c.push.new.work.items c.push.new.work.items c.args.t c.requires.idle
      c.in_ok-push.ensures.pushed refl) c.push_nil.ensures.kept.keeps in
      record {
        ready = ready-kept c.requires.ready k1 c.push_nil.ensures.kept.known;
        held = two-held w0 w1 c.args.t c.in_ok-empty.empty c.push_nil.new.self.work.items k1 c.requires.held c.in_ok-empty.ensures.empty
            (first-two c.args.self.now.heap.work.items c.push.new.work.items c.push_nil.new.self.work.items c.args.t c.in_ok-empty.empty c.requires.idle
            c.in_ok-push.ensures.pushed c.in_ok-empty.ensures.pushed);
        is_empty = c.in_ok-empty.ensures.empty;
      });
  some = (
    Eval c.args.self.now.checked.spec c.args.n [] c.requires.own.0,
    starts c.args.self.now.checked.spec c.args.self.now.code (g.B.TermBank.store c.push_nil.new.self.bank) _ c.requires.own.1.0 c.requires.own.0
        c.requires.ready.code c.requires.own.1.1 c.requires.own.1.2 c.clear.ensures.items refl c.push_nil.new.self.work.items
        (first-two c.args.self.now.heap.work.items c.push.new.work.items c.push_nil.new.self.work.items c.args.t c.in_ok-empty.empty c.requires.idle
        c.in_ok-push.ensures.pushed c.in_ok-empty.ensures.pushed),
  );
}

pub returns-in_err-empty-clause-stays : goal.returns-in_err-empty-clause-stays
returns-in_err-empty-clause-stays g c =
    let w0 = g.B.TermBank.store c.args.self.now.heap.bank in
    let w1 = g.B.TermBank.store c.push_nil.new.self.bank in
    let k1 = subst (λ xs. Keeps w0 w1 xs) (first-one c.args.self.now.heap.work.items c.push.new.work.items c.push.new.work.items c.args.t c.requires.idle
    c.in_ok-push.ensures.pushed refl) c.push_nil.ensures.kept.keeps in
    stays-kept c.requires.ready k1 c.push_nil.ensures.kept.known

pub returns-in_err-reached-clause-stays : goal.returns-in_err-reached-clause-stays
returns-in_err-reached-clause-stays g c =
    let w0 = g.B.TermBank.store c.args.self.now.heap.bank in
    let w1 = g.B.TermBank.store c.push_nil.new.self.bank in
    let w2 = g.B.TermBank.store c.run.new.self.heap.bank in
    let k1 = subst (λ xs. Keeps w0 w1 xs) (first-one c.args.self.now.heap.work.items c.push.new.work.items c.push.new.work.items c.args.t c.requires.idle
    c.in_ok-push.ensures.pushed refl) c.push_nil.ensures.kept.keeps in
    let s = c.run.ensures.stays in
    record { spec = s.spec; code = s.code; depth = s.depth; bottom = refl; keeps = kept-all w0 w1 w2 c.args.t c.in_ok-empty.empty k1 s.keeps; ready = s.ready }

pub returns-in_default-clause-stays : goal.returns-in_default-clause-stays
returns-in_default-clause-stays g c =
    let w0 = g.B.TermBank.store c.args.self.now.heap.bank in
    let w1 = g.B.TermBank.store c.push_nil.new.self.bank in
    let w2 = g.B.TermBank.store c.run.new.self.heap.bank in
    let k1 = subst (λ xs. Keeps w0 w1 xs) (first-one c.args.self.now.heap.work.items c.push.new.work.items c.push.new.work.items c.args.t c.requires.idle
    c.in_ok-push.ensures.pushed refl) c.push_nil.ensures.kept.keeps in
    let s = c.run.ensures.stays in
    record { spec = s.spec; code = s.code; depth = s.depth; bottom = refl; keeps = kept-all w0 w1 w2 c.args.t c.in_ok-empty.empty k1 s.keeps; ready = s.ready }

pub returns-in-Limit-clause-stays : goal.returns-in-Limit-clause-stays
returns-in-Limit-clause-stays g c =
    let w0 = g.B.TermBank.store c.args.self.now.heap.bank in
    let w1 = g.B.TermBank.store c.push_nil.new.self.bank in
    let w2 = g.B.TermBank.store c.run.new.self.heap.bank in
    let k1 = subst (λ xs. Keeps w0 w1 xs) (first-one c.args.self.now.heap.work.items c.push.new.work.items c.push.new.work.items c.args.t c.requires.idle
    c.in_ok-push.ensures.pushed refl) c.push_nil.ensures.kept.keeps in
    let s = c.run.ensures.stays in
    record { spec = s.spec; code = s.code; depth = s.depth; bottom = refl; keeps = kept-all w0 w1 w2 c.args.t c.in_ok-empty.empty k1 s.keeps; ready = s.ready }

pub returns-in-Deep-clause-stays : goal.returns-in-Deep-clause-stays
returns-in-Deep-clause-stays g c =
    let w0 = g.B.TermBank.store c.args.self.now.heap.bank in
    let w1 = g.B.TermBank.store c.push_nil.new.self.bank in
    let w2 = g.B.TermBank.store c.run.new.self.heap.bank in
    let k1 = subst (λ xs. Keeps w0 w1 xs) (first-one c.args.self.now.heap.work.items c.push.new.work.items c.push.new.work.items c.args.t c.requires.idle
    c.in_ok-push.ensures.pushed refl) c.push_nil.ensures.kept.keeps in
    let s = c.run.ensures.stays in
    record { spec = s.spec; code = s.code; depth = s.depth; bottom = refl; keeps = kept-all w0 w1 w2 c.args.t c.in_ok-empty.empty k1 s.keeps; ready = s.ready }

pub returns-in-Value-clause-stays : goal.returns-in-Value-clause-stays
returns-in-Value-clause-stays g c =
    let w0 = g.B.TermBank.store c.args.self.now.heap.bank in
    let w1 = g.B.TermBank.store c.push_nil.new.self.bank in
    let w2 = g.B.TermBank.store c.run.new.self.heap.bank in
    let k1 = subst (λ xs. Keeps w0 w1 xs) (first-one c.args.self.now.heap.work.items c.push.new.work.items c.push.new.work.items c.args.t c.requires.idle
    c.in_ok-push.ensures.pushed refl) c.push_nil.ensures.kept.keeps in
    let s = c.run.ensures.stays in
    record { spec = s.spec; code = s.code; depth = s.depth; bottom = refl; keeps = kept-all w0 w1 w2 c.args.t c.in_ok-empty.empty k1 s.keeps; ready = s.ready }

pub returns-in-Limit-clause-exact : goal.returns-in-Limit-clause-exact
returns-in-Limit-clause-exact g c u good = came-limit c.args.self.now.checked.spec c.args.n u (g.B.TermBank.store c.run.new.self.heap.bank)
    c.run.new.self.state c.run.new.self.heap.work.items c.in-Some.end c.in-Limit.is
    (some-is _ c.in-Some.is c.in_ok-reached.ensures.comes (Eval c.args.self.now.checked.spec c.args.n [] u)
    (starts c.args.self.now.checked.spec c.args.self.now.code (g.B.TermBank.store c.push_nil.new.self.bank) _ good.0 u c.requires.ready.code good.1 good.2
    c.clear.ensures.items refl c.push_nil.new.self.work.items (first-two c.args.self.now.heap.work.items c.push.new.work.items c.push_nil.new.self.work.items
    c.args.t c.in_ok-empty.empty c.requires.idle c.in_ok-push.ensures.pushed c.in_ok-empty.ensures.pushed)))

pub index-term-requires : goal.index-term-requires
index-term-requires g c =
    let r = came-within c.args.self.now.checked.spec c.args.n c.requires.own.0 (g.B.TermBank.store c.run.new.self.heap.bank) c.run.new.self.state
    c.run.new.self.heap.work.items c.in-Some.end c.in-Value.is
    (some-is _ c.in-Some.is c.in_ok-reached.ensures.comes (Eval c.args.self.now.checked.spec c.args.n [] c.requires.own.0)
    (starts c.args.self.now.checked.spec c.args.self.now.code (g.B.TermBank.store c.push_nil.new.self.bank) _ c.requires.own.1.0 c.requires.own.0
    c.requires.ready.code c.requires.own.1.1 c.requires.own.1.2 c.clear.ensures.items refl c.push_nil.new.self.work.items
    (first-two c.args.self.now.heap.work.items c.push.new.work.items c.push_nil.new.self.work.items c.args.t c.in_ok-empty.empty c.requires.idle
    c.in_ok-push.ensures.pushed c.in_ok-empty.ensures.pushed))) in
    let two = r.0 in
    let l = c.run.new.self.heap.work.ok.0 in
    omega (arith, two, l)

pub overflow_sub-steps : goal.overflow_sub-steps
overflow_sub-steps g c = (came-within c.args.self.now.checked.spec c.args.n c.requires.own.0 (g.B.TermBank.store c.run.new.self.heap.bank)
    c.run.new.self.state c.run.new.self.heap.work.items c.in-Some.end c.in-Value.is
    (some-is _ c.in-Some.is c.in_ok-reached.ensures.comes (Eval c.args.self.now.checked.spec c.args.n [] c.requires.own.0)
    (starts c.args.self.now.checked.spec c.args.self.now.code (g.B.TermBank.store c.push_nil.new.self.bank) _ c.requires.own.1.0 c.requires.own.0
    c.requires.ready.code c.requires.own.1.1 c.requires.own.1.2 c.clear.ensures.items refl c.push_nil.new.self.work.items
    (first-two c.args.self.now.heap.work.items c.push.new.work.items c.push_nil.new.self.work.items c.args.t c.in_ok-empty.empty c.requires.idle
    c.in_ok-push.ensures.pushed c.in_ok-empty.ensures.pushed)))).1

pub returns-in-Value-clause-exact : goal.returns-in-Value-clause-exact
returns-in-Value-clause-exact g c u good = came-value c.args.self.now.checked.spec c.args.n u (g.B.TermBank.store c.run.new.self.heap.bank)
    c.run.new.self.state c.run.new.self.heap.work.items c.in-Some.end c.index-term.result.now c.in_ok-reached.ensures.held c.in-Value.is
    (some-is _ c.in-Some.is c.in_ok-reached.ensures.comes (Eval c.args.self.now.checked.spec c.args.n [] u)
    (starts c.args.self.now.checked.spec c.args.self.now.code (g.B.TermBank.store c.push_nil.new.self.bank) _ good.0 u c.requires.ready.code good.1 good.2
    c.clear.ensures.items refl c.push_nil.new.self.work.items (first-two c.args.self.now.heap.work.items c.push.new.work.items c.push_nil.new.self.work.items
    c.args.t c.in_ok-empty.empty c.requires.idle c.in_ok-push.ensures.pushed c.in_ok-empty.ensures.pushed))) c.index-term.ensures

pub returns-in-Value-clause-stands : goal.returns-in-Value-clause-stands
returns-in-Value-clause-stands g c =
    let means = starts c.args.self.now.checked.spec c.args.self.now.code (g.B.TermBank.store c.push_nil.new.self.bank) _ c.requires.own.1.0
    c.requires.own.0 c.requires.ready.code c.requires.own.1.1 c.requires.own.1.2 c.clear.ensures.items refl c.push_nil.new.self.work.items
    (first-two c.args.self.now.heap.work.items c.push.new.work.items c.push_nil.new.self.work.items c.args.t c.in_ok-empty.empty c.requires.idle
    c.in_ok-push.ensures.pushed c.in_ok-empty.ensures.pushed) in (
      c.in_ok-empty.empty,
      came-above (g.B.TermBank.store c.run.new.self.heap.bank) c.run.new.self.state c.run.new.self.heap.work.items
          (Eval c.args.self.now.checked.spec c.args.n [] c.requires.own.0) c.in-Some.end c.args.t c.in_ok-empty.empty c.index-term.result.now
          c.in-Value.is (some-is _ c.in-Some.is c.in_ok-reached.ensures.comes (Eval c.args.self.now.checked.spec c.args.n [] c.requires.own.0) means)
          c.run.ensures.stays.bottom c.index-term.ensures,
    )

pub returns-in-Deep-clause-deep : goal.returns-in-Deep-clause-deep
returns-in-Deep-clause-deep g c e = came-full (g.B.TermBank.store c.run.new.self.heap.bank) c.run.new.self.state c.run.new.self.heap.work.items
    (Eval c.args.self.now.checked.spec c.args.n [] c.requires.own.0) c.in-Some.end c.in-Deep.is
    (some-is _ c.in-Some.is c.in_ok-reached.ensures.comes (Eval c.args.self.now.checked.spec c.args.n [] c.requires.own.0)
    (starts c.args.self.now.checked.spec c.args.self.now.code (g.B.TermBank.store c.push_nil.new.self.bank) _ c.requires.own.1.0 c.requires.own.0
    c.requires.ready.code c.requires.own.1.1 c.requires.own.1.2 c.clear.ensures.items refl c.push_nil.new.self.work.items
    (first-two c.args.self.now.heap.work.items c.push.new.work.items c.push_nil.new.self.work.items c.args.t c.in_ok-empty.empty c.requires.idle
    c.in_ok-push.ensures.pushed c.in_ok-empty.ensures.pushed)))

pub returns-in_err-reached-clause-obeys : goal.returns-in_err-reached-clause-obeys
returns-in_err-reached-clause-obeys g c = obeys-failed _ c.run.ensures.obeys c.in_err-reached.was c.from_residual-in_err-reached.ensures.1

pub returns-in_default-clause-obeys : goal.returns-in_default-clause-obeys
returns-in_default-clause-obeys g c = obeys-stopped c.run.ensures.obeys (c.in_ok-reached.was ∙ ap Ok c.in_default.is)
