use Rattle.std.proofs.Common.{◌∙◌, subst, sym, refl, drop}
use Rattle.std.specs.Prelude.{IfOk}
use Rattle.rx_term.specs.Walks.{held_tree}
use Rattle.rec_syntax.specs.Syntax.{Term}
use Rattle.rec_sorts.specs.Evaluation.{term_of}
use Rattle.rec_sorts.proofs.WalkedLemmas.{held}
use Rattle.rec_engine.specs.Machine.{AreConstants}
use Rattle.rec_engine.specs.Inner.Answered.{IsTermCode, IsAnswer}
use Rattle.rec_engine.proofs.NormalLemmas.{given-nodes, code-same, code-loaded, constants-loaded, loaded-own, ready-cut}
use Rattle.rec_engine.proofs.vm.Machine.evaluate_within.Goals as goal

pub load-requires-clause-nodes : goal.load-requires-clause-nodes
load-requires-clause-nodes g c = given-nodes c.args.self.now.checked.spec (g.B.TermBank.store c.args.self.now.heap.bank) c.args.t c.requires.given

pub returns-in-Err-clause-ready : goal.returns-in-Err-clause-ready
returns-in-Err-clause-ready g c = record {
  code = code-same c.args.self.now.checked.spec c.args.self.now.code _ refl refl refl c.in-Err.ensures.same c.requires.ready.code;
  linked = c.requires.ready.linked;
  constants = subst (λ xs. AreConstants c.args.self.now.checked.spec xs (g.B.TermBank.store c.args.self.now.heap.bank)
      c.args.self.now.heap.pace.constants) (sym c.in-Err.ensures.same) c.requires.ready.constants;
  results = c.requires.ready.results;
}

pub evaluate-reached-requires-clause-ready : goal.evaluate-reached-requires-clause-ready
evaluate-reached-requires-clause-ready g c = record {
  code = code-loaded c.args.self.now.checked.spec (held_tree (g.B.TermBank.store c.args.self.now.heap.bank) c.args.t) c.args.self.now.code _ refl refl refl
      (c.in-Ok.ensures.loads c.if-not-whole.false) c.requires.ready.code;
  linked = c.requires.ready.linked;
  constants = constants-loaded c.args.self.now.checked.spec (held_tree (g.B.TermBank.store c.args.self.now.heap.bank) c.args.t)
      c.args.self.now.code.ops.items c.load.new.ops.items (g.B.TermBank.store c.args.self.now.heap.bank) c.args.self.now.heap.pace.constants
      (c.in-Ok.ensures.loads c.if-not-whole.false) c.requires.ready.constants;
  results = c.requires.ready.results;
}

pub evaluate-reached-requires-clause-own : goal.evaluate-reached-requires-clause-own
evaluate-reached-requires-clause-own g c =
    let u = held_tree (g.B.TermBank.store c.args.self.now.heap.bank) c.args.t in (
      term_of u,
      loaded-own c.args.self.now.checked.spec u c.args.self.now.code.ops.items c.load.new.ops.items c.len-pc.result (c.in-Ok.ensures.loads c.if-not-whole.false)
          (c.len-pc.ensures ∙ c.args.self.now.code.ops.ok.0),
    )

pub returns-then-not-whole-clause-ready : goal.returns-then-not-whole-clause-ready
returns-then-not-whole-clause-ready g c =
    let same = c.in-Ok.ensures.part c.if-not-whole.true in
    record {
      code = code-same c.args.self.now.checked.spec c.args.self.now.code _ refl refl refl same c.requires.ready.code;
      linked = c.requires.ready.linked;
      constants = subst (λ xs. AreConstants c.args.self.now.checked.spec xs (g.B.TermBank.store c.args.self.now.heap.bank)
          c.args.self.now.heap.pace.constants) (sym same) c.requires.ready.constants;
      results = c.requires.ready.results;
    }

pub returns-in_err-reached-clause-ready : goal.returns-in_err-reached-clause-ready
returns-in_err-reached-clause-ready g c =
    let y = c.args.self.now.checked.spec in
    let u = held_tree (g.B.TermBank.store c.args.self.now.heap.bank) c.args.t in
    ready-cut y u c.args.self.now.code _ _ _ c.evaluate-reached.ensures.stays refl refl refl c.len-pc.result (c.in-Ok.ensures.loads c.if-not-whole.false)
    (c.len-pc.ensures ∙ c.args.self.now.code.ops.ok.0) refl refl refl c.truncate.ensures.items c.requires.ready.code

pub returns-clause-ready : goal.returns-clause-ready
returns-clause-ready g c =
    let y = c.args.self.now.checked.spec in
    let u = held_tree (g.B.TermBank.store c.args.self.now.heap.bank) c.args.t in
    ready-cut y u c.args.self.now.code _ _ _ c.evaluate-reached.ensures.stays refl refl refl c.len-pc.result (c.in-Ok.ensures.loads c.if-not-whole.false)
    (c.len-pc.ensures ∙ c.args.self.now.code.ops.ok.0) refl refl refl c.truncate.ensures.items c.requires.ready.code

pub returns-clause-exact : goal.returns-clause-exact
returns-clause-exact g c u e =
    let y = c.args.self.now.checked.spec in
    let w0 = g.B.TermBank.store c.args.self.now.heap.bank in
    let w1 = g.B.TermBank.store c.evaluate-reached.new.self.heap.bank in
    let own = loaded-own y (held_tree w0 c.args.t) c.args.self.now.code.ops.items c.load.new.ops.items c.len-pc.result
    (c.in-Ok.ensures.loads c.if-not-whole.false) (c.len-pc.ensures ∙ c.args.self.now.code.ops.ok.0) in
    subst (λ z. IfOk z (λ r. (x : Term) → IsTermCode y x (drop c.len-pc.result c.load.new.ops.items) → IsAnswer y w1 c.args.n x r)) c.in_ok-reached.was
    c.evaluate-reached.ensures.exact (term_of u)
    (subst (λ x. IsTermCode y (term_of x) (drop c.len-pc.result c.load.new.ops.items)) (held w0 c.args.t u e) own)
