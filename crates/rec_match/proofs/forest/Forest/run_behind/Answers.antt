use Rattle.std.proofs.Common.{◌<◌, ◌≤◌, refl, sym, ap, subst, arith, ◌∙◌, [], Some, None, drop, length}
use Rattle.rec_match.specs.Forests.{CanRun, CanWalk, Walks, WalksOn}
use Rattle.rec_match.proofs.RunLemmas.{default_any, cut_back, roots_read, can_walk, run_found, run_missed, run_ends}
use Rattle.rec_match.proofs.forest.Forest.run_behind.Goals as goal

pub roots-init : goal.roots-init
roots-init g c = record { same = refl; none = c.requires.none }

pub walk-requires-clause-can : goal.walk-requires-clause-can
walk-requires-clause-can g c =
    let w = g.B.TermBank.store c.args.bank.now in
    let f = c.args.self.now in
    let k = c.requires.can in
    let declared = k.declared in
    let counted = k.forest.counted in
    let rs = c.index-roots.result.now.items in
    let i = c.roots.next in
    let t = c.roots-test.true in
    let n = c.len.ensures ∙ c.index-roots.result.now.ok.0 in
    let there : i < length rs = omega (arith, t, n) in
    subst (λ r. CanWalk w f r (length (drop c.args.first c.roots.work.items))) (sym (c.index.ensures ∙ default_any rs i _ 0 there))
    (can_walk w f c.args.symbol _ rs i
    (subst (λ xs. CanRun w f c.args.symbol (length (drop c.args.first xs))) (sym c.roots.invariant.same) k)
    (roots_read f c.args.symbol c.index-roots.result.now (omega (arith, declared, counted)) c.index-roots.ensures) there)

pub returns-in-Ok-Some-clause-runs : goal.returns-in-Ok-Some-clause-runs
returns-in-Ok-Some-clause-runs g c =
    let w = g.B.TermBank.store c.args.bank.now in
    let f = c.args.self.now in
    let k = c.requires.can in
    let declared = k.declared in
    let counted = k.forest.counted in
    let old = c.args.work.now.items in
    let new = c.walk.new.work.items in
    let rs = c.index-roots.result.now.items in
    let i = c.roots.next in
    let t = c.roots-test.true in
    let n = c.len.ensures ∙ c.index-roots.result.now.ok.0 in
    let there : i < length rs = omega (arith, t, n) in
    let v = subst (λ r. WalksOn w f r c.args.least c.args.first old new (Some c.in-Ok-Some.hit)) (c.index.ensures ∙ default_any rs i _ 0 there)
    (subst (λ xs. WalksOn w f c.index.result.now c.args.least c.args.first xs new (Some c.in-Ok-Some.hit)) c.roots.invariant.same
    (subst (WalksOn w f c.index.result.now c.args.least c.args.first c.roots.work.items new) c.in-Ok-Some.field-0-is c.in-Ok-Some.ensures.walks)) in (
      v.0,
      run_found w f c.args.symbol c.args.least (drop c.args.first old) rs i
          (roots_read f c.args.symbol c.index-roots.result.now (omega (arith, declared, counted)) c.index-roots.ensures)
          c.roots.invariant.none c.in-Ok-Some.hit.rule _ there v.1,
      v.2,
    )

pub roots-preserved : goal.roots-preserved
roots-preserved g c =
    let w = g.B.TermBank.store c.args.bank.now in
    let f = c.args.self.now in
    let k = c.requires.can in
    let declared = k.declared in
    let counted = k.forest.counted in
    let old = c.args.work.now.items in
    let new = c.walk.new.work.items in
    let same = c.roots.invariant.same in
    let rs = c.index-roots.result.now.items in
    let i = c.roots.next in
    let t = c.roots-test.true in
    let n = c.len.ensures ∙ c.index-roots.result.now.ok.0 in
    let there : i < length rs = omega (arith, t, n) in
    record {
      same = cut_back c.roots.work.items new c.truncate.new.self.items c.len-count.result
          (c.len-count.ensures ∙ c.args.work.now.ok.0 ∙ ap length (sym same)) c.truncate.ensures.items c.in-Ok-None.ensures.behind ∙ same;
      none = run_missed w f c.args.symbol c.args.least (drop c.args.first old) rs i
          (roots_read f c.args.symbol c.index-roots.result.now (omega (arith, declared, counted)) c.index-roots.ensures) c.roots.invariant.none there
          (subst (λ r. Walks w f r c.args.least (drop c.args.first old) [] None) (c.index.ensures ∙ default_any rs i _ 0 there)
          (subst (λ xs. Walks w f c.index.result.now c.args.least (drop c.args.first xs) [] None) same
          (subst (WalksOn w f c.index.result.now c.args.least c.args.first c.roots.work.items new) c.in-Ok-None.field-0-is c.in-Ok-None.ensures.walks)));
    }

pub returns-clause-runs : goal.returns-clause-runs
returns-clause-runs g c =
    let w = g.B.TermBank.store c.args.bank.now in
    let f = c.args.self.now in
    let k = c.requires.can in
    let declared = k.declared in
    let counted = k.forest.counted in
    let rs = c.index-roots.result.now.items in
    let t = c.roots-test.false in
    let n = c.len.ensures ∙ c.index-roots.result.now.ok.0 in
    let over : length rs ≤ c.roots.next = omega (arith, t, n) in
    run_ends w f c.args.symbol c.args.least (drop c.args.first c.args.work.now.items) rs c.roots.next
    (roots_read f c.args.symbol c.index-roots.result.now (omega (arith, declared, counted)) c.index-roots.ensures) c.roots.invariant.none over
