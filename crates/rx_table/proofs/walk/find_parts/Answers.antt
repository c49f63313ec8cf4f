use Rattle.std.proofs.Common.{◌≡◌, ◌++◌, ◌∷◌, [], ◌∙◌, ap, arith, rules, sym}
use Rattle.rx_term.specs.Walks.{held_tree}
use Rattle.rx_table.specs.declared.walk.Visit.{Visit}
use Rattle.rx_table.specs.declared.walk.Visit.TheVariants.{Enter, Leave}
use Rattle.rx_table.proofs.WalkLemmas.{entered-fewer, known-fewer, last-can, leaving-start, others-fewer, position-found, walking-begins, walking-ends}
use Rattle.rx_table.proofs.WalkLemmas.{walking-in, walking-known, walking-left}
use Rattle.rx_table.proofs.walk.find_parts.Goals as goal

pub loop-visit-init : goal.loop-visit-init
loop-visit-init g c =
    record {
      walking = walking-begins (g.B.TermBank.store c.args.bank.now) c.args.t _ c.new-finished.result.items c.push-2.new.self.items c.requires c.new.ensures
          c.new-2.ensures.items (c.in_ok-push.ensures.items ∙ ap (λ z. z ++ 0 ∷ []) c.new-3.ensures.items) c.new-finished.ensures.items
          (c.in_ok-push-2.ensures.items ∙ ap (λ z. z ++ Enter c.args.t ∷ []) c.new-visits.ensures.items);
      empty = c.new-inside.ensures.items;
    }

pub loop-visit-smaller-in-Continue-branch-3 : goal.loop-visit-smaller-in-Continue-branch-3
loop-visit-smaller-in-Continue-branch-3 g c =
    let vs = c.pop.new.self.items in
    known-fewer (g.B.TermBank.store c.args.bank.now) c.in-Enter.t c.loop-visit.visits.items vs
    (c.in-Some.ensures.items ∙ ap (λ (v : Visit). vs ++ v ∷ []) c.in-Enter.is)

pub loop-visit-preserved-in-Continue-branch-3 : goal.loop-visit-preserved-in-Continue-branch-3
loop-visit-preserved-in-Continue-branch-3 g c =
    let w = g.B.TermBank.store c.args.bank.now in
    let l = c.loop-visit in
    let vs = c.pop.new.self.items in
    let t = c.in-Enter.t in
    let i = c.in-Some-index_of.index in
    let p = position-found l.parts.terms.keys t.0 i (sym c.in-Some-index_of.ensures.index) in
    record {
      walking = walking-known w (g.met.B.TermBank.sound c.args.bank.now) (held_tree w c.args.t) l.parts l.finished.items l.visits.items vs t
          (c.in-Some.ensures.items ∙ ap (λ (v : Visit). vs ++ v ∷ []) c.in-Enter.is) i
          c.push-in-Some-index_of.new.self.items p.within p.at p.had c.in_ok-push-in-Some-index_of.ensures.items l.invariant.walking;
      empty = l.invariant.empty;
    }

pub enter-requires-clause-held : goal.enter-requires-clause-held
enter-requires-clause-held g c =
    let vs = c.pop.new.self.items in
    last-can (g.B.TermBank.store c.args.bank.now) c.loop-visit.visits.items vs (Enter c.in-Enter.t)
    (c.in-Some.ensures.items ∙ ap (λ (v : Visit). vs ++ v ∷ []) c.in-Enter.is) c.loop-visit.invariant.walking.can

pub loop-visit-smaller-in-Continue-branch-4 : goal.loop-visit-smaller-in-Continue-branch-4
loop-visit-smaller-in-Continue-branch-4 g c =
    let vs = c.pop.new.self.items in
    entered-fewer (g.B.TermBank.store c.args.bank.now) c.in-Enter.t c.len.result c.loop-visit.visits.items vs c.enter.new.visits.items
    (c.in-Some.ensures.items ∙ ap (λ (v : Visit). vs ++ v ∷ []) c.in-Enter.is) c.in_ok-enter-in-None.ensures.enters

pub loop-visit-preserved-in-Continue-branch-4 : goal.loop-visit-preserved-in-Continue-branch-4
loop-visit-preserved-in-Continue-branch-4 g c =
    let w = g.B.TermBank.store c.args.bank.now in
    let l = c.loop-visit in
    let vs = c.pop.new.self.items in
    record {
      walking = walking-in w (g.met.B.TermBank.sound c.args.bank.now) (held_tree w c.args.t) l.parts l.finished.items l.visits.items vs c.in-Enter.t
          (c.in-Some.ensures.items ∙ ap (λ (v : Visit). vs ++ v ∷ []) c.in-Enter.is) c.len.result
          c.enter.new.visits.items (c.len.ensures ∙ l.finished.ok.0) c.in_ok-enter-in-None.ensures.enters l.invariant.walking;
      empty = c.in_ok-enter-in-None.ensures.empty;
    }

pub leave-requires : goal.leave-requires
leave-requires g c =
    let w = g.B.TermBank.store c.args.bank.now in
    let l = c.loop-visit in
    let vs = c.pop.new.self.items in
    leaving-start w (g.met.B.TermBank.sound c.args.bank.now) (held_tree w c.args.t) l.parts l.finished.items l.visits.items vs c.in-Leave.t c.in-Leave.start
    (c.in-Some.ensures.items ∙ ap (λ (v : Visit). vs ++ v ∷ []) c.in-Leave.is) l.invariant.walking

pub loop-visit-smaller : goal.loop-visit-smaller
loop-visit-smaller g c =
    let vs = c.pop.new.self.items in
    let k = others-fewer (g.B.TermBank.store c.args.bank.now) c.loop-visit.visits.items vs (Leave c.in-Leave.t c.in-Leave.start)
    (c.in-Some.ensures.items ∙ ap (λ (v : Visit). vs ++ v ∷ []) c.in-Leave.is) in
    omega (arith, k)

pub loop-visit-preserved : goal.loop-visit-preserved
loop-visit-preserved g c =
    let w = g.B.TermBank.store c.args.bank.now in
    let l = c.loop-visit in
    let vs = c.pop.new.self.items in
    record {
      walking = walking-left w (g.met.B.TermBank.sound c.args.bank.now) (held_tree w c.args.t) l.parts l.finished.items l.visits.items vs c.in-Leave.t c.in-Leave.start
          (c.in-Some.ensures.items ∙ ap (λ (v : Visit). vs ++ v ∷ []) c.in-Leave.is) l.invariant.walking c.leave.new.parts
          c.leave.new.finished.items c.in_ok-leave-in-Leave.ensures;
      empty = l.invariant.empty;
    }

pub returns : goal.returns
returns g c =
    let w = g.B.TermBank.store c.args.bank.now in
    let l = c.loop-visit in
    let e : l.visits.items ≡ [] = search rules in
    walking-ends w (held_tree w c.args.t) l.parts l.finished.items l.visits.items e l.invariant.walking
