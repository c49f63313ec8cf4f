use Rattle.std.proofs.Common.{◌≡◌, ◌-◌, ◌<◌, ℕ, Option, Some, None, ap, arith, length, refl, subst, sym, ◌∙◌}
use Rattle.std.proofs.lemmas.List.{length-map}
use Rattle.rx_term.specs.Tree.{to_list}
use Rattle.rx_term.specs.Walks.{AllHeld, held_trees}
use Rattle.rec_syntax.specs.Syntax.{Spec}
use Rattle.rec_match.specs.Matching.{FindsFor}
use Rattle.rec_stuck.specs.Inner.Calls.{IsCalled}
use Rattle.rec_trace.specs.Lines.{rule_spot}
use Rattle.rec_stuck.proofs.FittingLemmas.{arguments-are, begin-all, begin-head, call-after, call-all}
use Rattle.rec_stuck.proofs.FittingLemmas.{call-can, call-head, call-later, call-low, call-more, call-size}
use Rattle.rec_stuck.proofs.fitting.fitting_spots.Goals as goal

pub loop-found-init : goal.loop-found-init
loop-found-init g c =
    let w = g.B.TermBank.store c.args.bank.now in
    let m = c.args.matcher.now in
    let call = c.args.call in
    let (source, y, ready, called, spots) = c.requires in
    let work = c.push_items.new.stack.items in
    let are : (y : Spec) (k : IsCalled y w call) → held_trees w work ≡ to_list k.args = λ y k.
    arguments-are y w call k c.args-2.result c.new-arguments.result.items work c.args-2.ensures c.new-arguments.ensures.items
    c.in_ok-push_items.ensures.trees in
    record {
      held = c.in_ok-push_items.ensures.held;
      trees = are;
      head = begin-head y w m ready call called work (are y called) c.index-at.result.now c.index-at.ensures;
      left = λ source y ready called spots. begin-all y w m ready call called work (are y called) c.index-at.result.now c.index-at.ensures source
          c.new-found.result.items c.new-found.ensures.items;
    }

pub next_rule-requires-clause-counted : goal.next_rule-requires-clause-counted
next_rule-requires-clause-counted g c =
    let (source, y, ready, called, spots) = c.requires in
    call-size y (g.B.TermBank.store c.args.bank.now) c.args.matcher.now ready c.args.call called c.loop-found.arguments.items
    (c.loop-found.invariant.trees y called)

pub next_rule-requires-clause-can : goal.next_rule-requires-clause-can
next_rule-requires-clause-can g c =
    let (source, y, ready, called, spots) = c.requires in
    call-can y (g.B.TermBank.store c.args.bank.now) c.args.matcher.now ready c.args.call called c.loop-found.arguments.items
    (c.loop-found.invariant.trees y called) c.loop-found.at c.loop-found.invariant.head

pub bounds-spots-rule : goal.bounds-spots-rule
bounds-spots-rule g c =
    let w = g.B.TermBank.store c.args.bank.now in
    let m = c.args.matcher.now in
    let (source, y, ready, called, spots) = c.requires in
    let work = c.loop-found.arguments.items in
    let i = c.loop-found.invariant in
    let f = subst (λ (o : Option ℕ). FindsFor w m c.loop-found.at work c.in_ok-rule.ensures.found.0 o) c.in-Some.is c.in_ok-rule.ensures.found.1 in
    let low = call-low y w m ready c.args.call called work (i.trees y called) c.loop-found.at c.in-Some.rule c.in_ok-rule.ensures.found.0 i.head f in
    let long = ap length spots ∙ length-map y.rules (rule_spot source) in
    omega (arith, low, long)

pub index-requires : goal.index-requires
index-requires g c =
    let w = g.B.TermBank.store c.args.bank.now in
    let m = c.args.matcher.now in
    let (source, y, ready, called, spots) = c.requires in
    let work = c.loop-found.arguments.items in
    let i = c.loop-found.invariant in
    let f = subst (λ (o : Option ℕ). FindsFor w m c.loop-found.at work c.in_ok-rule.ensures.found.0 o) c.in-Some.is c.in_ok-rule.ensures.found.1 in
    let low = call-low y w m ready c.args.call called work (i.trees y called) c.loop-found.at c.in-Some.rule c.in_ok-rule.ensures.found.0 i.head f in
    let ruled = ready.matcher.ruled in
    let sides = m.sides.ok.0 in
    omega (arith, low, ruled, sides)

pub loop-found-smaller : goal.loop-found-smaller
loop-found-smaller g c =
    let w = g.B.TermBank.store c.args.bank.now in
    let m = c.args.matcher.now in
    let (source, y, ready, called, spots) = c.requires in
    let work = c.loop-found.arguments.items in
    let i = c.loop-found.invariant in
    let bind = c.in_ok-rule.ensures.found.0 in
    let f = subst (λ (o : Option ℕ). FindsFor w m c.loop-found.at work bind o) c.in-Some.is c.in_ok-rule.ensures.found.1 in
    let low = call-low y w m ready c.args.call called work (i.trees y called) c.loop-found.at c.in-Some.rule bind i.head f in
    let after = call-after y w m ready c.args.call called work (i.trees y called) c.loop-found.at c.in-Some.rule bind i.head f in
    let later = call-later y w m ready c.args.call called work (i.trees y called) c.loop-found.at c.in-Some.rule bind i.head f c.index.result.now
    c.index.ensures in
    let ruled = ready.matcher.ruled in
    let less : length m.sides.items - c.index.result.now.next < length m.sides.items - c.loop-found.at = omega (arith, low, after, later, ruled) in
    less

pub loop-found-preserved : goal.loop-found-preserved
loop-found-preserved g c =
    let w = g.B.TermBank.store c.args.bank.now in
    let m = c.args.matcher.now in
    let call = c.args.call in
    let (source, y, ready, called, spots) = c.requires in
    let work = c.loop-found.arguments.items in
    let i = c.loop-found.invariant in
    let bind = c.in_ok-rule.ensures.found.0 in
    let f = subst (λ (o : Option ℕ). FindsFor w m c.loop-found.at work bind o) c.in-Some.is c.in_ok-rule.ensures.found.1 in
    let same = c.in_ok-rule.ensures.same in
    record {
      held = subst (AllHeld w) (sym same) i.held;
      trees = λ y k. ap (held_trees w) same ∙ i.trees y k;
      head = call-head y w m ready call called work (i.trees y called) c.loop-found.at c.in-Some.rule bind i.head f c.index.result.now c.index.ensures;
      left = λ source y ready called spots.
          call-more y w m ready call called work (i.trees y called) source c.loop-found.at c.in-Some.rule bind i.head f c.index.result.now
          c.index.ensures c.args.spots.now c.loop-found.found.items c.push.new.self.items _ spots c.in_ok-push.ensures.items
          (i.left source y ready called spots);
    }

no-some : (o : Option ℕ) → ((x : ℕ) → o ≡ Some x → ⊥) → o ≡ None
no-some None h = refl
no-some (Some x) h = absurd (h x refl)

pub returns : goal.returns
returns g c =
    let w = g.B.TermBank.store c.args.bank.now in
    let m = c.args.matcher.now in
    let work = c.loop-found.arguments.items in
    let i = c.loop-found.invariant in
    let bind = c.in_ok-rule.ensures.found.0 in
    let f = subst (λ (o : Option ℕ). FindsFor w m c.loop-found.at work bind o) (no-some c.in_ok-rule.field-0 c.in_default.not-Some)
    c.in_ok-rule.ensures.found.1 in
    λ source y ready called spots. call-all y w m ready c.args.call called work (i.trees y called) source c.loop-found.at bind i.head f
    c.loop-found.found.items (i.left source y ready called spots)
