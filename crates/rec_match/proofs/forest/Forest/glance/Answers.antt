use Rattle.std.proofs.Common.{◌<◌, refl, sym, subst, arith, ◌∙◌, [], drop, length, map}
use Rattle.std.specs.Prelude.{slice_range}
use Rattle.rx_term.specs.Walks.{held_trees}
use Rattle.rx_term.proofs.WalkLemmas.{AllHeld-drop}
use Rattle.rec_match.specs.Forests.{AllStand, ArePlaces, CanWalk, value_in}
use Rattle.rec_match.specs.declared.forest.Values.TheVariants.{InRegisters}
use Rattle.rec_match.proofs.SettleLemmas.{new-filled, places-within}
use Rattle.rec_match.proofs.RunLemmas.{default_any, as_before, cut_back, fits_as, found_by, longer, rule_filled}
use Rattle.rec_match.proofs.RunLemmas.{some_there, roots_read, can_walk, run_found, run_missed}
use Rattle.rec_match.proofs.forest.Forest.glance.Goals as goal

pub descend-requires-clause-can : goal.descend-requires-clause-can
descend-requires-clause-can g c =
    let w = g.B.TermBank.store c.args.bank.now in
    let f = c.args.self.now in
    let k = c.requires.can in
    let declared = k.declared in
    let counted = k.forest.counted in
    let rs = c.index-roots.result.now.items in
    let some : 0 < length rs = some_there rs _ c.index-roots.result.now.ok.0 (sym c.is_empty.ensures ∙ c.if-is_empty.false) in
    subst (λ r. CanWalk w f r (length (drop c.args.first c.args.work.now.items))) (sym (c.index.ensures ∙ default_any rs 0 _ 0 some))
    (can_walk w f c.args.symbol _ rs 0 k (roots_read f c.args.symbol c.index-roots.result.now (omega (arith, declared, counted)) c.index-roots.ensures) some)

pub returns-then-linear-clause-glances : goal.returns-then-linear-clause-glances
returns-then-linear-clause-glances g c =
    let w = g.B.TermBank.store c.args.bank.now in
    let f = c.args.self.now in
    let k = c.requires.can in
    let declared = k.declared in
    let counted = k.forest.counted in
    let first = c.args.first in
    let old = c.args.work.now.items in
    let work = c.descend.new.work.items in
    let node = c.in_ok-node.node in
    let places = slice_range f.places.items c.in-Try.from c.in-Try.to in
    let rs = c.index-roots.result.now.items in
    let some : 0 < length rs = some_there rs _ c.index-roots.result.now.ok.0 (sym c.is_empty.ensures ∙ c.if-is_empty.false) in
    let read = roots_read f c.args.symbol c.index-roots.result.now (omega (arith, declared, counted)) c.index-roots.ensures in
    let root = c.index.ensures ∙ default_any rs 0 _ 0 some in
    let can = can_walk w f c.args.symbol (length (drop first old)) rs 0 k read some in
    let here = fits_as can.spec can.numbers f can.forest node _ c.in_ok-node.ensures.there c.index-2.ensures c.in-Try.is in
    let stands = subst (λ r. AllStand w f r 0 (drop first old) node (drop first work)) root c.in_ok-node.ensures.stands in
    let wide = (stands can.spec can.numbers can.linked can.forest can.wide).width in
    let below = longer old work c.descend.ensures.behind in (
      (omega (arith, below), here.ordered, here.within, places-within first work 0 places (subst (λ n. ArePlaces n 0 places) (sym wide) here.places)),
      run_found w f c.args.symbol 0 (drop first old) rs 0 read (λ y ns linked h lt e. refl) c.in-Try.rule (map (value_in first work) places) some
          (λ y ns linked forest counts.
          let s = stands y ns linked forest counts in
          let t = fits_as y ns f forest node _ c.in_ok-node.ensures.there c.index-2.ensures c.in-Try.is in
          let r = rule_filled w f forest.reading 0 node c.in-Try.rule c.in-Try.from c.in-Try.to c.in-Try.next (drop first work)
          (map (value_in first work) places) (g.met.B.TermBank.sound c.args.bank.now) (AllHeld-drop w work first c.in_ok-node.ensures.held) s.width t
          (omega arith) (new-filled first work places [] (t.are_new c.if-linear.true)) in
          (s.same ∙ r.0, r.1)),
      found_by f (record { rule = c.in-Try.rule; node = node; values = InRegisters c.in-Try.from c.in-Try.to }) _ c.in_ok-node.ensures.there
          c.index-2.ensures c.in-Try.is (refl, (refl, refl)),
    )

pub returns-in-Fail-clause-glances : goal.returns-in-Fail-clause-glances
returns-in-Fail-clause-glances g c =
    let w = g.B.TermBank.store c.args.bank.now in
    let f = c.args.self.now in
    let k = c.requires.can in
    let declared = k.declared in
    let counted = k.forest.counted in
    let first = c.args.first in
    let old = c.args.work.now.items in
    let work = c.descend.new.work.items in
    let node = c.in_ok-node.node in
    let rs = c.index-roots.result.now.items in
    let some : 0 < length rs = some_there rs _ c.index-roots.result.now.ok.0 (sym c.is_empty.ensures ∙ c.if-is_empty.false) in
    let read = roots_read f c.args.symbol c.index-roots.result.now (omega (arith, declared, counted)) c.index-roots.ensures in
    let root = c.index.ensures ∙ default_any rs 0 _ 0 some in
    let stands = subst (λ r. AllStand w f r 0 (drop first old) node (drop first work)) root c.in_ok-node.ensures.stands in (
      run_missed w f c.args.symbol 0 (drop first old) rs 0 read (λ y ns linked h lt e. refl) some
          (λ y ns linked forest counts.
          (stands y ns linked forest counts).same ∙ fits_as y ns f forest node _ c.in_ok-node.ensures.there c.index-2.ensures c.in-Fail.is 0
          (held_trees w (drop first work))),
      cut_back old work c.truncate.new.self.items c.args.size c.requires.size c.truncate.ensures.items
          c.descend.ensures.behind,
    )

pub returns-in-Fail-clause-behind : goal.returns-in-Fail-clause-behind
returns-in-Fail-clause-behind g c = as_before c.args.work.now.items c.descend.new.work.items c.truncate.new.self.items c.args.size
    c.requires.size c.truncate.ensures.items c.descend.ensures.behind

pub returns-else-linear-clause-behind : goal.returns-else-linear-clause-behind
returns-else-linear-clause-behind g c = as_before c.args.work.now.items c.descend.new.work.items c.truncate-in-Try.new.self.items c.args.size
    c.requires.size c.truncate-in-Try.ensures.items c.descend.ensures.behind

pub returns-else-linear-clause-glances : goal.returns-else-linear-clause-glances
returns-else-linear-clause-glances g c = (
  λ y ns linked h lt e. refl,
  cut_back c.args.work.now.items c.descend.new.work.items c.truncate-in-Try.new.self.items c.args.size
      c.requires.size c.truncate-in-Try.ensures.items c.descend.ensures.behind,
)

pub returns-in-Switch-clause-behind : goal.returns-in-Switch-clause-behind
returns-in-Switch-clause-behind g c = as_before c.args.work.now.items c.descend.new.work.items c.truncate-in-Switch.new.self.items c.args.size
    c.requires.size c.truncate-in-Switch.ensures.items c.descend.ensures.behind

pub returns-in-Switch-clause-glances : goal.returns-in-Switch-clause-glances
returns-in-Switch-clause-glances g c = (
  λ y ns linked h lt e. refl,
  cut_back c.args.work.now.items c.descend.new.work.items c.truncate-in-Switch.new.self.items c.args.size
      c.requires.size c.truncate-in-Switch.ensures.items c.descend.ensures.behind,
)
