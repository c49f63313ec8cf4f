use Rattle.std.proofs.Common.{refl, sym, subst, arith, ◌∙◌, ◌+◌, [], drop, IsSome, append-nil}
use Rattle.std.proofs.lemmas.List.{length-drop, get_or-drop}
use Rattle.rx_term.specs.Store.{tree_at}
use Rattle.rx_term.proofs.WalkLemmas.{AllHeld-at, AllHeld-drop}
use Rattle.rec_match.specs.Forests.{Cases}
use Rattle.rec_match.proofs.RunLemmas.{fits_as, switched, turned_held, turned_above, first_within}
use Rattle.rec_match.proofs.ForestLemmas.{extends_more}
use Rattle.rec_match.proofs.forest.Forest.descend.Goals as goal

pub switches-init : goal.switches-init
switches-init g c = record {
  held = c.requires.held;
  behind = ([], sym (append-nil c.args.work.now.items));
  there = c.requires.can.there;
  stands = λ y ns linked forest wide. record { width = wide; same = refl };
}

pub index-u-requires : goal.index-u-requires
index-u-requires g c =
    let f = c.args.self.now in
    let at = c.switches.at in
    let k = c.requires.can in
    let s : Cases = record { children = f.children.items; low = c.in-Switch.low; from = c.in-Switch.from; span = c.in-Switch.span } in
    let t = fits_as k.spec k.numbers f k.forest at _ c.switches.invariant.there c.index.ensures c.in-Switch.is in
    let st = c.switches.invariant.stands k.spec k.numbers k.linked k.forest k.wide in
    let len = c.switches.work.ok.0 in
    let rest = length-drop c.args.first c.switches.work.items in
    let there = t.register_there in
    let wide = st.width in
    omega (arith, len, rest, there, wide)

pub turn-requires-clause-tree : goal.turn-requires-clause-tree
turn-requires-clause-tree g c =
    let w = g.B.TermBank.store c.args.bank.now in
    let f = c.args.self.now in
    let at = c.switches.at in
    let k = c.requires.can in
    let s : Cases = record { children = f.children.items; low = c.in-Switch.low; from = c.in-Switch.from; span = c.in-Switch.span } in
    let t = fits_as k.spec k.numbers f k.forest at _ c.switches.invariant.there c.index.ensures c.in-Switch.is in
    let st = c.switches.invariant.stands k.spec k.numbers k.linked k.forest k.wide in
    subst (λ x. IsSome (tree_at w x)) (sym c.index-u.ensures) (AllHeld-at w c.switches.work.items (c.args.first + c.in-Switch.register) _
    c.switches.invariant.held (let there = t.register_there in let wide = st.width in let rest =
    length-drop c.args.first c.switches.work.items in omega (arith, rest, there, wide)))

pub turn-requires-clause-can : goal.turn-requires-clause-can
turn-requires-clause-can g c =
    let f = c.args.self.now in
    let at = c.switches.at in
    let k = c.requires.can in
    let s : Cases = record { children = f.children.items; low = c.in-Switch.low; from = c.in-Switch.from; span = c.in-Switch.span } in
    let t = fits_as k.spec k.numbers f k.forest at _ c.switches.invariant.there c.index.ensures c.in-Switch.is in
    record { spec = k.spec; numbers = k.numbers; linked = k.linked; cases = t.cases }

pub switches-smaller : goal.switches-smaller
switches-smaller g c =
    let w = g.B.TermBank.store c.args.bank.now in
    let f = c.args.self.now in
    let at = c.switches.at in
    let k = c.requires.can in
    let work = c.switches.work.items in
    let new = c.turn.new.registers.items in
    let s : Cases = record { children = f.children.items; low = c.in-Switch.low; from = c.in-Switch.from; span = c.in-Switch.span } in
    let t = fits_as k.spec k.numbers f k.forest at _ c.switches.invariant.there c.index.ensures c.in-Switch.is in
    let st = c.switches.invariant.stands k.spec k.numbers k.linked k.forest k.wide in
    let within = first_within c.args.first c.args.work.now.items work c.requires.within c.switches.invariant.behind in
    let above = turned_above k.spec w k.numbers s c.in-Switch.other c.index-u.result.now work new c.in_ok-at.at c.args.first within
    c.in_ok-at.ensures.behind (c.in_ok-at.ensures.turns k.spec k.numbers k.linked t.cases) in
    let x = switched w k.spec k.numbers f k.forest.reading c.args.root 0 (drop c.args.first c.args.work.now.items) at c.in-Switch.register
    c.in-Switch.other c.in_ok-at.at s c.index-u.result.now (drop c.args.first work) (drop c.args.first new)
    t (c.index-u.ensures ∙ sym (get_or-drop c.args.first work c.in-Switch.register _)) (AllHeld-drop w work c.args.first c.switches.invariant.held)
    st.width above in
    let later = x.0.later in
    let there = x.0.there in
    omega (arith, later, there)

pub switches-preserved : goal.switches-preserved
switches-preserved g c =
    let w = g.B.TermBank.store c.args.bank.now in
    let f = c.args.self.now in
    let at = c.switches.at in
    let k = c.requires.can in
    let work = c.switches.work.items in
    let new = c.turn.new.registers.items in
    let within = first_within c.args.first c.args.work.now.items work c.requires.within c.switches.invariant.behind in
    let here = c.index-u.ensures ∙ sym (get_or-drop c.args.first work c.in-Switch.register _) in
    let held = AllHeld-drop w work c.args.first c.switches.invariant.held in
    let s : Cases = record { children = f.children.items; low = c.in-Switch.low; from = c.in-Switch.from; span = c.in-Switch.span } in
    let t = fits_as k.spec k.numbers f k.forest at _ c.switches.invariant.there c.index.ensures c.in-Switch.is in
    let st = c.switches.invariant.stands k.spec k.numbers k.linked k.forest k.wide in
    let turned = c.in_ok-at.ensures.turns k.spec k.numbers k.linked t.cases in
    let x = switched w k.spec k.numbers f k.forest.reading c.args.root 0 (drop c.args.first c.args.work.now.items) at c.in-Switch.register
    c.in-Switch.other c.in_ok-at.at s c.index-u.result.now (drop c.args.first work) (drop c.args.first new)
    t here held st.width (turned_above k.spec w k.numbers s c.in-Switch.other c.index-u.result.now work new c.in_ok-at.at c.args.first
    within c.in_ok-at.ensures.behind turned) in
    record {
      held = turned_held k.spec w k.numbers s c.in-Switch.other c.index-u.result.now work new c.in_ok-at.at c.switches.invariant.held turned;
      behind = extends_more c.args.work.now.items work new c.switches.invariant.behind c.in_ok-at.ensures.behind;
      there = x.0.there;
      stands = λ y ns linked forest wide.
          let q = c.switches.invariant.stands y ns linked forest wide in
          let u = fits_as y ns f forest at _ c.switches.invariant.there c.index.ensures c.in-Switch.is in
          (switched w y ns f forest.reading c.args.root 0 (drop c.args.first c.args.work.now.items) at c.in-Switch.register
          c.in-Switch.other c.in_ok-at.at s c.index-u.result.now (drop c.args.first work) (drop c.args.first new)
          u here held q.width (turned_above y w ns s c.in-Switch.other c.index-u.result.now work new c.in_ok-at.at c.args.first within
          c.in_ok-at.ensures.behind (c.in_ok-at.ensures.turns y ns linked u.cases))).2 q;
    }
