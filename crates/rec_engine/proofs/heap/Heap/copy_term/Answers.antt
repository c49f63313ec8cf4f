use Rattle.std.proofs.Common.{◌≡◌, List, ◌++◌, ◌∷◌, [], ◌∙◌, refl, ℕ, ◌-◌, Err, None, IsSome, Some, arith, ap, cond, is_some, length, rules, subst, sym}
use Rattle.std.specs.Prelude.{nat_eq}
use Rattle.std.specs.Option.{option_copied}
use Rattle.indexmap.specs.IndexMap.{get}
use Rattle.rx_term.specs.Walks.{AllHeld, held_tree}
use Rattle.rx_term.proofs.WalkLemmas.{AllHeld-one}
use Rattle.rec_engine.specs.Inner.Copied.{HasSymbol, Waits, copied}
use Rattle.rec_engine.specs.declared.terms.visits.Visit.{Visit}
use Rattle.rec_engine.specs.declared.terms.visits.Visit.TheVariants.{Enter, Leave}
use Rattle.rec_engine.proofs.CopiedLemmas.{entered-copying, first-copying, left-copying, node-list, room-of, root-copied, root-known, root-within}
use Rattle.rec_engine.proofs.CopiedLemmas.{skipped-copying, top-can, top-inside, top-symbol, waits-top}
use Rattle.rec_engine.proofs.EndLemmas.{length-one, none-of}
use Rattle.rec_engine.proofs.HeapLemmas.{keeping-none, keeping-trans}
use Rattle.rec_engine.proofs.TermLemmas.{first-room}
use Rattle.rec_engine.proofs.VisitLemmas.{entered-fewer, left-fewer, root-of, skipped-fewer}
use Rattle.rec_engine.proofs.heap.Heap.copy_term.Goals as goal

pub returns-in-Err-clause-room : goal.returns-in-Err-clause-room
returns-in-Err-clause-room g c = first-room (g.B.TermBank.store c.push_nil.new.self.bank) c.push_nil.new.self.work.items c.push_nil.new.self.pace.memo
    (copied (held_tree (g.N.TermBank.store c.args.own.now) c.args.t)) c.in-Err.fault (λ e. c.in-Err.ensures.same (ap Err e) ∙ c.clear.ensures.items)
    c.in-Err.ensures.room

pub copy_node-requires-clause-there : goal.copy_node-requires-clause-there
copy_node-requires-clause-there g c =
    let is : c.loop-visit.visits.items ≡ c.pop.new.self.items ++ Leave c.in-Leave.node ∷ [] =
    c.in-Some.ensures.items ∙ ap (λ (v : Visit). c.pop.new.self.items ++ v ∷ []) c.in-Leave.is in
    (top-can c.loop-visit.invariant.copying c.pop.new.self.items (Leave c.in-Leave.node) is).held

pub copy_node-requires-clause-node : goal.copy_node-requires-clause-node
copy_node-requires-clause-node g c =
    let is : c.loop-visit.visits.items ≡ c.pop.new.self.items ++ Leave c.in-Leave.node ∷ [] =
    c.in-Some.ensures.items ∙ ap (λ (v : Visit). c.pop.new.self.items ++ v ∷ []) c.in-Leave.is in
    top-symbol c.loop-visit.invariant.copying c.pop.new.self.items (Leave c.in-Leave.node) is [] c.loop-visit.invariant.kept.keeps

pub copy_node-requires-clause-known : goal.copy_node-requires-clause-known
copy_node-requires-clause-known g c =
    let own = g.N.TermBank.store c.args.own.now in
    let is : c.loop-visit.visits.items ≡ c.pop.new.self.items ++ Leave c.in-Leave.node ∷ [] =
    c.in-Some.ensures.items ∙ ap (λ (v : Visit). c.pop.new.self.items ++ v ∷ []) c.in-Leave.is in
    waits-top own c.loop-visit.copies c.pop.new.self.items c.in-Leave.node (subst (Waits own c.loop-visit.copies) is c.loop-visit.invariant.copying.waits)

pub enter_node-requires : goal.enter_node-requires
enter_node-requires g c =
    let own = g.N.TermBank.store c.args.own.now in
    let first = g.B.TermBank.store c.args.self.now.bank in
    let is : c.loop-visit.visits.items ≡ c.pop.new.self.items ++ Enter c.in-Enter.node ∷ [] =
    c.in-Some.ensures.items ∙ ap (λ (v : Visit). c.pop.new.self.items ++ v ∷ []) c.in-Enter.is in
    let can = top-can c.loop-visit.invariant.copying c.pop.new.self.items (Enter c.in-Enter.node) is in
    node-list own first c.in-Enter.node can.held (root-of (HasSymbol first) (held_tree own c.in-Enter.node) can.nodes)

pub loop-visit-smaller-in-Ok-insert : goal.loop-visit-smaller-in-Ok-insert
loop-visit-smaller-in-Ok-insert g c =
    left-fewer (g.N.TermBank.store c.args.own.now) c.loop-visit.visits.items c.pop.new.self.items c.in-Leave.node
    (c.in-Some.ensures.items ∙ ap (λ (v : Visit). c.pop.new.self.items ++ v ∷ []) c.in-Leave.is)

pub loop-visit-smaller : goal.loop-visit-smaller
loop-visit-smaller g c =
    skipped-fewer (g.N.TermBank.store c.args.own.now) c.loop-visit.visits.items c.pop.new.self.items c.in-Enter.node
    (c.in-Some.ensures.items ∙ ap (λ (v : Visit). c.pop.new.self.items ++ v ∷ []) c.in-Enter.is)

pub loop-visit-smaller-in-Ok-enter_node : goal.loop-visit-smaller-in-Ok-enter_node
loop-visit-smaller-in-Ok-enter_node g c =
    entered-fewer (g.N.TermBank.store c.args.own.now) c.loop-visit.visits.items c.pop.new.self.items c.enter_node.new.visits.items c.in-Enter.node
    (c.in-Some.ensures.items ∙ ap (λ (v : Visit). c.pop.new.self.items ++ v ∷ []) c.in-Enter.is) c.in-Ok-enter_node.ensures

pub loop-visit-preserved-in-Ok-enter_node : goal.loop-visit-preserved-in-Ok-enter_node
loop-visit-preserved-in-Ok-enter_node g c =
    let i = c.loop-visit.invariant in
    let is : c.loop-visit.visits.items ≡ c.pop.new.self.items ++ Enter c.in-Enter.node ∷ [] =
    c.in-Some.ensures.items ∙ ap (λ (v : Visit). c.pop.new.self.items ++ v ∷ []) c.in-Enter.is in
    record {
      kept = i.kept;
      held = i.held;
      copying = entered-copying i.copying c.pop.new.self.items c.in-Enter.node c.enter_node.new.visits.items is c.in-Ok-enter_node.ensures;
    }

pub loop-visit-preserved : goal.loop-visit-preserved
loop-visit-preserved g c =
    let i = c.loop-visit.invariant in
    let is : c.loop-visit.visits.items ≡ c.pop.new.self.items ++ Enter c.in-Enter.node ∷ [] =
    c.in-Some.ensures.items ∙ ap (λ (v : Visit). c.pop.new.self.items ++ v ∷ []) c.in-Enter.is in
    let some : IsSome (get nat_eq c.loop-visit.copies c.in-Enter.node.0) = search rules in
    record {
      kept = i.kept;
      held = i.held;
      copying = skipped-copying i.copying c.pop.new.self.items c.in-Enter.node is some;
    }

pub loop-visit-init : goal.loop-visit-init
loop-visit-init g c =
    let own = g.N.TermBank.store c.args.own.now in
    let first = g.B.TermBank.store c.args.self.now.bank in
    let w = g.B.TermBank.store c.push_nil.new.self.bank in
    let empty = c.in-Ok.field-0 in
    let one : c.push_nil.new.self.work.items ≡ empty ∷ [] = c.in-Ok.ensures.pushed ∙ ap (λ xs. xs ++ empty ∷ []) c.clear.ensures.items in
    let visits : c.push.new.self.items ≡ Enter c.args.t ∷ [] =
    c.in-Ok-push.ensures.items ∙ ap (λ (vs : List Visit). vs ++ Enter c.args.t ∷ []) c.new-visits.ensures.items in
    let none_known : (n : ℕ) → get nat_eq c.new-copies.result n ≡ None = λ n. let e = c.new-copies.ensures.empty in rw e refl in
    record {
      kept = keeping-none c.push_nil.ensures.kept;
      held = subst (AllHeld w) (sym one) (AllHeld-one w empty (ap is_some c.in-Ok.ensures.empty));
      copying = first-copying own w first c.args.t empty c.push_nil.new.self.work.items c.new-copies.result c.push.new.self.items c.requires.there
          c.requires.nodes none_known one c.in-Ok.ensures.empty visits;
    }

pub returns-in-Err-copy_node-clause-kept : goal.returns-in-Err-copy_node-clause-kept
returns-in-Err-copy_node-clause-kept g c = keeping-trans c.loop-visit.invariant.kept (keeping-none c.copy_node.ensures.kept) (λ t h. h)

pub returns-in_default-insert-clause-kept : goal.returns-in_default-insert-clause-kept
returns-in_default-insert-clause-kept g c = keeping-trans c.loop-visit.invariant.kept (keeping-none c.copy_node.ensures.kept) (λ t h. h)

pub returns-in-Err-copy_node-clause-room : goal.returns-in-Err-copy_node-clause-room
returns-in-Err-copy_node-clause-room g c =
    let whole = copied (held_tree (g.N.TermBank.store c.args.own.now) c.args.t) in
    let i = c.loop-visit.invariant.copying in
    let is : c.loop-visit.visits.items ≡ c.pop.new.self.items ++ Leave c.in-Leave.node ∷ [] =
    c.in-Some.ensures.items ∙ ap (λ (v : Visit). c.pop.new.self.items ++ v ∷ []) c.in-Leave.is in
    room-of (g.B.TermBank.store c.copy_node.new.self.bank) c.copy_node.new.self.pace.memo whole c.in-Err-copy_node.fault
    (c.in-Err-copy_node.ensures.room whole i.within (top-inside i c.pop.new.self.items (Leave c.in-Leave.node) is))

pub loop-visit-preserved-in-Ok-insert : goal.loop-visit-preserved-in-Ok-insert
loop-visit-preserved-in-Ok-insert g c =
    let i = c.loop-visit.invariant in
    let at = c.len.result - 1 in
    let made = c.in-Ok-copy_node.ensures.made in
    let is : c.loop-visit.visits.items ≡ c.pop.new.self.items ++ Leave c.in-Leave.node ∷ [] =
    c.in-Some.ensures.items ∙ ap (λ (v : Visit). c.pop.new.self.items ++ v ∷ []) c.in-Leave.is in
    let updates : (q : ℕ) → get nat_eq c.insert.new.self q ≡ cond (nat_eq c.in-Leave.node.0 q) (Some at) (get nat_eq c.loop-visit.copies q) = search rules in
    let longer = ap length made.split ∙ length-one c.loop-visit.self.work.items made.top in
    let long = c.copy_node.new.self.work.ok.0 in
    let count = c.len.ensures in
    record {
      kept = keeping-trans i.kept (keeping-none c.copy_node.ensures.kept) (λ t h. h);
      held = c.in-Ok-copy_node.ensures.held;
      copying = left-copying i.copying c.pop.new.self.items c.in-Leave.node is (g.B.TermBank.store c.copy_node.new.self.bank)
          c.copy_node.new.self.work.items c.insert.new.self at c.copy_node.ensures.kept.keeps i.held made updates (omega (arith, longer, long, count));
    }

pub unreachable-requires : goal.unreachable-requires
unreachable-requires g c =
    let own = g.N.TermBank.store c.args.own.now in
    let zero = c.in_default-pop.ensures.cases.0 in
    let long = c.loop-visit.visits.ok.0 in
    let done : c.loop-visit.visits.items ≡ [] = none-of c.loop-visit.visits.items (omega (arith, zero, long)) in
    let absent : get nat_eq c.loop-visit.copies c.args.t.0 ≡ None = sym c.get.ensures.value ∙ ap option_copied c.in_default-get.is in
    let there = root-known c.loop-visit.invariant.copying (g.met.N.TermBank.sound c.args.own.now) c.requires.there done in
    absurd (let e = subst IsSome absent there in cc e)

pub index-requires : goal.index-requires
index-requires g c =
    let got : get nat_eq c.loop-visit.copies c.args.t.0 ≡ Some c.in-Some-get.at.now = sym c.get.ensures.value ∙ ap option_copied c.in-Some-get.is in
    let within = root-within c.loop-visit.invariant.copying c.in-Some-get.at.now got in
    let long = c.loop-visit.self.work.ok.0 in
    omega (arith, within, long)

pub returns-clause-term : goal.returns-clause-term
returns-clause-term g c =
    let got : get nat_eq c.loop-visit.copies c.args.t.0 ≡ Some c.in-Some-get.at.now = sym c.get.ensures.value ∙ ap option_copied c.in-Some-get.is in
    (root-copied c.loop-visit.invariant.copying c.in-Some-get.at.now got c.index.result.now c.index.ensures).0

pub returns-clause-stands : goal.returns-clause-stands
returns-clause-stands g c =
    let got : get nat_eq c.loop-visit.copies c.args.t.0 ≡ Some c.in-Some-get.at.now = sym c.get.ensures.value ∙ ap option_copied c.in-Some-get.is in
    (root-copied c.loop-visit.invariant.copying c.in-Some-get.at.now got c.index.result.now c.index.ensures).1
