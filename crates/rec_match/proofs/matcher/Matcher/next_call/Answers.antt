use Rattle.std.proofs.Common.{sym, ap, subst, arith, ◌∙◌, ◌≡◌, ◌≤◌, ◌++◌, ◌-◌, [], List, length}
use Rattle.rx_term.specs.Tree.{to_list}
use Rattle.rx_term.specs.declared.Term.{Term}
use Rattle.rx_term.specs.Walks.{AllHeld, held_trees}
use Rattle.rx_term.proofs.WalkLemmas.{AllHeld-nil}
use Rattle.rec_match.specs.Matching.{FindsOn}
use Rattle.rec_match.proofs.TurnLemmas.{argument_list}
use Rattle.rec_match.specs.Forests.{StandAbove, values_among}
use Rattle.rec_match.proofs.AnswerLemmas.{declared-number, all-later, is-call, can-find-there, arity-is, arguments-long, answer-none, answer-past, answer-some}
use Rattle.rec_match.proofs.matcher.Matcher.next_call.Goals as goal

pub first_rule-at-requires-clause-symbol : goal.first_rule-at-requires-clause-symbol
first_rule-at-requires-clause-symbol g c = declared-number (g.B.TermBank.store c.args.bank.now) c.args.self.now c.args.call.symbol c.args.call.number
    c.requires.ready c.requires.number

pub first_rule-at-requires-clause-later : goal.first_rule-at-requires-clause-later
first_rule-at-requires-clause-later g c = all-later (g.B.TermBank.store c.args.bank.now) c.args.self.now c.requires.ready

pub find_rule-requires-clause-held : goal.find_rule-requires-clause-held
find_rule-requires-clause-held g c =
    let w = g.B.TermBank.store c.args.bank.now in
    let h = c.requires.appl in
    let pushed = c.in_ok-push_arguments.ensures.pushes h.args (argument_list w c.args.call.term c.args-2.result c.args.call.symbol h c.args-2.ensures)
    (subst (AllHeld w) (sym c.requires.work) (AllHeld-nil w)) in
    pushed.0

pub find_rule-requires-clause-can : goal.find_rule-requires-clause-can
find_rule-requires-clause-can g c =
    let w = g.B.TermBank.store c.args.bank.now in
    let m = c.args.self.now in
    let u = c.args.call.term in
    let h = c.requires.appl in
    let pushed = c.in_ok-push_arguments.ensures.pushes h.args (argument_list w u c.args-2.result c.args.call.symbol h c.args-2.ensures)
    (subst (AllHeld w) (sym c.requires.work) (AllHeld-nil w)) in
    let are : held_trees w c.push_arguments.new.registers.items ≡ to_list h.args = pushed.1 ∙ ap (λ xs. held_trees w xs ++ to_list h.args) c.requires.work in
    let call = is-call c.requires.ready.spec w m c.requires.ready.ready u c.args.call.symbol c.args.call.number h c.requires.number c.requires.bare in
    can-find-there w m c.requires.ready u c.args.call.number c.arity_of-count.result c.args.from c.first_rule-at.result h.args call
    (arity-is w u c.args.call.symbol h c.arity_of-count.result c.arity_of-count.ensures) c.first_rule-at.ensures c.push_arguments.new.registers.items are

pub returns-then-len-at-clause-answers : goal.returns-then-len-at-clause-answers
returns-then-len-at-clause-answers g c = λ y ready. (
  (
      let w = g.B.TermBank.store c.args.bank.now in
      let m = c.args.self.now in
      let u = c.args.call.term in
      let h = c.requires.appl in
      let past : length m.sides.items ≤ c.first_rule-at.result =
      (let l = c.len.ensures ∙ m.sides.ok.0 in let i = c.if-len-at.true in omega (arith, l, i)) in
      answer-past y w m ready u c.args.call.number c.args.from c.first_rule-at.result h.args
      (is-call y w m ready u c.args.call.symbol c.args.call.number h c.requires.number c.requires.bare) c.first_rule-at.ensures past
      ),
  c.requires.empty,
)

pub returns-in_default-clause-answers : goal.returns-in_default-clause-answers
returns-in_default-clause-answers g c = λ y ready. (
  (
      let w = g.B.TermBank.store c.args.bank.now in
      let m = c.args.self.now in
      let u = c.args.call.term in
      let h = c.requires.appl in
      let pushed = c.in_ok-push_arguments.ensures.pushes h.args (argument_list w u c.args-2.result c.args.call.symbol h c.args-2.ensures)
      (subst (AllHeld w) (sym c.requires.work) (AllHeld-nil w)) in
      let are : held_trees w c.push_arguments.new.registers.items ≡ to_list h.args = pushed.1 ∙ ap (λ xs. held_trees w xs ++ to_list h.args) c.requires.work in
      let call = is-call y w m ready u c.args.call.symbol c.args.call.number h c.requires.number c.requires.bare in
      answer-none y w m ready u c.args.call.number c.args.from c.first_rule-at.result h.args call c.first_rule-at.ensures
      c.push_arguments.new.registers.items are []
      (subst (FindsOn w m (length c.push_arguments.new.registers.items - c.arity_of-count.result) c.first_rule-at.result
      c.push_arguments.new.registers.items c.find_rule.new.work.items) c.in_default.is c.in_ok-hit.ensures.finds).0
      ),
  c.requires.empty,
)

pub read_values-requires : goal.read_values-requires
read_values-requires g c =
    let w = g.B.TermBank.store c.args.bank.now in
    let m = c.args.self.now in
    let h = c.requires.appl in
    let hit = c.in-Some.hit in
    let registers = c.push_arguments.new.registers.items in
    let found = c.find_rule.new.work.items in
    let count = c.arity_of-count.result in
    let pushed = c.in_ok-push_arguments.ensures.pushes h.args (argument_list w c.args.call.term c.args-2.result c.args.call.symbol h c.args-2.ensures)
    (subst (AllHeld w) (sym c.requires.work) (AllHeld-nil w)) in
    let are : held_trees w registers ≡ to_list h.args = pushed.1 ∙ ap (λ xs. held_trees w xs ++ to_list h.args) c.requires.work in
    let long = arguments-long w h.args count registers (arity-is w c.args.call.term c.args.call.symbol h count c.arity_of-count.ensures) are in
    let finds = subst (FindsOn w m (length registers - count) c.first_rule-at.result registers found) c.in-Some.is c.in_ok-hit.ensures.finds in
    let zero : length registers - count ≡ 0 = omega (arith, long) in
    record {
      there = (
        length registers,
        subst (λ (xs : List Term). StandAbove m.forest 0 (length registers) xs hit.values) (sym c.deref.ensures.value)
            (subst (λ k. StandAbove m.forest k (length registers) found hit.values) zero finds.0),
      );
    }

pub returns-clause-answers : goal.returns-clause-answers
returns-clause-answers g c = λ y ready.
    let w = g.B.TermBank.store c.args.bank.now in
    let m = c.args.self.now in
    let u = c.args.call.term in
    let h = c.requires.appl in
    let hit = c.in-Some.hit in
    let registers = c.push_arguments.new.registers.items in
    let found = c.find_rule.new.work.items in
    let count = c.arity_of-count.result in
    let pushed = c.in_ok-push_arguments.ensures.pushes h.args (argument_list w u c.args-2.result c.args.call.symbol h c.args-2.ensures)
    (subst (AllHeld w) (sym c.requires.work) (AllHeld-nil w)) in
    let are : held_trees w registers ≡ to_list h.args = pushed.1 ∙ ap (λ xs. held_trees w xs ++ to_list h.args) c.requires.work in
    let long = arguments-long w h.args count registers (arity-is w u c.args.call.symbol h count c.arity_of-count.ensures) are in
    let call = is-call y w m ready u c.args.call.symbol c.args.call.number h c.requires.number c.requires.bare in
    let finds = subst (FindsOn w m (length registers - count) c.first_rule-at.result registers found) c.in-Some.is c.in_ok-hit.ensures.finds in
    let zero : length registers - count ≡ 0 = omega (arith, long) in
    answer-some y w m ready u c.args.call.number c.args.from c.first_rule-at.result h.args call c.first_rule-at.ensures registers are
    c.read_values.new.bind.items (values_among m.forest (length registers - count) found hit.values) hit.rule finds.1
    (c.in_ok-read_values.ensures.read ∙ ap (λ xs. xs ++ values_among m.forest 0 c.deref.result.now hit.values) c.requires.empty
    ∙ ap (λ (xs : List Term). values_among m.forest 0 xs hit.values) c.deref.ensures.value
    ∙ ap (λ k. values_among m.forest k found hit.values) (sym zero))
