use Rattle.std.proofs.Common.{ap, arith, subst, sym, take, ◌∙◌, Vec, Global}
use Rattle.std.specs.Prelude.{◌+◌, ◌-◌, ◌<◌, ◌≤◌, ◌∷◌, [], IfSome, List, Option, length}
use Rattle.std.proofs.lemmas.List.{map-append}
use Rattle.rec_sorts.specs.Lookup.{symbols}
use Rattle.rec_check.specs.Findings.{Found, ShowCalls, as_diagnostic, as_diagnostics}
use Rattle.rec_check.specs.Inner.Grounds.{IsExampleOf}
use Rattle.rec_check.specs.declared.finding.Diagnostic.{Diagnostic}
use Rattle.rec_check.proofs.UncoveredLemmas.{show_none, shown_all, shown_turn, unshown_turn}
use Rattle.rec_check.proofs.calls.Search.examples.Goals as goal
use Rattle.rec_check.proofs.calls.Search.examples.Goals.{in-Some+in_ok-push, in_default}

pub loop-operator-init : goal.loop-operator-init
loop-operator-init c =
    let y = c.args.self.now.asker.checked.now.spec in
    let none = take (c.constructors-operator.result - length y.constructors) y.operators in
    subst (λ (es : List Diagnostic). ShowCalls y none (as_diagnostics es)) (sym c.new-examples.ensures.items) (show_none y none)

pub loop-operator-preserved : goal.loop-operator-preserved
loop-operator-preserved c =
    let y = c.args.self.now.asker.checked.now.spec in
    let k = c.loop-operator.operator in
    let old = c.loop-operator.examples.items in
    let next = take (k + 1 - length y.constructors) y.operators in
    let low : length y.constructors ≤ k = (let e = c.constructors-operator.ensures in let from = c.loop-operator.auto.operator in omega (arith, e, from)) in
    let below : k < length (symbols y) = (let e = c.symbols-operator-end.ensures in let test = c.loop-operator-test.true in omega (arith, e, test)) in
    elim c.match-branch-2.branch [
      | in-Some+in_ok-push w ↦ subst (λ (x : Vec Diagnostic Global). ShowCalls y next (as_diagnostics x.items)) (sym w.examples-is)
          (subst (λ (fs : List Found). ShowCalls y next fs) (sym (ap as_diagnostics w.in_ok-push.ensures.items
          ∙ map-append as_diagnostic old (w.in-Some.example ∷ [])))
          (shown_turn y k (as_diagnostics old) w.in-Some.example low (subst (λ (o : Option Diagnostic). IfSome o (IsExampleOf y k)) w.in-Some.is
          c.in_ok-example.ensures) c.loop-operator.invariant))
      | in_default w ↦ subst (λ (x : Vec Diagnostic Global). ShowCalls y next (as_diagnostics x.items)) (sym w.examples-is)
          (unshown_turn y k (as_diagnostics old) low below c.loop-operator.invariant)
    ]

pub returns : goal.returns
returns c =
    let y = c.args.self.now.asker.checked.now.spec in
    let k = c.loop-operator.operator in
    let past : length (symbols y) ≤ k = (let e = c.symbols-operator-end.ensures in let test = c.loop-operator-test.false in omega (arith, e, test)) in
    shown_all y k (as_diagnostics c.loop-operator.examples.items) past c.loop-operator.invariant
