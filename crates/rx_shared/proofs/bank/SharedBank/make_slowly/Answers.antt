use Rattle.std.proofs.Common.{sym, subst}
use Rattle.rx_arena.specs.declared.CellBody.{CellBody}
use Rattle.rx_term.specs.Steps.{MakesOrRefuses}
use Rattle.rx_shared.specs.Bodies.{body_of}
use Rattle.rx_shared.specs.State.{store_of, tree_of_body}
use Rattle.rx_shared.proofs.bank.SharedBank.make_slowly.Goals as goal

pub returns-then-kind-eq-LIST : goal.returns-then-kind-eq-LIST
returns-then-kind-eq-LIST c =
    let w = store_of c.args.self.now in
    subst (λ (x : CellBody). MakesOrRefuses w (store_of c.make_list.new.self) (tree_of_body w x) c.make_list.result) (λ i.
    body_of (sym c.if-kind-eq-LIST.true i) c.args.a c.args.b (sym c.in-None.is i)) c.make_list.ensures

pub returns-then-kind-eq-APPLICATION : goal.returns-then-kind-eq-APPLICATION
returns-then-kind-eq-APPLICATION c =
    let w = store_of c.args.self.now in
    subst (λ (x : CellBody). MakesOrRefuses w (store_of c.make_application.new.self) (tree_of_body w x) c.make_application.result) (λ i.
    body_of (sym c.if-kind-eq-APPLICATION.true i) c.args.a c.args.b (sym c.in-None.is i)) c.make_application.ensures

pub returns-else-kind-eq-APPLICATION : goal.returns-else-kind-eq-APPLICATION
returns-else-kind-eq-APPLICATION c =
    let w = store_of c.args.self.now in
    subst (λ (x : CellBody). MakesOrRefuses w (store_of c.make_any-else-kind-eq-APPLICATION.new.self) (tree_of_body w x)
    c.make_any-else-kind-eq-APPLICATION.result) (λ i. body_of c.args.kind c.args.a c.args.b (sym c.in-None.is i))
    c.make_any-else-kind-eq-APPLICATION.ensures
