use Rattle.rx_term.specs.Tree.{Trees, list_of, to_list}
use Rattle.std.proofs.Common.{◌≡◌, Some}
use Rattle.rx_term.specs.Store.{applied, signature_of, tree_at}
use Rattle.rx_term.specs.Walks.{HaveTrees}
use Rattle.rx_term.proofs.StoreLemmas.{Grows-made, Grows-trans}
use Rattle.rx_table.proofs.MadeLemmas.{GivesBody, applied-there, args-listed, body-appl, body-cons, cons-have, made-by, ok-by}
use Rattle.rx_table.proofs.made.make_body.Goals as goal

pub make_list-requires : goal.make_list-requires
make_list-requires g c =
    let v = g.B.TermBank.store c.args.from.now in
    let w = g.C.TermBank.store c.args.to.now in
    cons-have v w w c.args.t c.args.items.now c.in-Cons.ensures c.requires.items.0 c.requires.items.1

pub make_list-requires-in-Appl : goal.make_list-requires-in-Appl
make_list-requires-in-Appl g c =
    let v = g.B.TermBank.store c.args.from.now in
    let w = g.C.TermBank.store c.args.to.now in
    args-listed v c.args.t c.in-Appl.symbol c.in-Appl.ensures w c.args.items.now c.requires.items.0 c.requires.items.1

pub appl-requires : goal.appl-requires
appl-requires g c =
    let v = g.B.TermBank.store c.args.from.now in
    let w = g.C.TermBank.store c.args.to.now in
    applied-there v c.args.t c.in-Appl.symbol c.in-Appl.ensures w c.args.items.now (g.C.TermBank.store c.make_list-in-Appl.new.to)
    (g.C.TermBank.store c.symbol_in.new.to) c.symbol_in.ensures.grows c.in_ok-symbol-in-Appl.symbol c.in_ok-symbol-in-Appl.ensures.symbol
    c.in_ok-args-in-Appl.args c.in_ok-args-in-Appl.ensures.list c.requires.items.0 c.requires.items.1

pub returns-in-Cons-clause-body : goal.returns-in-Cons-clause-body
returns-in-Cons-clause-body g c =
    let v = g.B.TermBank.store c.args.from.now in
    let w = g.C.TermBank.store c.args.to.now in
    let u = g.C.TermBank.store c.make_list.new.to in
    let items = c.args.items.now in
    ok-by (λ r. (us : Trees) → HaveTrees w items (to_list us) → tree_at u r ≡ Some (list_of us)) (GivesBody v w u c.args.t items)
    (λ r h. body-cons v w u c.args.t items r c.in-Cons.ensures h) c.make_list.result c.make_list.ensures.list

pub returns-in_ok-symbol-in-Appl-clause-body : goal.returns-in_ok-symbol-in-Appl-clause-body
returns-in_ok-symbol-in-Appl-clause-body g c =
    let v = g.B.TermBank.store c.args.from.now in
    let w = g.C.TermBank.store c.args.to.now in
    let x = g.C.TermBank.store c.symbol_in.new.to in
    let y = g.C.TermBank.store c.appl.new.self in
    let items = c.args.items.now in
    let symbol = c.in_ok-symbol-in-Appl.symbol in
    let list = c.in_ok-args-in-Appl.args in
    made-by (GivesBody v w y c.args.t items) x y (applied (signature_of x symbol) (tree_at x list))
    (λ r m. body-appl v c.args.t c.in-Appl.symbol c.in-Appl.ensures w items (g.C.TermBank.store c.make_list-in-Appl.new.to) x c.symbol_in.ensures.grows
    symbol c.in_ok-symbol-in-Appl.ensures.symbol list c.in_ok-args-in-Appl.ensures.list y r m) c.appl.result c.appl.ensures

pub returns-in_ok-symbol-in-Appl-clause-grows : goal.returns-in_ok-symbol-in-Appl-clause-grows
returns-in_ok-symbol-in-Appl-clause-grows g c =
    Grows-trans c.make_list-in-Appl.ensures.grows (Grows-trans c.symbol_in.ensures.grows (Grows-made _ _ _ c.appl.result c.appl.ensures))
