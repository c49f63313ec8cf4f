use Rattle.std.proofs.Common.{◌≡◌, ◌<◌, ◌++◌, ◌∷◌, [], List, length, ap, ◌∙◌, arith}
use Rattle.std.specs.Prelude.{option_to_list}
use Rattle.rx_term.specs.Tree.{Tree}
use Rattle.rx_term.proofs.StoreLemmas.{Grows-Makes, Grows-Refuses, Grows-trans}
use Rattle.rx_text.specs.Held.{Holds}
use Rattle.rx_text.proofs.MakingLemmas.{still_holds, as_many, item_on}
use Rattle.rx_text.proofs.build.take_list.Goals as goal

pub loop-index-init : goal.loop-index-init
loop-index-init g c =
    let m = c.in_ok-list.ensures in
    record { list = λ trees h. m.made; left = λ trees h. still_holds _ _ (Grows-Makes m) c.args.made.now.items trees h; grows = Grows-Makes m }

pub loop-index-preserved : goal.loop-index-preserved
loop-index-preserved g c =
    let l = c.loop-index in
    let m = c.in_ok-list-2.ensures in
    let w = g.B.TermBank.store l.bank in
    let v = g.B.TermBank.store c.cons.new.self in
    let popped : l.made.items ≡ c.pop.new.self.items ++ c.unwrap-item.result ∷ [] =
    c.pop.ensures.items ∙ ap (λ o. c.pop.new.self.items ++ option_to_list o) c.unwrap-item.ensures in
    let fits : (trees : List Tree) → Holds (g.B.TermBank.store c.args.bank.now) c.args.made.now.items trees → l._index < length trees
    = λ trees h. let e = as_many (g.B.TermBank.store c.args.bank.now) c.args.made.now.items trees c.requires.held.0 h c.requires.held.1 in let f =
    c.requires.held.2 in let t = c.loop-index-test.true in omega (arith, e, f, t) in
    let turn = λ (trees : List Tree) (h : Holds (g.B.TermBank.store c.args.bank.now) c.args.made.now.items trees).
    item_on w v l.made.items c.pop.new.self.items c.unwrap-item.result l.list c.in_ok-list-2.list l._index trees (fits trees h) popped
    (l.invariant.left trees h) (l.invariant.list trees h) m in
    record {
      list = λ trees h. (turn trees h).0;
      left = λ trees h. (turn trees h).1;
      grows = Grows-trans l.invariant.grows (Grows-Makes m);
    }

pub returns-in_err-list-clause-grows : goal.returns-in_err-list-clause-grows
returns-in_err-list-clause-grows g c = Grows-Refuses c.in_err-list.ensures

pub returns-in_err-list-2-clause-grows : goal.returns-in_err-list-2-clause-grows
returns-in_err-list-2-clause-grows g c = Grows-trans c.loop-index.invariant.grows (Grows-Refuses c.in_err-list-2.ensures)
