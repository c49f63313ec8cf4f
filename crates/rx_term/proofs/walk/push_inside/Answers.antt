use Rattle.std.proofs.Common.{[], ◌∷◌, ◌++◌, ap, ◌∙◌, append_assoc}
use Rattle.std.specs.Option.{option_and_then}
use Rattle.rx_term.specs.Tree.{Appl, Items, more}
use Rattle.rx_term.specs.Store.{head_of, tail_of, args_of}
use Rattle.rx_term.proofs.WalkLemmas.{cons-covers, appl-covers, some-here, AllHeld-one, AllHeld-cons}
use Rattle.rx_term.proofs.walk.push_inside.Goals as goal

pub returns-in_ok-push-in-Cons-2 : goal.returns-in_ok-push-in-Cons-2
returns-in_ok-push-in-Cons-2 g c =
    let w = g.B.TermBank.store c.args.bank.now in
    let k = c.in-Cons.ensures in
    let p = c.head.ensures ∙ ap (option_and_then head_of) k.here in
    let q = c.tail.ensures ∙ ap (option_and_then tail_of) k.here in
    record {
      tree = Items (more k.first k.rest) k.anns;
      kids = c.head.result ∷ c.tail.result ∷ [];
      here = k.here;
      pushed = c.in_ok-push-in-Cons-2.ensures.items ∙ ap (λ xs. xs ++ c.tail.result ∷ []) c.in_ok-push-in-Cons.ensures.items
          ∙ append_assoc c.args.stack.now.items (c.head.result ∷ []) (c.tail.result ∷ []);
      held = AllHeld-cons w c.head.result (c.tail.result ∷ []) (some-here p) (AllHeld-one w c.tail.result (some-here q));
      covers = cons-covers w c.head.result c.tail.result k.first k.rest k.anns p q;
    }

pub returns-in_ok-push-in-Appl : goal.returns-in_ok-push-in-Appl
returns-in_ok-push-in-Appl g c =
    let w = g.B.TermBank.store c.args.bank.now in
    let k = c.in-Appl.ensures in
    let q = c.args-in-Appl.ensures ∙ ap (option_and_then args_of) k.here in
    record {
      tree = Appl k.name k.quoted k.args k.anns;
      kids = c.args-in-Appl.result ∷ [];
      here = k.here;
      pushed = c.in_ok-push-in-Appl.ensures.items;
      held = AllHeld-one w c.args-in-Appl.result (some-here q);
      covers = appl-covers w c.args-in-Appl.result k.name k.quoted k.args k.anns q;
    }
