use Rattle.std.proofs.Common.{ap, refl}
use Rattle.rx_term.specs.Store.{Store, tree_at}
use Rattle.rx_term.proofs.StoreLemmas.{some-value}
use Rattle.example_client.proofs.ValuedLemmas.{given_alone, given_still}
use Rattle.example_client.proofs.evaluating.admit.Goals as goal

pub returns-clause-given : goal.returns-clause-given
returns-clause-given g c =
    let w = g.B.TermBank.store c.only.new.bank in
    let v = some-value (tree_at (g.B.TermBank.store c.args.bank.now) c.args.t) c.requires in
    given_still c.args.checked.now.spec c.args.checked.now.spec w (g.B.TermBank.store c.protect.new.self) c.args.t refl
    (ap (λ (x : Store). tree_at x c.args.t) c.in_ok-protect.ensures.1)
    (given_alone c.args.checked.now.spec w c.args.t c.in_ok-list.list v.0 (c.in_ok-list.ensures.grows.trees c.args.t v.0 v.1)
    (c.in_ok-list.ensures.tree v.0 v.1) c.in_ok-check_terms.ensures.kept)
