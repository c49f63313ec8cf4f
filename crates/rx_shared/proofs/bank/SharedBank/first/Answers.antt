use Rattle.std.proofs.Common.{◌≡◌, sym, ap, subst}
use Rattle.std.specs.Prelude.{IfSome}
use Rattle.rx_shared.specs.Tidy.{cell_in}
use Rattle.rx_shared.proofs.ReadingLemmas.{held-taken}
use Rattle.rx_shared.proofs.bank.SharedBank.first.Goals as goal

pub first-requires : goal.first-requires
first-requires c = held-taken c.args.self.now c.args.t.0 c.requires

pub returns : goal.returns
returns c =
    let t = held-taken c.args.self.now c.args.t.0 c.requires in
    let read : c.first.result ≡ t.0.body.a = subst (λ o. IfSome o (λ u. c.first.result ≡ u.body.a)) t.1 c.first.ensures in
    (t.0.body, ap cell_in t.1, c.args.self.now.tidy.written c.args.t.0 t.0 t.1, sym read)
