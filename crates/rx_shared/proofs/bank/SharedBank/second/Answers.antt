use Rattle.std.proofs.Common.{◌≡◌, sym, ap, subst}
use Rattle.std.specs.Prelude.{IfSome}
use Rattle.rx_shared.specs.Tidy.{cell_in}
use Rattle.rx_shared.proofs.ReadingLemmas.{held-taken}
use Rattle.rx_shared.proofs.bank.SharedBank.second.Goals as goal

pub second-requires : goal.second-requires
second-requires c = held-taken c.args.self.now c.args.t.0 c.requires

pub returns : goal.returns
returns c =
    let t = held-taken c.args.self.now c.args.t.0 c.requires in
    let read : c.second.result ≡ t.0.body.b = subst (λ o. IfSome o (λ u. c.second.result ≡ u.body.b)) t.1 c.second.ensures in
    (t.0.body, ap cell_in t.1, c.args.self.now.tidy.written c.args.t.0 t.0 t.1, sym read)
