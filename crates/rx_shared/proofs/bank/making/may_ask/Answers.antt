use Rattle.std.proofs.Common.{arith}
use Rattle.std.proofs.lemmas.Bool.{ltb-false}
use Rattle.rx_shared.proofs.bank.making.may_ask.Goals as goal

pub returns-then-a-lt-LARGEST : goal.returns-then-a-lt-LARGEST
returns-then-a-lt-LARGEST c e b few low = let lt = c.if-a-lt-LARGEST.true in (omega (arith, lt), omega (arith, lt, few, low))

pub returns : goal.returns
returns c e b few low =
    let most = ltb-false 4294967295 c.args.a e in
    let kind = c.if-kind-gt-LIST.false in
    (omega (arith, most), omega (arith, most, kind, low))
