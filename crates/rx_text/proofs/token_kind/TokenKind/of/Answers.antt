use Rattle.std.proofs.Common.{refl}
use Rattle.rx_text.proofs.token_kind.TokenKind.of.Goals as goal

pub returns-in-Integer : goal.returns-in-Integer
returns-in-Integer c = rw c.in-Integer.is (λ bytes. (_, refl))

pub returns-in-Name : goal.returns-in-Name
returns-in-Name c = rw c.in-Name.is (λ bytes. (_, _, refl))
