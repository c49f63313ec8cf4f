use Rattle.std.proofs.Common.{refl}
use Rattle.rec_syntax.proofs.token_kind.TokenKind.of.Goals as goal

pub returns-in-Plain : goal.returns-in-Plain
returns-in-Plain c = rw c.in-Plain.is (λ bytes. (_, refl))
