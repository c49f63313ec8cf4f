use Rattle.rx_text.specs.Output.{Writes, WritesFront}
use Rattle.rx_text.proofs.LeavingLemmas.{plain_err, plain_ok}
use Rattle.rx_text.proofs.writer.write_to.Goals as goal

pub returns-clause-written : goal.returns-clause-written
returns-clause-written g c =
    plain_ok c.write_term.result (g.B.TermBank.store c.args.bank.now) c.args.t
    (λ text. Writes g.W.Write.contents c.args.out.now c.write_term.new.out text) c.write_term.ensures.written

pub returns-clause-front : goal.returns-clause-front
returns-clause-front g c =
    plain_err c.write_term.result (g.B.TermBank.store c.args.bank.now) c.args.t
    (λ text. WritesFront g.W.Write.contents c.args.out.now c.write_term.new.out text) c.write_term.ensures.front
