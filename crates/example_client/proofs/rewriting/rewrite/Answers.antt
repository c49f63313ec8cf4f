use Rattle.rx_term.proofs.StoreLemmas.{Grows-trans}
use Rattle.example_client.proofs.StepLemmas.{bound_held, is_step}
use Rattle.example_client.proofs.rewriting.rewrite.Goals as goal

-- src/rewriting.rt:44:16
pub make-requires : goal.make-requires
make-requires g c =
    rw c.as_slice.ensures.value (bound_held (g.B.TermBank.store c.args.bank.now) (g.B.TermBank.store c.matches.new.bank) c.args.left.now c.args.t
    c.matches.new.out.items c.in_ok-matches.field-0 c.if-not-branch.false c.requires c.in_ok-matches.ensures.answer)

-- src/rewriting.rt:44:16
pub returns-in_err-made-clause-grows : goal.returns-in_err-made-clause-grows
returns-in_err-made-clause-grows g c = Grows-trans c.in_ok-matches.ensures.grows c.in_err-made.ensures.grows

-- src/rewriting.rt:28:1
pub returns-clause-step : goal.returns-clause-step
returns-clause-step g c =
    is_step (g.B.TermBank.store c.args.bank.now) (g.B.TermBank.store c.matches.new.bank) (g.B.TermBank.store c.make.new.bank) c.args.left.now
    c.args.right.now c.args.t c.in_ok-made.made c.matches.new.out.items c.in_ok-matches.field-0 c.if-not-branch.false
    c.in_ok-matches.ensures.answer (rw c.as_slice.ensures.value at c.in_ok-made.ensures.made)
