use Rattle.std.proofs.Common.{sym, ◌∙◌}
use Rattle.rx_pattern.proofs.MeetingLemmas.{met_none, not_list, list_met}
use Rattle.rx_pattern.proofs.subjects.match_list.Goals as goal

pub returns-then-not-fits-clause-met : goal.returns-then-not-fits-clause-met
returns-then-not-fits-clause-met g c = λ u e.
    let w = g.B.TermBank.store c.args.bank.now in
    met_none w _ c.args.subjects.now.items c.args.subjects.now.items (not_list u (sym (c.fits.ensures u e) ∙ c.if-not-fits.true))

pub returns-clause-met : goal.returns-clause-met
returns-clause-met g c = λ u e.
    let w = g.B.TermBank.store c.args.bank.now in
    list_met w c.args.t c.anns.result c.args.subjects.now.items c.push.new.self.items c.push-2.new.self.items u e
    (sym (c.fits.ensures u e) ∙ c.if-not-fits.false) c.anns.ensures c.in_ok-push.ensures.items c.in_ok-push-2.ensures.items
