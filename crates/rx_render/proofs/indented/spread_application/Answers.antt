use Rattle.rx_render.proofs.LayoutLemmas.{application_leaves}
use Rattle.rx_render.proofs.indented.spread_application.Goals as goal

pub returns-clause-spread : goal.returns-clause-spread
returns-clause-spread g c =
    application_leaves c.leave.result (g.B.TermBank.store c.args.bank.now) c.args.term c.args.symbol c.requires.job c.args.margin c.atom.result
    c.args.layout.now c.spread_arguments.new.layout c.leave.new.self c.requires.within c.atom.ensures c.in_ok-spread_arguments.ensures.spread
    c.leave.ensures.left
