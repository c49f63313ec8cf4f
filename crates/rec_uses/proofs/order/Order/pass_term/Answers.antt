use Rattle.std.proofs.Common.{map}
use Rattle.rec_syntax.specs.Parts.{node_of}
use Rattle.rec_uses.proofs.OrderLemmas.{term_passed}
use Rattle.rec_uses.proofs.order.Order.pass_term.Goals as goal

pub returns : goal.returns
returns c = term_passed c.pass_all.result _ c.args.self.now c.pass_all.new.self (map (node_of c.args.syntax.now.source) c.nodes.result.now)
    (rw c.nodes.ensures c.requires.term.flat) c.requires.waiting c.requires.complete c.pass_all.ensures
