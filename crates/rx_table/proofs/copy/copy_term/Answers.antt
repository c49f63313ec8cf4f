use Rattle.std.proofs.Common.{◌≡◌, ◌∙◌, Some, sym}
use Rattle.rx_term.specs.Store.{tree_at}
use Rattle.rx_term.specs.Tree.{Tree}
use Rattle.rx_term.specs.Walks.{held_tree}
use Rattle.rx_table.specs.Inner.Walk.{HasParts}
use Rattle.rx_table.proofs.WalkLemmas.{held-at}
use Rattle.rx_table.proofs.MadeLemmas.{ok-by}
use Rattle.rx_table.proofs.copy.copy_term.Goals as goal

pub copy_parts-requires : goal.copy_parts-requires
copy_parts-requires g c = (held_tree (g.B.TermBank.store c.args.from.now) c.args.t, c.in-Ok.ensures)

pub returns-clause-copied : goal.returns-clause-copied
returns-clause-copied g c =
    let v = g.B.TermBank.store c.args.from.now in
    let u = g.C.TermBank.store c.copy_parts.new.to in
    ok-by (λ r. (t : Tree) → HasParts v t c.in-Ok.parts → tree_at u r ≡ Some t) (λ r. tree_at u r ≡ tree_at v c.args.t)
    (λ r h. h (held_tree v c.args.t) c.in-Ok.ensures ∙ sym (held-at v c.args.t c.requires)) c.copy_parts.result c.copy_parts.ensures.copied
