use Rattle.std.proofs.Common.{◌<◌, None, get_or, sym, subst}
use Rattle.std.specs.Prelude.{◌↔◌, IsTrue}
use Rattle.rx_arena.specs.Arena.{ArenaState, roots_at, root_count}
use Rattle.rx_arena.proofs.ArenaReadLemmas.{shown_protected}
use Rattle.rx_arena.proofs.ArenaStepLemmas.{shown_at}
use Rattle.rx_arena.proofs.arena.Arena.is_protected.Goals as goal

pub returns : goal.returns
returns c =
    let p = c.self.inside.pool in
    let s = c.args.slot.0 in
    let at = shown_at c.self.inside c.self.invariant s in
    subst (λ (v : ArenaState). IsTrue c.is_protected.result ↔ 0 < roots_at v s) c.self.view_is
    (subst (λ o. IsTrue c.is_protected.result ↔ 0 < root_count o) (sym at)
    (shown_protected p.turned (get_or p.cells s None) c.is_protected.result c.is_protected.ensures))
