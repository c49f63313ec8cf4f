use Rattle.std.proofs.Common.{refl, subst}
use Rattle.rx_arena.specs.Arena.{roots_at}
use Rattle.rx_shared.specs.Mirror.{Mirrors}
use Rattle.rx_shared.specs.Inner.Soundness.{sound}
use Rattle.rx_shared.specs.State.{store_of}
use Rattle.rx_shared.specs.declared.bank.SharedBank.{SharedBank}
use Rattle.psilt_core.proofs.RootLemmas.{no_roots, not_more}
use Rattle.psilt_core.proofs.work.Work.unprotect.Goals as goal

pub returns-then-not-is_protected-clause-answer : goal.returns-then-not-is_protected-clause-answer
returns-then-not-is_protected-clause-answer c =
    let b = c.args.self.now.bank.shared in
    let m = subst (λ (s : SharedBank). Mirrors (store_of s) c.arena.result.now) c.shared_bank.ensures c.arena.ensures.mirrors in (
      no_roots (store_of b) c.arena.result.now (sound b) m c.args.t
          (not_more c.is_protected.result (roots_at c.arena.result.now c.args.t.0) c.if-not-is_protected.true c.is_protected.ensures),
      refl,
    )
