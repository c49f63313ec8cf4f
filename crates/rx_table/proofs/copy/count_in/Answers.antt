use Rattle.std.proofs.Common.{◌≡◌, ℕ, IfSome, IsSome, ap, subst, sym, ◌∙◌}
use Rattle.rx_term.specs.Parts.{part_count}
use Rattle.rx_table.proofs.CountedPartLemmas.{counted_held}
use Rattle.rx_table.proofs.copy.count_in.Goals as goal

pub returns-in-Ok : goal.returns-in-Ok
returns-in-Ok g c =
    let w = g.C.TermBank.store c.copy_term.new.to in
    subst (λ o. IfSome o (λ u. c.cells.result ≡ part_count u)) c.in-Ok.ensures.copied
    (counted_held w (g.C.TermBank.store c.reclaim.new.self) c.in-Ok.copy c.cells.result (subst IsSome (sym c.in-Ok.ensures.copied) c.requires.held)
    (λ r. ap (λ (f : ℕ → ℕ). f r) c.copy_term.ensures.grows.roots ∙ c.requires.unrooted r) (g.met.C.TermBank.sound c.copy_term.new.to)
    (g.met.C.TermBank.sound c.reclaim.new.self) c.reclaim.ensures c.cells.ensures)
