use Rattle.std.proofs.Common.{◌≡◌, ap, subst, sym}
use Rattle.std.specs.Prelude.{IsSome, is_some}
use Rattle.rx_term.specs.Store.{part_at, tail_of, tree_at}
use Rattle.rec_trace.proofs.ListLemmas.{tail-is}
use Rattle.rec_trace.proofs.SavedLemmas.{stale-next, stale-some}
use Rattle.rec_trace.proofs.saved.Saved.shorten.Goals as goal

pub tail-list-requires : goal.tail-list-requires
tail-list-requires g c =
    let w = g.B.TermBank.store c.args.engine.now.bank in
    let some = stale-some w c.args.self.now c.args.count c.stale.list c.stale.left c.requires.counted c.stale.invariant c.stale-test.true in
    subst (λ b. IsSome (part_at tail_of (g.B.TermBank.store b) c.stale.list)) (sym c.bank.ensures)
    (ap is_some (tail-is w c.stale.list c.stale.invariant.list_is some))

pub stale-preserved : goal.stale-preserved
stale-preserved g c =
    let made = subst (λ b. tree_at (g.B.TermBank.store b) c.tail-list.result ≡ part_at tail_of (g.B.TermBank.store b) c.stale.list) c.bank.ensures
    c.tail-list.ensures in
    stale-next (g.B.TermBank.store c.args.engine.now.bank) c.args.self.now c.args.count c.stale.list c.tail-list.result c.stale.left
    c.requires.counted c.stale.invariant c.stale-test.true made
