use Rattle.std.proofs.Common.{subst, sym, arith, map, take, [], ◌+◌}
use Rattle.rec_match.specs.Parts.{coded_of}
use Rattle.rec_match.specs.Inner.Shares.{AreShares, DealsRow}
use Rattle.rec_match.proofs.ShareLemmas.{shares_more, coded_more, written_back}
use Rattle.rec_match.proofs.parts.Parts.deal.Goals as goal

pub loop-row-init : goal.loop-row-init
loop-row-init c = subst (λ ks. AreShares c.args.self.now c.args.opening.register c.args.opening.base ks [] c.in_ok-shares.shares.items)
    c.deref.ensures.value (c.in_ok-shares.ensures c.args.self.now c.args.opening.register c.args.opening.base)

pub loop-row-preserved : goal.loop-row-preserved
loop-row-preserved c =
    let i = c.loop-row.row-index in
    let row = c.row-item.result in
    let old = c.loop-row.shares.items in
    let new = c.deal_row.new.shares in
    let deals = subst (λ xs. DealsRow c.args.self.now c.args.opening.register c.args.opening.base (coded_of row) xs new) c.deref_mut.ensures.value
    c.in_ok-deal_row.ensures in
    let v = c.loop-row.shares.ok.0 in
    subst (λ xs. AreShares c.args.self.now c.args.opening.register c.args.opening.base c.args.marks.now.symbols.items
    (map coded_of (take (i + 1) c.args.rows.now)) xs) (sym (written_back new old c.loop-row.shares.len deals.counted (omega (arith, v))))
    (shares_more c.args.self.now c.args.opening.register c.args.opening.base c.args.marks.now.symbols.items (map coded_of (take i c.args.rows.now)) _
    (coded_of row) old new c.loop-row.invariant deals (coded_more c.args.rows.now i row c.loop-row-test.true c.row-item.is))
