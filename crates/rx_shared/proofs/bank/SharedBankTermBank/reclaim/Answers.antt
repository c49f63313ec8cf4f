-- What is reached stays, and all else is freed.
use Rattle.std.proofs.Common.{sym, ◌∙◌}
use Rattle.rx_shared.specs.Inner.Soundness.{bank-law}
use Rattle.rx_sweep.proofs.HomingLemmas.{same_homed}
use Rattle.rx_shared.proofs.ReadingLemmas.{held-taken}
use Rattle.rx_shared.proofs.MirroringLemmas.{bank-homed}
use Rattle.rx_shared.proofs.ReclaimingLemmas.{can_collect, collected-cap, collected-chains, collected-tidy}
use Rattle.rx_shared.proofs.ReclaimingLemmas.{collected-distinct, collected-whole, collected-was, collected-reclaims}
use Rattle.rx_shared.proofs.HintLemmas.{covers-along}
use Rattle.rx_shared.proofs.bank.SharedBankTermBank.reclaim.Goals as goal

pub gray_all-requires-clause-taken : goal.gray_all-requires-clause-taken
gray_all-requires-clause-taken c t h = held-taken c.args.self.now t.0 (c.requires t h)

pub gray_all-requires-clause-law : goal.gray_all-requires-clause-law
gray_all-requires-clause-law c = bank-law c.args.self.now

pub collect_by_hash-requires-clause-homed : goal.collect_by_hash-requires-clause-homed
collect_by_hash-requires-clause-homed c = same_homed c.args.self.now.arena c.gray_all.new.arena c.gray_all.ensures.marks.same (bank-homed c.args.self.now)

pub collect_by_hash-requires-clause-can : goal.collect_by_hash-requires-clause-can
collect_by_hash-requires-clause-can c = can_collect c.args.self.now c.gray_all.new.arena c.args.extra.now c.gray_all.ensures.marks c.gray_all.ensures.law

pub invariant_of-self : goal.invariant_of-self
invariant_of-self c =
    let b = c.args.self.now in
    let g = c.gray_all.new.arena in
    let m = c.gray_all.ensures.marks in
    let l = c.gray_all.ensures.law in
    let z = c.collect_by_hash.new.arena in
    let r = c.collect_by_hash.ensures in
    record {
      limited = b.limited ∙ sym (collected-cap b g c.args.extra.now m l z r.collected r.law);
      few = b.few;
      chained = collected-chains b g c.args.extra.now m l z r.collected r.law ∙ b.chained;
      tidy = collected-tidy b g c.args.extra.now m l z r.collected r.law;
      distinct = collected-distinct b g c.args.extra.now m l z r.collected r.law;
      whole = collected-whole b g c.args.extra.now m l z r.collected r.law;
      covered = covers-along b.hints.last.items b.hints.last.items b.arena z (collected-was b g c.args.extra.now m l z r.collected r.law) (λ s h. h) b.covered;
    }

pub returns : goal.returns
returns c =
    let b = c.args.self.now in
    let g = c.gray_all.new.arena in
    let r = c.collect_by_hash.ensures in
    collected-reclaims b g c.args.extra.now c.gray_all.ensures.marks c.gray_all.ensures.law c.collect_by_hash.new.arena r.collected r.law c.requires _
