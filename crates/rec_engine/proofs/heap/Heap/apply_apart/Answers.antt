use Rattle.std.proofs.Common.{arith, subst, sym, ◌≡◌, ◌+◌, ◌-◌}
use Rattle.rx_term.specs.Walks.{AllHeld}
use Rattle.rec_engine.specs.Inner.Building.{LinksSoFar}
use Rattle.rx_term.proofs.KeepLemmas.{still-held}
use Rattle.rec_engine.proofs.HeapLemmas.{keeping-trans, keeping-none}
use Rattle.rec_engine.proofs.BuildingLemmas.{linking-first, linking-next, can-link, can-head, applies, kept-below}
use Rattle.rec_engine.proofs.PartLemmas.{leaves-parts, on-err}
use Rattle.rec_engine.proofs.heap.Heap.apply_apart.Goals as goal

pub links-init : goal.links-init
links-init g c =
    let old = g.B.TermBank.store c.args.self.now.bank in
    let now = g.B.TermBank.store c.reclaim_if_due.new.self.bank in
    let work = c.args.self.now.work.items in
    let n = c.args.count in
    let f = c.args.symbol in
    let k = c.reclaim_if_due.ensures.kept.keeps in
    let same = sym c.reclaim_if_due.ensures.same in
    record {
      kept = keeping-none c.reclaim_if_due.ensures.kept;
      held = subst (AllHeld now) same (still-held k c.requires.held);
      linking =
          let none : 0 ≡ n - n = omega arith in
          subst (λ xs. LinksSoFar old now work xs n f (n - n)) same
          (subst (λ i. LinksSoFar old now work work n f i) none (linking-first old now work n f k c.requires.held));
      within = omega arith;
    }

pub link-requires-clause-fits : goal.link-requires-clause-fits
link-requires-clause-fits g c =
    let i = c.links.invariant in
    can-link (g.B.TermBank.store c.args.self.now.bank) (g.B.TermBank.store c.links.self.bank) c.args.self.now.work.items
    c.links.self.work.items c.args.count (c.args.count - c.links.left) c.args.symbol c.requires.fits
    (let some = c.links-test.true in let within = i.within in omega (arith, some, within)) i.linking

pub links-preserved : goal.links-preserved
links-preserved g c =
    let i = c.links.invariant in
    let old = g.B.TermBank.store c.args.self.now.bank in
    let now = g.B.TermBank.store c.links.self.bank in
    let new = g.B.TermBank.store c.link.new.self.bank in
    let work = c.args.self.now.work.items in
    let n = c.args.count in
    let left = c.links.left in
    let some = c.links-test.true in
    let within = i.within in
    record {
      kept = keeping-trans i.kept c.link.ensures.kept (λ t h. absurd (omega (arith, h.1)));
      held = c.in_ok-link.ensures.held;
      linking =
          let next : n - left + 1 ≡ n - (left - 1) = omega (arith, some, within) in
          subst (λ j. LinksSoFar old new work c.link.new.self.work.items n c.args.symbol j) next
          (linking-next old now new work c.links.self.work.items c.link.new.self.work.items n (n - left) c.args.symbol c.requires.held
          (omega (arith, some, within)) i.linking c.link.ensures.kept.keeps c.in_ok-link.ensures.links);
      within = omega (arith, within);
    }

pub head-requires-clause-fits : goal.head-requires-clause-fits
head-requires-clause-fits g c =
    let i = c.links.invariant in
    let old = g.B.TermBank.store c.args.self.now.bank in
    let now = g.B.TermBank.store c.links.self.bank in
    let work = c.args.self.now.work.items in
    let n = c.args.count in
    let end : n - c.links.left ≡ n = omega (arith, c.links-test.false) in
    can-head old now work c.links.self.work.items n c.args.symbol i.kept.keeps c.requires.fits
    (subst (λ j. LinksSoFar old now work c.links.self.work.items n c.args.symbol j) end i.linking)

pub returns-in_err-link-clause-kept : goal.returns-in_err-link-clause-kept
returns-in_err-link-clause-kept g c = keeping-trans c.links.invariant.kept c.link.ensures.kept (λ t h. absurd (omega (arith, h.1)))

pub returns-in_err-head-clause-kept : goal.returns-in_err-head-clause-kept
returns-in_err-head-clause-kept g c = keeping-trans c.links.invariant.kept c.head.ensures.kept (λ t h. absurd (omega (arith, h.1)))

pub returns-clause-kept : goal.returns-clause-kept
returns-clause-kept g c = keeping-trans c.links.invariant.kept c.head.ensures.kept (λ t h. absurd (omega (arith, h.1)))

pub returns-clause-applies : goal.returns-clause-applies
returns-clause-applies g c =
    let i = c.links.invariant in
    let old = g.B.TermBank.store c.args.self.now.bank in
    let now = g.B.TermBank.store c.links.self.bank in
    let work = c.args.self.now.work.items in
    let n = c.args.count in
    let end : n - c.links.left ≡ n = omega (arith, c.links-test.false) in
    applies old now (g.B.TermBank.store c.head.new.self.bank) work c.links.self.work.items c.head.new.self.work.items n c.args.symbol i.kept.keeps
    (subst (λ j. LinksSoFar old now work c.links.self.work.items n c.args.symbol j) end i.linking) c.head.ensures.kept.keeps
    c.in_ok-head.ensures.heads

pub returns-in_err-link-clause-below : goal.returns-in_err-link-clause-below
returns-in_err-link-clause-below g c = kept-below (g.B.TermBank.store c.args.self.now.bank) (g.B.TermBank.store c.links.self.bank)
    (g.B.TermBank.store c.link.new.self.bank) c.args.self.now.work.items c.links.self.work.items c.args.count (c.args.count - c.links.left)
    c.args.symbol c.links.invariant.linking c.link.ensures.kept.keeps

pub returns-in_err-head-clause-below : goal.returns-in_err-head-clause-below
returns-in_err-head-clause-below g c = kept-below (g.B.TermBank.store c.args.self.now.bank) (g.B.TermBank.store c.links.self.bank)
    (g.B.TermBank.store c.head.new.self.bank) c.args.self.now.work.items c.links.self.work.items c.args.count (c.args.count - c.links.left)
    c.args.symbol c.links.invariant.linking c.head.ensures.kept.keeps

pub returns-clause-below : goal.returns-clause-below
returns-clause-below g c = kept-below (g.B.TermBank.store c.args.self.now.bank) (g.B.TermBank.store c.links.self.bank)
    (g.B.TermBank.store c.head.new.self.bank) c.args.self.now.work.items c.links.self.work.items c.args.count (c.args.count - c.links.left)
    c.args.symbol c.links.invariant.linking c.head.ensures.kept.keeps

pub returns-in_err-link-clause-parts : goal.returns-in_err-link-clause-parts
returns-in_err-link-clause-parts g c =
    on-err _ _ (leaves-parts (g.B.TermBank.store c.args.self.now.bank) (g.B.TermBank.store c.links.self.bank)
    (g.B.TermBank.store c.link.new.self.bank) c.args.self.now.work.items c.links.self.work.items c.link.new.self.work.items c.args.count
    (c.args.count - c.links.left) c.args.symbol c.requires.held c.links.invariant.linking c.link.ensures.kept.keeps c.in_err-link.ensures.same)

pub returns-in_err-head-clause-parts : goal.returns-in_err-head-clause-parts
returns-in_err-head-clause-parts g c =
    on-err _ _ (leaves-parts (g.B.TermBank.store c.args.self.now.bank) (g.B.TermBank.store c.links.self.bank)
    (g.B.TermBank.store c.head.new.self.bank) c.args.self.now.work.items c.links.self.work.items c.head.new.self.work.items c.args.count
    (c.args.count - c.links.left) c.args.symbol c.requires.held c.links.invariant.linking c.head.ensures.kept.keeps c.in_err-head.ensures.same)
