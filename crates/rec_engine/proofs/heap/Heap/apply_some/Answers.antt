use Rattle.std.proofs.Common.{arith, subst, sym, List, Contains, length, ◌≡◌, ◌+◌, ◌-◌, ◌<◌, ◌++◌, ◌∷◌, [], ◌∙◌}
use Rattle.rx_term.specs.Steps.{Keeps}
use Rattle.rx_term.specs.Walks.{AllHeld}
use Rattle.rx_term.specs.declared.Term.{Term}
use Rattle.rec_engine.specs.Inner.Building.{Links, LinksSoFar}
use Rattle.rx_term.proofs.KeepLemmas.{still-held, kept-work}
use Rattle.rec_engine.proofs.HeapLemmas.{keeping-trans, keeping-none}
use Rattle.rec_engine.proofs.BuildingLemmas.{linking-first, linking-next, can-link, can-head, applies, kept-below}
use Rattle.rec_engine.proofs.FirstLinkLemmas.{held-again, keeps-again, linked-first, some-there}
use Rattle.rec_engine.proofs.heap.Heap.apply_some.Goals as goal

pub link_first-requires : goal.link_first-requires
link_first-requires g c =
    let old = g.B.TermBank.store c.args.self.now.bank in
    let now = g.B.TermBank.store c.reclaim_if_due.new.self.bank in
    let work = c.args.self.now.work.items in
    let k = c.reclaim_if_due.ensures.kept.keeps in
    let same = sym c.reclaim_if_due.ensures.same in
    record {
      held = subst (AllHeld now) same (still-held k c.requires.held);
      some = subst (λ (xs : List Term). 0 < length xs) same
          (some-there old work c.args.empty c.args.count c.args.symbol c.requires.fits c.requires.some);
      there = subst (λ (xs : List Term). Contains xs c.args.empty) same c.requires.there;
      nil = kept-work k c.args.empty c.requires.there (c.requires.held c.args.empty c.requires.there) ∙ c.requires.nil;
    }

pub links-init : goal.links-init
links-init g c =
    let old = g.B.TermBank.store c.args.self.now.bank in
    let now = g.B.TermBank.store c.reclaim_if_due.new.self.bank in
    let new = g.B.TermBank.store c.link_first.new.self.bank in
    let work = c.args.self.now.work.items in
    let work' = c.link_first.new.self.work.items in
    let e = c.args.empty in
    let n = c.args.count in
    let f = c.args.symbol in
    let same = c.reclaim_if_due.ensures.same in
    let k = c.reclaim_if_due.ensures.kept.keeps in
    let k' = subst (Keeps now new) same c.link_first.ensures.kept.keeps in
    let links = subst (λ xs. Links now new (xs ++ e ∷ []) work') same c.in_ok-link_first.ensures.links in
    let some = c.requires.some in
    let one : 0 + 1 ≡ n - (n - 1) = omega (arith, some) in
    record {
      kept = keeping-trans (keeping-none c.reclaim_if_due.ensures.kept) c.link_first.ensures.kept (λ t h. absurd (omega (arith, h.1)));
      held = c.in_ok-link_first.ensures.held;
      linking = subst (λ i. LinksSoFar old new (work ++ e ∷ []) work' n f i) one
          (linked-first old now new work work' e n f c.requires.held c.requires.there some k k' links);
      within = omega (arith, some);
    }

pub returns-in_err-link_first-clause-below : goal.returns-in_err-link_first-clause-below
returns-in_err-link_first-clause-below g c =
    let old = g.B.TermBank.store c.args.self.now.bank in
    let now = g.B.TermBank.store c.reclaim_if_due.new.self.bank in
    let new = g.B.TermBank.store c.link_first.new.self.bank in
    let work = c.args.self.now.work.items in
    let e = c.args.empty in
    let there = c.requires.there in
    let k = c.reclaim_if_due.ensures.kept.keeps in
    let k' = subst (Keeps now new) c.reclaim_if_due.ensures.same c.link_first.ensures.kept.keeps in
    kept-below old now new (work ++ e ∷ []) (work ++ e ∷ []) c.args.count 0 c.args.symbol
    (linking-first old now (work ++ e ∷ []) c.args.count c.args.symbol (keeps-again e there k) (held-again old work e c.requires.held there))
    (keeps-again e there k')

pub returns-in_err-link_first-clause-kept : goal.returns-in_err-link_first-clause-kept
returns-in_err-link_first-clause-kept g c = keeping-trans (keeping-none c.reclaim_if_due.ensures.kept) c.link_first.ensures.kept
    (λ t h. absurd (omega (arith, h.1)))

pub link-requires-clause-fits : goal.link-requires-clause-fits
link-requires-clause-fits g c =
    let i = c.links.invariant in
    can-link (g.B.TermBank.store c.args.self.now.bank) (g.B.TermBank.store c.links.self.bank) (c.args.self.now.work.items ++ c.args.empty ∷ [])
    c.links.self.work.items c.args.count (c.args.count - c.links.left) c.args.symbol c.requires.fits
    (let some = c.links-test.true in let within = i.within in omega (arith, some, within)) i.linking

pub links-preserved : goal.links-preserved
links-preserved g c =
    let i = c.links.invariant in
    let old = g.B.TermBank.store c.args.self.now.bank in
    let now = g.B.TermBank.store c.links.self.bank in
    let new = g.B.TermBank.store c.link.new.self.bank in
    let work = c.args.self.now.work.items ++ c.args.empty ∷ [] in
    let n = c.args.count in
    let left = c.links.left in
    let some = c.links-test.true in
    let within = i.within in
    record {
      kept = keeping-trans i.kept c.link.ensures.kept (λ t h. absurd (omega (arith, h.1)));
      held = c.in_ok-link.ensures.held;
      linking =
          let next : n - left + 1 ≡ n - (left - 1) = omega (arith, some, within) in
          subst (λ j. LinksSoFar old new work c.link.new.self.work.items n c.args.symbol j) next
          (linking-next old now new work c.links.self.work.items c.link.new.self.work.items n (n - left) c.args.symbol
          (held-again old c.args.self.now.work.items c.args.empty c.requires.held c.requires.there)
          (omega (arith, some, within)) i.linking c.link.ensures.kept.keeps c.in_ok-link.ensures.links);
      within = omega (arith, within);
    }

pub head-requires-clause-fits : goal.head-requires-clause-fits
head-requires-clause-fits g c =
    let i = c.links.invariant in
    let old = g.B.TermBank.store c.args.self.now.bank in
    let now = g.B.TermBank.store c.links.self.bank in
    let work = c.args.self.now.work.items ++ c.args.empty ∷ [] in
    let n = c.args.count in
    let end : n - c.links.left ≡ n = omega (arith, c.links-test.false) in
    can-head old now work c.links.self.work.items n c.args.symbol i.kept.keeps c.requires.fits
    (subst (λ j. LinksSoFar old now work c.links.self.work.items n c.args.symbol j) end i.linking)

pub returns-clause-applies : goal.returns-clause-applies
returns-clause-applies g c =
    let i = c.links.invariant in
    let old = g.B.TermBank.store c.args.self.now.bank in
    let now = g.B.TermBank.store c.links.self.bank in
    let work = c.args.self.now.work.items ++ c.args.empty ∷ [] in
    let n = c.args.count in
    let end : n - c.links.left ≡ n = omega (arith, c.links-test.false) in
    applies old now (g.B.TermBank.store c.head.new.self.bank) work c.links.self.work.items c.head.new.self.work.items n c.args.symbol i.kept.keeps
    (subst (λ j. LinksSoFar old now work c.links.self.work.items n c.args.symbol j) end i.linking) c.head.ensures.kept.keeps
    c.in_ok-head.ensures.heads

pub returns-in_err-link-clause-below : goal.returns-in_err-link-clause-below
returns-in_err-link-clause-below g c = kept-below (g.B.TermBank.store c.args.self.now.bank) (g.B.TermBank.store c.links.self.bank)
    (g.B.TermBank.store c.link.new.self.bank) (c.args.self.now.work.items ++ c.args.empty ∷ []) c.links.self.work.items c.args.count
    (c.args.count - c.links.left) c.args.symbol c.links.invariant.linking c.link.ensures.kept.keeps

pub returns-in_err-head-clause-below : goal.returns-in_err-head-clause-below
returns-in_err-head-clause-below g c = kept-below (g.B.TermBank.store c.args.self.now.bank) (g.B.TermBank.store c.links.self.bank)
    (g.B.TermBank.store c.head.new.self.bank) (c.args.self.now.work.items ++ c.args.empty ∷ []) c.links.self.work.items c.args.count
    (c.args.count - c.links.left) c.args.symbol c.links.invariant.linking c.head.ensures.kept.keeps

pub returns-clause-below : goal.returns-clause-below
returns-clause-below g c = kept-below (g.B.TermBank.store c.args.self.now.bank) (g.B.TermBank.store c.links.self.bank)
    (g.B.TermBank.store c.head.new.self.bank) (c.args.self.now.work.items ++ c.args.empty ∷ []) c.links.self.work.items c.args.count
    (c.args.count - c.links.left) c.args.symbol c.links.invariant.linking c.head.ensures.kept.keeps

pub returns-in_err-link-clause-kept : goal.returns-in_err-link-clause-kept
returns-in_err-link-clause-kept g c = keeping-trans c.links.invariant.kept c.link.ensures.kept (λ t h. absurd (omega (arith, h.1)))

pub returns-in_err-head-clause-kept : goal.returns-in_err-head-clause-kept
returns-in_err-head-clause-kept g c = keeping-trans c.links.invariant.kept c.head.ensures.kept (λ t h. absurd (omega (arith, h.1)))

pub returns-clause-kept : goal.returns-clause-kept
returns-clause-kept g c = keeping-trans c.links.invariant.kept c.head.ensures.kept (λ t h. absurd (omega (arith, h.1)))
