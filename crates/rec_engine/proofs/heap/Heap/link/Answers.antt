use Rattle.std.proofs.Common.{ℕ, ◌≡◌, ◌-◌, ◌++◌, ◌∙◌, sym, ap, subst, arith, take, set, length, length-append, ◌∷◌, [], Contains, List}
use Rattle.std.proofs.Math.Seq.{take-append_seam}
use Rattle.std.proofs.lemmas.List.{length-set}
use Rattle.rx_term.specs.declared.Term.{Term}
use Rattle.rec_engine.proofs.EndLemmas.{in-front}
use Rattle.rec_engine.proofs.BuildingLemmas.{link-done, on-top-held}
use Rattle.rec_engine.proofs.heap.Heap.link.Goals as goal

-- the last one goes
one-less : {A : Type 0} (old new : List A) (x : A) (n : ℕ) → old ≡ new ++ x ∷ [] → length old ≡ n → new ≡ take (n - 1) old
one-less old new x n e size =
    let long = ap length e ∙ length-append new (x ∷ []) in
    let less : length new ≡ n - 1 = omega (arith, size, long) in
    sym (take-append_seam new (x ∷ [])) ∙ ap (take (length new)) (sym e) ∙ ap (λ k. take k old) less

-- behind a make that leaves the work list as it was, one takes the place of two
two-less : (work now new : List Term) (r x : Term) (n : ℕ) → n ≡ length work → now ≡ work → set now (n - 2) r ≡ new ++ x ∷ []
    → new ≡ take (n - 1) (set work (n - 2) r)
two-less work now new r x n count same e = one-less _ new x n e (length-set _ _ _ ∙ ap length same ∙ sym count)
    ∙ ap (λ xs. take (n - 1) (set xs (n - 2) r)) same

pub returns-clause-held : goal.returns-clause-held
returns-clause-held g c =
    let old = g.B.TermBank.store c.args.self.now.bank in
    let new = g.B.TermBank.store c.make_anyway.new.self.bank in
    let work = c.args.self.now.work.items in
    let n = c.len-count.result in
    let count = c.len-count.ensures ∙ c.args.self.now.work.ok.0 in
    let f = c.requires.fits in
    let k = c.make_anyway.ensures.kept.keeps in
    let o = link-done old work f.below f.item f.list f.tail c.requires.held f.split f.is new _ c.in_ok-list.list c.index.result.now
    c.index-2.result.now c.in_ok-list.list n k count c.index.ensures c.index-2.ensures c.in_ok-list.ensures.makes
    (two-less work _ c.take_last.new.self.items c.in_ok-list.list c.take_last.result n count c.make_anyway.ensures.same c.take_last.ensures.items) in
    on-top-held old new work f.below _ _ k c.requires.held
    (λ t h. subst (λ (xs : List Term). Contains xs t) (sym f.split) (in-front f.below (f.item ∷ f.list ∷ []) t h)) o

pub returns-clause-links : goal.returns-clause-links
returns-clause-links g c f =
    let old = g.B.TermBank.store c.args.self.now.bank in
    let new = g.B.TermBank.store c.make_anyway.new.self.bank in
    let work = c.args.self.now.work.items in
    let n = c.len-count.result in
    let count = c.len-count.ensures ∙ c.args.self.now.work.ok.0 in
    link-done old work f.below f.item f.list f.tail c.requires.held f.split f.is new _ c.in_ok-list.list c.index.result.now
    c.index-2.result.now c.in_ok-list.list n c.make_anyway.ensures.kept.keeps count c.index.ensures c.index-2.ensures c.in_ok-list.ensures.makes
    (two-less work _ c.take_last.new.self.items c.in_ok-list.list c.take_last.result n count c.make_anyway.ensures.same c.take_last.ensures.items)
