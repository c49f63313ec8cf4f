use Rattle.std.proofs.Common.{ap, arith, length-append, subst, sym, ◌∙◌, ◌≡◌, ◌<◌, ◌+◌, ◌-◌, get_or, length, ℕ}
use Rattle.std.proofs.lemmas.List.{length-map}
use Rattle.rec_sorts.specs.Numbering.{named, named_by}
use Rattle.rec_sorts.specs.declared.letters.Letter.{Letter}
use Rattle.rec_sorts.specs.declared.letters.Meaning.TheVariants.{Symbol}
use Rattle.rec_check.proofs.SizeLemmas.{due_term}
use Rattle.rec_check.proofs.TrialLemmas.{AreDue, due_end, due_next, due_start}
use Rattle.rec_check.proofs.matching.size_of_last.Goals as goal
use Rattle.rec_check.proofs.matching.size_of_last.Goals.{then-loop-due-test+else-at-gt0, else-loop-due-test}

abbrev no_letter : Letter
no_letter = record { meaning = Symbol 0; count = 0 }

pub loop-due-init : goal.loop-due-init
loop-due-init c =
    let letters = c.args.letters.now in
    let some = c.requires.some in
    let last : ℕ = length letters - 1 in
    record {
      within = omega (arith, some);
      are = λ y ms t e. due_next letters (length letters) last 1 (get_or letters last no_letter).count no_letter y ms (omega arith)
          (omega (arith, some)) (omega arith) (λ le. omega arith) (due_start letters y ms t e);
    }

pub loop-due-preserved : goal.loop-due-preserved
loop-due-preserved c =
    let letters = c.args.letters.now in
    let h = c.loop-due.invariant in
    let within = h.within in
    let at = c.loop-due.at in
    let some = c.if-at-gt0.true in
    let due = c.loop-due-test.true in
    let after = c.saturating_sub-at.ensures in
    let next : c.saturating_sub-at.result ≡ at - get_or c.args.sizes.now (at - 1) 0 = omega (arith, after) in
    record {
      within = omega (arith, within, next);
      are = λ y ms t e. subst (λ (k : ℕ). AreDue letters k (c.loop-due.due - 1) y ms) (sym next)
          (due_term letters c.args.sizes.now (length letters - 1) at c.loop-due.due y ms c.requires.sizes (omega arith) (omega (arith, within)) some
          due (h.are y ms t e));
    }

pub returns : goal.returns
returns c = λ y ms t e.
    let letters = c.args.letters.now in
    let h = c.loop-due.invariant in
    let within = h.within in
    let stop : 0 < c.loop-due.due → 0 < c.loop-due.at → ⊥ = elim c.loop-due-test.branch [
      | then-loop-due-test+else-at-gt0 w ↦ λ due at. (let no = w.if-at-gt0.false in omega (arith, at, no))
      | else-loop-due-test w ↦ λ due at. (let no = w.loop-due-test.false in omega (arith, due, no))
    ] in
    let at = due_end letters c.loop-due.at c.loop-due.due y ms (omega (arith, within)) stop (h.are y ms t e) in
    let total : length letters ≡ length ms + length (named t) = sym (length-map letters (named_by y)) ∙ ap length e ∙ length-append ms (named t) in
    omega (arith, at, total)
