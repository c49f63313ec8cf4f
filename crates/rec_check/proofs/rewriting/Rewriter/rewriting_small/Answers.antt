use Rattle.std.proofs.Common.{arith}
use Rattle.std.proofs.lemmas.List.{get_or_default}
use Rattle.std.specs.Prelude.{◌<◌, get_or, length}
use Rattle.rec_check.proofs.ClassLemmas.{first_turn, meant_at, no_letter, none_in_classes, none_turn}
use Rattle.rec_check.proofs.RewritingLemmas.{no_rule, this_rule}
use Rattle.rec_match.proofs.SkipLemmas as skip
use Rattle.rec_check.proofs.rewriting.Rewriter.rewriting_small.Goals as goal

pub loop-letter-init : goal.loop-letter-init
loop-letter-init c = record {
  within = omega arith;
  rewrites_term = λ t are below d. absurd (let nothing : ⊥ = omega (arith, below) in nothing);
  none = λ t are i d below k e. absurd (let nothing : ⊥ = omega (arith, below) in nothing);
}

pub rewriting_class-requires-clause-meant : goal.rewriting_class-requires-clause-meant
rewriting_class-requires-clause-meant c =
    let test = c.loop-letter-test.true in
    let letters = c.args.term.letters.now in
    let i = c.loop-letter.letter-index in
    let l = get_or letters i no_letter in
    let lt : i < length letters = omega (arith, test) in
    meant_at c.args.self.now.checked.now.spec letters i l lt (get_or_default letters i no_letter l lt) c.requires.meant

pub loop-letter-preserved : goal.loop-letter-preserved
loop-letter-preserved c =
    let s = c.args.self.now in
    let y = s.checked.now.spec in
    let ks = s.classes.items in
    let letters = c.args.term.letters.now in
    let i = c.loop-letter.letter-index in
    let old = c.loop-letter.first in
    let new = c.in_ok-first.first in
    let test = c.loop-letter-test.true in
    let inv = c.loop-letter.invariant in
    let within = c.in_ok-first.ensures.within in
    let low = inv.within in
    let l = get_or letters i no_letter in
    let lt : i < length letters = omega (arith, test) in
    record {
      within = omega (arith, within, low);
      rewrites_term = λ t are below d. first_turn y ks l.meaning t old new c.args.before within (c.in_ok-first.ensures.first t are)
          (inv.rewrites_term t are) below d;
      none = λ t are. none_turn y ks letters i l t old new within lt (get_or_default letters i no_letter l lt) (c.in_ok-first.ensures.first t are)
          (inv.none t are);
    }

pub returns-then-first-before-clause-first : goal.returns-then-first-before-clause-first
returns-then-first-before-clause-first c = λ t are.
    let s = c.args.self.now in
    let h = c.requires.rules in
    let y = s.checked.now.spec in
    let end = c.loop-letter-test.false in
    let inv = c.loop-letter.invariant in
    let first = c.loop-letter.first in
    this_rule y t first c.args.before skip.no_rule c.requires.before c.if-first-before.true
    (none_in_classes y h.kept s.classes.items h.classes c.args.term.letters.now t first are (λ i d lt. inv.none t are i d (omega (arith, lt, end))))
    (inv.rewrites_term t are c.if-first-before.true skip.no_rule)

pub returns-else-first-before-clause-first : goal.returns-else-first-before-clause-first
returns-else-first-before-clause-first c = λ t are.
    let s = c.args.self.now in
    let h = c.requires.rules in
    let y = s.checked.now.spec in
    let end = c.loop-letter-test.false in
    let inv = c.loop-letter.invariant in
    let first = c.loop-letter.first in
    no_rule y t first c.args.before c.requires.before c.if-first-before.false
    (none_in_classes y h.kept s.classes.items h.classes c.args.term.letters.now t first are (λ i d lt. inv.none t are i d (omega (arith, lt, end))))
