use Rattle.std.proofs.Common.{rules, subst}
use Rattle.std.specs.Prelude.{IfSome, option_map}
use Rattle.rec_check.specs.Inner.Trials.{AreSizes, Asks}
use Rattle.rec_check.proofs.TrialLemmas.{asked_all, asked_fails, asked_next, asked_start}
use Rattle.rec_check.proofs.matching.all_match.Goals as goal

pub loop-letter-init : goal.loop-letter-init
loop-letter-init c = record {
  asked = asked_start c.args.left.now c.args.term.letters.now c.clear.new.self c.clear.ensures;
  sizes = c.requires;
}

pub returns-in-None : goal.returns-in-None
returns-in-None c =
    asked_fails c.args.left.now c.args.term.letters.now c.loop-letter.letters.now c.in-Some.front.now c.loop-letter.terms.letters.now
    c.in-Some.letter.now c.loop-letter.values c.ask.new.values (search rules)
    (subst (λ o. Asks c.in-Some.letter.now c.loop-letter.terms.letters.now c.loop-letter.values c.ask.new.values (option_map (λ p. p.letters.now) o))
    c.in-None.is c.in_ok-others.ensures.asks) c.loop-letter.invariant.asked

pub loop-letter-preserved : goal.loop-letter-preserved
loop-letter-preserved c = record {
  asked = asked_next c.args.left.now c.args.term.letters.now c.loop-letter.letters.now c.in-Some.front.now c.loop-letter.terms.letters.now
      c.in-Some-2.others.letters.now c.in-Some.letter.now c.loop-letter.values c.ask.new.values (search rules)
      (subst (λ o. Asks c.in-Some.letter.now c.loop-letter.terms.letters.now c.loop-letter.values c.ask.new.values
      (option_map (λ p. p.letters.now) o)) c.in-Some-2.is c.in_ok-others.ensures.asks) c.loop-letter.invariant.asked;
  sizes = subst (λ o. IfSome o (λ p. AreSizes p.letters.now p.sizes.now)) c.in-Some-2.is c.in_ok-others.ensures.sizes;
}

pub returns : goal.returns
returns c = asked_all c.args.left.now c.args.term.letters.now c.loop-letter.letters.now c.loop-letter.terms.letters.now c.loop-letter.values
    (search rules) c.loop-letter.invariant.asked
