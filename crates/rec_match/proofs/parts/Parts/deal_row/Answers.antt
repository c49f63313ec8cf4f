use Rattle.std.proofs.Common.{subst, refl, ◌≡◌}
use Rattle.std.specs.Prelude.{None}
use Rattle.rec_match.specs.Parts.{coded_of, opened_codes}
use Rattle.rec_match.proofs.ShareLemmas.{deals_none, deals_one}
use Rattle.rec_match.proofs.parts.Parts.deal_row.Goals as goal

pub returns-in_default-rank : goal.returns-in_default-rank
returns-in_default-rank c =
    deals_none c.args.self.now c.args.opening.register c.args.opening.base (coded_of c.args.row.now) c.args.marks.now.symbols.items c.args.shares.now
    c.in-Some.symbol c.requires.shares c.in_default-rank.ensures
    (λ j other. subst (λ cs. opened_codes c.args.self.now c.args.opening.register j c.args.opening.base cs ≡ None) c.deref.ensures.value
    (c.in-Some.ensures j c.args.opening.base other))

pub returns : goal.returns
returns c =
    deals_one c.args.self.now c.args.opening.register c.args.opening.base (coded_of c.args.row.now) c.args.marks.now.symbols.items c.args.shares.now _
    c.in-Some.symbol c.in-Some-rank.rank _ c.push_opened.new.share c.requires.shares c.in-Some-rank.ensures
    (λ j other. subst (λ cs. opened_codes c.args.self.now c.args.opening.register j c.args.opening.base cs ≡ None) c.deref.ensures.value
    (c.in-Some.ensures j c.args.opening.base other))
    refl c.in_ok-push_opened.ensures
