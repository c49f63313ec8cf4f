use Rattle.std.proofs.Common.{rules, subst, sym}
use Rattle.std.specs.Prelude.{◌≡◌, get_or}
use Rattle.rec_syntax.specs.Syntax.{Rule, Term}
use Rattle.rec_sorts.specs.Numbering.{AreLetters}
use Rattle.rec_check.specs.Rewriting.{rewrites}
use Rattle.rec_check.specs.Inner.Trials.{Matches}
use Rattle.rec_check.proofs.RewritingLemmas.{if_ok_so, rewrites_bare, rewrites_never, rule_there}
use Rattle.rec_check.proofs.rewriting.Rewriter.rewrites.Goals as goal

pub returns-then-len-eq0 : goal.returns-then-len-eq0
returns-then-len-eq0 c =
    let y = c.args.self.now.checked.now.spec in
    let left = c.deref.result.now in
    let term = c.args.term.letters.now in
    let x = c.letters-rule.result.now in
    if_ok_so c.matches.result (Matches left term)
    (λ b. (r : Rule) (t : Term) → AreLetters y term t → b ≡ rewrites y (get_or y.rules c.args.rule r) t) (λ b h r t are.
    let q = get_or y.rules c.args.rule r in
    let own = c.letters-rule.ensures r in
    rewrites_bare y x q t b own (search rules) (h y q t c.syntax-kept.ensures.kept (rule_there y.rules c.args.rule r c.requires.rule)
    (subst (λ ls. AreLetters y ls q.left) (sym c.deref.ensures.value) own.0) are)) c.matches.ensures

pub returns-else-len-eq0 : goal.returns-else-len-eq0
returns-else-len-eq0 c = λ r t are. rewrites_never c.args.self.now.checked.now.spec c.letters-rule.result.now
    (get_or c.args.self.now.checked.now.spec.rules c.args.rule r) t (c.letters-rule.ensures r) (search rules)
