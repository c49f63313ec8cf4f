use Rattle.std.proofs.Common.{subst, sym, []}
use Rattle.std.specs.Prelude.{get_or}
use Rattle.rec_sorts.specs.Numbering.{AreLetters}
use Rattle.rec_match.proofs.SkipLemmas as skip
use Rattle.rec_check.proofs.RewritingLemmas.{is_head, no_last, no_variable, rule_there}
use Rattle.rec_check.proofs.rewriting.head_symbol.Goals as goal

pub unreachable-requires : goal.unreachable-requires
unreachable-requires c =
    let y = c.args.checked.now.spec in
    let q = get_or y.rules c.args.rule skip.no_rule in
    no_variable y c.syntax-kept.ensures.kept q (rule_there y.rules c.args.rule skip.no_rule c.requires) c.deref.result.now c.in-Some._others.now
    c.in-Some.letter.now
    (subst (λ ls. AreLetters y ls q.left) (sym c.deref.ensures.value) (c.letters.ensures skip.no_rule).0) c.in-Some.ensures.cases.0
    c.in-Variable.field-0 c.in-Variable.is

pub unreachable-requires-in-None : goal.unreachable-requires-in-None
unreachable-requires-in-None c =
    let y = c.args.checked.now.spec in
    let q = get_or y.rules c.args.rule skip.no_rule in
    no_last y [] q.left c.deref.result.now c.in-None.ensures.cases
    (subst (λ ls. AreLetters y ls q.left) (sym c.deref.ensures.value) (c.letters.ensures skip.no_rule).0).1

pub returns : goal.returns
returns c r =
    let y = c.args.checked.now.spec in
    let q = get_or y.rules c.args.rule r in
    is_head y c.syntax-kept.ensures.kept q (rule_there y.rules c.args.rule r c.requires) c.deref.result.now c.in-Some._others.now c.in-Some.letter.now
    (subst (λ ls. AreLetters y ls q.left) (sym c.deref.ensures.value) (c.letters.ensures r).0) c.in-Some.ensures.cases.0 c.in-Symbol.symbol c.in-Symbol.is
