use Rattle.std.proofs.Common.{sym, subst, ◌∙◌}
use Rattle.std.proofs.Common.{arith}
use Rattle.std.proofs.lemmas.Bool.{lt-ltb}
use Rattle.std.specs.Prelude.{◌<◌, get_or, length}
use Rattle.rec_sorts.specs.Numbering.{IsLetterRule}
use Rattle.rec_match.proofs.LetterLemmas.{pair-at, pair-long}
use Rattle.rec_check.proofs.rewriting.letters.Goals as goal

pub unreachable-requires : goal.unreachable-requires
unreachable-requires c =
    let y = c.args.checked.now.spec in
    let long = pair-long (IsLetterRule y) c.rules.result.now y.rules c.rules.ensures.letters in
    let lt : c.args.rule < length c.rules.result.now = (let q = c.requires in omega (arith, q, long)) in
    cc (c.in-None.ensures.lookup.0 ∙ lt-ltb c.args.rule (length c.rules.result.now) lt)

pub returns : goal.returns
returns c r =
    let y = c.args.checked.now.spec in
    subst (λ x. IsLetterRule y x (get_or y.rules c.args.rule r)) (sym c.in-Some.ensures.lookup.1)
    (pair-at (IsLetterRule y) c.rules.result.now y.rules c.rules.ensures.letters c.args.rule c.in-Some.letters.now r c.requires)
