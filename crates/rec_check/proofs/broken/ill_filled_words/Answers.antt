use Rattle.std.proofs.Common.{◌≡◌, sym, ap, ◌∙◌, ◌++◌}
use Rattle.std.specs.Prelude.{count_by}
use Rattle.rec_sorts.specs.Lookup.{mentions, rule_terms}
use Rattle.rec_sorts.specs.SpecRules.{ill_filled}
use Rattle.rec_check.specs.Errors.{declared_names}
use Rattle.rec_check.specs.Findings.{HasSame}
use Rattle.rec_check.specs.Lookups.{ill_filled_among, present}
use Rattle.rec_check.specs.Named.{as_nodes, as_words}
use Rattle.rec_check.specs.Walks.{flat_terms}
use Rattle.rec_syntax.specs.Syntax.{Sourced}
use Rattle.rec_check.proofs.CountLemmas.{same-filter}
use Rattle.rec_check.proofs.WalkLemmas.{same-ill_filled}
use Rattle.rec_check.proofs.WordLemmas.{if_ok_same}
use Rattle.rec_check.proofs.broken.ill_filled_words.Goals as goal

pub returns : goal.returns
returns c =
    let y = c.args.syntax.now.spec in
    let ts = rule_terms y.rules ++ y.terms in
    let ks = declared_names y in
    let nodes : as_nodes c.deref.result.now ≡ flat_terms ts = ap as_nodes c.deref.ensures.value ∙ c.in_ok-nodes.ensures in
    let filled : HasSame (ill_filled y) (as_words c.deref-2.result.now) = λ p. same-ill_filled y ts p
    ∙ ap (λ ns. count_by p (ill_filled_among y ns)) (sym nodes)
    ∙ ap (λ (s : Sourced). count_by p (ill_filled_among s.spec (as_nodes c.deref.result.now))) (sym c.in_ok-scope.ensures.same)
    ∙ ap (count_by p) (sym (ap as_words c.deref-2.ensures.value ∙ c.in_ok-words.ensures)) in
    if_ok_same c.present_words.result (present ks (ill_filled y)) (present ks (as_words c.deref-2.result.now))
    (c.present_words.ensures ks c.in_ok-known.ensures)
    (same-filter (λ w. mentions ks w.bytes) (ill_filled y) (as_words c.deref-2.result.now) filled)
