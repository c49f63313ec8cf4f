use Rattle.std.proofs.Common.{◌∙◌, ap, drop, arith, rules, take, ◌++◌, ◌∷◌, []}
use Rattle.std.specs.Prelude.{ℕ, ◌≡◌, ◌-◌, length}
use Rattle.std.proofs.lemmas.List.{length-drop, take_all}
use Rattle.rec_syntax.specs.Parts.{words_of}
use Rattle.rec_check.specs.Lookups.{argument_sorts}
use Rattle.rec_check.specs.Named.{as_words}
use Rattle.rec_check.specs.Walks.{misfits_of}
use Rattle.rec_check.proofs.scope.Scope.push_ill_sorted.Goals as goal

pub returns : goal.returns
returns c =
    let y = c.args.self.now.syntax.now.spec in
    let base = c.saturating_sub-base.result in
    let heads = c.args.heads.now.items in
    let given = c.deref.result.now in
    let old = as_words c.args.found.now.items in
    let same : base ≡ length heads - c.args.node.count = search rules in
    record {
      heads = c.in_ok-push.ensures.items ∙ ap (λ ws. ws ++ c.args.node.word ∷ []) c.truncate.ensures.items
          ∙ ap (λ (n : ℕ). take n heads ++ c.args.node.word ∷ []) same;
      found = c.in_ok-push_misfits.ensures
          ∙ ap (λ ws. old ++ misfits_of y (as_words ws) (words_of c.args.self.now.syntax.now.source c.arguments-sorts.result.now))
          (take_all (length given - base) (drop base given) (let l = length-drop base given in omega (arith, l)) ∙ ap (drop base) c.deref.ensures.value)
          ∙ ap (λ ws. old ++ misfits_of y (as_words (drop base heads)) ws) c.arguments-sorts.ensures.sorts
          ∙ ap (λ (n : ℕ). old ++ misfits_of y (as_words (drop n heads)) (argument_sorts y c.args.node.word.bytes.now)) same;
    }
