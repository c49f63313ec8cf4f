use Rattle.std.proofs.Common.{◌∙◌, ap, subst}
use Rattle.std.proofs.lemmas.Result.{IfOk-weaker}
use Rattle.rx_term.specs.Walks.{held_trees}
use Rattle.rec_sorts.specs.Agreeing.{IsScope}
use Rattle.rec_sorts.proofs.GivenLetterLemmas.{letters-listed}
use Rattle.rec_sorts.proofs.given.term_letters.Goals as goal

pub returns : goal.returns
returns g c =
    let w = g.B.TermBank.store c.args.bank.now in
    let y = c.args.checked.now.spec in
    let s = c.in_ok-scope.scope in
    let scope : IsScope y s = subst (λ v. IsScope v.spec s) c.syntax.ensures.same c.in_ok-scope.ensures in
    record {
      letters = IfOk-weaker c.letters_of_all.result _ _
          (λ v read. letters-listed y s scope w c.args.list (λ ls. ls.items) v.items c.deref.result.now c.requires.kept read
          (ap (held_trees w) c.deref.ensures.value ∙ c.in_ok-elements.ensures.trees))
          c.letters_of_all.ensures;
    }
