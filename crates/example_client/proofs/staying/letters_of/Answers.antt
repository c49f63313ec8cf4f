use Rattle.std.proofs.Common.{◌≡◌, [], ◌∷◌, None, IfSome, refl, subst, arith}
use Rattle.rx_term.specs.Tree.{Tree, none, more, list_of}
use Rattle.rx_term.specs.Store.{tree_at}
use Rattle.rx_term.proofs.StoreLemmas.{some-value}
use Rattle.rec_sorts.specs.Evaluation.{term_of}
use Rattle.rec_sorts.specs.Numbering.{AreLetters}
use Rattle.rec_sorts.specs.TermRules.{broken_by_terms}
use Rattle.rec_sorts.specs.declared.letters.Letter.{Letter}
use Rattle.std.specs.declared.vec.Vec.{Vec}
use Rattle.std.specs.declared.alloc.Global.{Global}
use Rattle.example_client.proofs.RequestLemmas.{only_one, not_none}
use Rattle.example_client.proofs.staying.letters_of.Goals as goal

pub unreachable-requires : goal.unreachable-requires
unreachable-requires g c =
    let v = some-value (tree_at (g.B.TermBank.store c.args.bank.now) c.args.t) c.requires in
    let all = c.in_ok-all.ensures.letters (list_of (more v.0 none)) (v.0 ∷ []) (c.in_ok-list.ensures.tree v.0 v.1) refl in
    let some = not_none _ c.in_ok-all.all.items v.0 all in
    let none = c.in-None.ensures.cases.0 in
    let same = c.in_ok-all.all.ok.0 in
    omega (arith, some, none, same)

pub returns : goal.returns
returns g c u e =
    let y = c.args.checked.now.spec in
    let one = c.in_ok-list.ensures.tree u e in
    let kept = subst (λ o. IfSome o (λ t. broken_by_terms y t ≡ None)) one c.in_ok-check_terms.ensures.kept in
    let all = c.in_ok-all.ensures.letters (list_of (more u none)) (u ∷ []) one refl in
    record { letters = only_one _ c.in_ok-all.all.items c.pop.new.self.items c.in-Some.letters u c.in-Some.ensures.items all; is_ground = kept }
