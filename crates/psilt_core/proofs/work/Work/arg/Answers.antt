use Rattle.std.proofs.Common.{◌≡◌, ◌<◌, Some, Ok, sym, ap, ◌∙◌, subst, arith}
use Rattle.std.specs.Option.{option_and_then}
use Rattle.rx_term.specs.Name.{Signature}
use Rattle.rx_term.specs.Tree.{count_of}
use Rattle.rx_term.specs.Store.{tree_at}
use Rattle.rx_term.specs.Kinds.{HasAppl}
use Rattle.rx_shared.specs.State.{store_of}
use Rattle.rx_shared.specs.declared.bank.SharedBank.{SharedBank}
use Rattle.psilt_core.specs.Answers.{ReadsArg}
use Rattle.psilt_core.proofs.ItemLemmas.{arg_is, place_is}
use Rattle.psilt_core.proofs.work.Work.arg.Goals as goal

pub item-requires : goal.item-requires
item-requires c =
    let r = c.shared_bank-bank.result.now in let w = store_of r in
    let h = subst (λ (b : SharedBank). HasAppl (store_of b) c.args.t c.in-Ok.symbol) (sym c.shared_bank-bank.ensures) c.in-Ok.ensures in
    let both : Some (count_of h.args) ≡ Some c.arity_of.result =
    sym (ap (λ s. option_and_then (λ (g : Signature). Some g.arity) s) h.symbol) ∙ c.arity_of.ensures in
    let n : count_of h.args ≡ c.arity_of.result = cc both in let lt : c.args.i < count_of h.args = omega (arith, n, c.if-i-arity_of.false) in
    place_is (tree_at w c.args.t) (tree_at w c.args-2.result) c.args.i h.name h.quoted h.args h.anns h.here c.args-2.ensures lt

pub returns : goal.returns
returns c =
    let r = c.shared_bank-bank.result.now in let w = store_of r in
    let h = subst (λ (b : SharedBank). HasAppl (store_of b) c.args.t c.in-Ok.symbol) (sym c.shared_bank-bank.ensures) c.in-Ok.ensures in
    let both : Some (count_of h.args) ≡ Some c.arity_of.result =
    sym (ap (λ s. option_and_then (λ (g : Signature). Some g.arity) s) h.symbol) ∙ c.arity_of.ensures in
    let n : count_of h.args ≡ c.arity_of.result = cc both in let lt : c.args.i < count_of h.args = omega (arith, n, c.if-i-arity_of.false) in
    subst (λ (b : SharedBank). ReadsArg (store_of b) c.args.t c.args.i (Ok c.item.result)) c.shared_bank-bank.ensures
    (arg_is (tree_at w c.args.t) (tree_at w c.args-2.result) (tree_at w c.item.result) c.args.i h.name h.quoted h.args h.anns h.here c.args-2.ensures
    c.item.ensures lt)
