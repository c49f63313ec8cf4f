use Rattle.std.proofs.Common.{◌≡◌, Some, ap, is_some}
use Rattle.rx_term.specs.Name.{Signature}
use Rattle.rx_term.specs.Store.{tree_at, signature_of, applied}
use Rattle.rx_term.proofs.StoreLemmas.{some-value, Grows-trans, Grows-made}
use Rattle.psilt_core.specs.Banks.{store_of}
use Rattle.psilt_core.specs.Answers.{IsApplication}
use Rattle.psilt_core.proofs.AnswerLemmas.{appl_is, made_for}
use Rattle.psilt_core.proofs.ArgumentLemmas.{still_rests}
use Rattle.psilt_core.proofs.making.apply_symbol.Goals as goal

pub appl-requires : goal.appl-requires
appl-requires c =
    let v = store_of c.args.bank.now in let g = some-value (signature_of v c.args.symbol) c.requires.symbol in
    let is = appl_is v (store_of c.list.new.bank) c.args.symbol c.in_ok-list.list c.args.args.now g.0 g.1 c.in_ok-list.ensures.grows
    c.in_ok-list.ensures.made (c.requires.arity g.0 g.1) in
    ap is_some is.2

pub returns-clause-made : goal.returns-clause-made
returns-clause-made c =
    let v = store_of c.args.bank.now in let w = store_of c.list.new.bank in let s = c.args.symbol in let t = c.in_ok-list.list in
    made_for w (store_of c.appl.new.self) (applied (signature_of w s) (tree_at w t)) Signature (λ g. signature_of v s ≡ Some g) (λ g tree.
    IsApplication v g.name g.quoted c.args.args.now tree) c.appl.result c.appl.ensures.made
    (λ g e. appl_is v w s t c.args.args.now g e c.in_ok-list.ensures.grows c.in_ok-list.ensures.made (c.requires.arity g e))

pub returns-clause-grows : goal.returns-clause-grows
returns-clause-grows c = Grows-trans c.list.ensures.grows (Grows-made (store_of c.list.new.bank) (store_of c.appl.new.self) _ c.appl.result c.appl.ensures.made)

pub returns-clause-added : goal.returns-clause-added
returns-clause-added c =
    still_rests (store_of c.args.bank.now) (store_of c.list.new.bank) (store_of c.appl.new.self) c.args.args.now _ c.appl.result c.list.ensures.added
    c.appl.ensures.made
