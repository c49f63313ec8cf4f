use Rattle.std.proofs.Common.{◌∙◌, List, sym, subst}
use Rattle.rx_term.specs.Steps.{Keeps, Reclaims}
use Rattle.rx_term.specs.Walks.{AllHeld}
use Rattle.rx_term.specs.declared.Term.{Term}
use Rattle.rx_term.proofs.KeepLemmas.{Keeps-Reclaims, Keeps-trans, still-held}
use Rattle.psilt_core.specs.Answers.{terms_of}
use Rattle.psilt_core.specs.Banks.{store_of}
use Rattle.psilt_core.proofs.AnswerLemmas.{all_held}
use Rattle.psilt_core.proofs.ArgumentLemmas.{all_there, beside_named, call_filled, grown_all, made_again}
use Rattle.psilt_core.proofs.EvaluatingLemmas.{keeps_grown}
use Rattle.psilt_core.proofs.calling.apply_anyway.Goals as goal

pub reclaim-requires : goal.reclaim-requires
reclaim-requires c =
    let w = store_of c.args.bank.now in let v = store_of c.apply_symbol.new.bank in let args = c.args.args.now in
    subst (λ (rs : List Term). AllHeld v rs) (sym (c.deref.ensures.value ∙ c.requires.values))
    (grown_all w v (terms_of args) c.apply_symbol.ensures.grows (all_held w args c.requires.args))

pub apply_symbol-requires-in-Err-Full-clause-args : goal.apply_symbol-requires-in-Err-Full-clause-args
apply_symbol-requires-in-Err-Full-clause-args c =
    let w = store_of c.args.bank.now in let v = store_of c.apply_symbol.new.bank in let x = store_of c.reclaim.new.self in let args = c.args.args.now in
    let k = subst (λ (rs : List Term). Keeps v x rs) (c.deref.ensures.value ∙ c.requires.values) (Keeps-Reclaims c.reclaim.ensures.reclaims) in
    all_there x args (still-held k (grown_all w v (terms_of args) c.apply_symbol.ensures.grows (all_held w args c.requires.args)))

pub returns-in-Err-Full-clause-keeps : goal.returns-in-Err-Full-clause-keeps
returns-in-Err-Full-clause-keeps c =
    let w = store_of c.args.bank.now in let v = store_of c.apply_symbol.new.bank in let x = store_of c.reclaim.new.self in let args = c.args.args.now in
    let z = store_of c.apply_symbol-in-Err-Full.new.bank in
    let k = subst (λ (rs : List Term). Keeps v x rs) (c.deref.ensures.value ∙ c.requires.values) (Keeps-Reclaims c.reclaim.ensures.reclaims) in
    let first = c.apply_symbol.ensures in let second = c.apply_symbol-in-Err-Full.ensures in
    Keeps-trans (Keeps-trans (keeps_grown w v (terms_of args) first.grows (beside_named w v first.grows first.named)) k)
    (keeps_grown x z (terms_of args) second.grows (beside_named x z second.grows second.named))

pub returns-in-Err-Full-clause-made : goal.returns-in-Err-Full-clause-made
returns-in-Err-Full-clause-made c =
    let w = store_of c.args.bank.now in let v = store_of c.apply_symbol.new.bank in let x = store_of c.reclaim.new.self in let args = c.args.args.now in
    let z = store_of c.apply_symbol-in-Err-Full.new.bank in
    let k = subst (λ (rs : List Term). Keeps v x rs) (c.deref.ensures.value ∙ c.requires.values) (Keeps-Reclaims c.reclaim.ensures.reclaims) in
    let first = c.apply_symbol.ensures in
    made_again w x z c.args.call.now.symbol args c.apply_symbol-in-Err-Full.result
    (Keeps-trans (keeps_grown w v (terms_of args) first.grows (beside_named w v first.grows first.named)) k) (all_held w args c.requires.args)
    c.apply_symbol-in-Err-Full.ensures.made

pub returns-in-Err-Full-clause-full : goal.returns-in-Err-Full-clause-full
returns-in-Err-Full-clause-full c =
    let v = store_of c.apply_symbol.new.bank in let x = store_of c.reclaim.new.self in let z = store_of c.apply_symbol-in-Err-Full.new.bank in
    let second = c.apply_symbol-in-Err-Full.ensures in
    call_filled v x z c.args.args.now c.apply_symbol-in-Err-Full.result
    (subst (λ (rs : List Term). Reclaims v x rs) (c.deref.ensures.value ∙ c.requires.values) c.reclaim.ensures.reclaims) second.grows
    (beside_named x z second.grows second.named) second.full second.added
