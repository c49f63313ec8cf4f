use Rattle.std.proofs.Common.{◌≡◌, ◌∙◌, ◌∷◌, [], ℕ, List, Some, None, sym, ap, subst}
use Rattle.rx_term.specs.Name.{Signature}
use Rattle.rx_term.specs.Store.{signature_of, tree_at}
use Rattle.rx_term.specs.Steps.{Keeps}
use Rattle.rx_term.specs.Walks.{AllHeld, held_trees}
use Rattle.rx_term.specs.declared.Term.{Term}
use Rattle.rx_term.proofs.KeepLemmas.{Keeps-trans}
use Rattle.rec_engine.specs.Engine.{IsCallOutcome}
use Rattle.rec_engine.specs.Machine.{called}
use Rattle.psilt_core.specs.Answers.{IsApplication, terms_of}
use Rattle.psilt_core.specs.Banks.{BankState, IsSpecified, store_of}
use Rattle.psilt_core.specs.Calling.{CallsOn, OnCall, broken_by_call}
use Rattle.psilt_core.specs.declared.calling.Call.{Call}
use Rattle.psilt_core.proofs.AnswerLemmas.{all_held}
use Rattle.psilt_core.proofs.CallingLemmas.{has_signature}
use Rattle.psilt_core.proofs.CallLemmas.{breaks, call_told, comes, keeps_on, still_all}
use Rattle.psilt_core.proofs.EvaluatingLemmas.{of_err, of_ok}
use Rattle.psilt_core.proofs.work.Work.call_values.Goals as goal

pub judge-call-requires-clause-values : goal.judge-call-requires-clause-values
judge-call-requires-clause-values c =
    let w = store_of c.args.self.now.bank in
    subst (λ (rs : List Term). AllHeld w rs) (sym c.requires.values) (all_held w c.args.args.now c.requires.args)

pub returns-in-Err-clause-answer : goal.returns-in-Err-clause-answer
returns-in-Err-clause-answer c = λ n at.
    let b = c.args.self.now.bank in let s = c.args.call.symbol in let args = c.args.args.now in
    let g = has_signature (store_of b) s _ c.requires.count in (
      subst (λ (m : ℕ). OnCall b n args (λ y u. broken_by_call y u ≡ Some m)) (sym c.from-self.ensures)
          (breaks b s args g.0 g.1 c.requires.args n c.in-Err.number c.args.call.values.items c.requires.values at
          (of_err _ c.judge-call.result.1 c.in-Err.number c.in-Err.is c.judge-call.ensures.broken)),
      c.judge-call.ensures.same,
    )

pub call-requires-clause-values : goal.call-requires-clause-values
call-requires-clause-values c =
    let b = c.args.self.now.bank in let s = c.args.call.symbol in let args = c.args.args.now in
    let v = store_of c.apply_anyway.new.bank in
    let g = has_signature (store_of b) s _ c.requires.count in
    let keeps = subst (λ (z : BankState). Keeps (store_of z) v (terms_of args)) c.judge-call.ensures.same c.apply_anyway.ensures.keeps in
    subst (λ (rs : List Term). AllHeld v rs) (sym (ap (λ (k : Call). k.values.items) c.judge-call.ensures.call ∙ c.requires.values))
    (still_all b s args g.0 g.1 c.requires.args v keeps)

pub returns-in-Ok-call-clause-answer : goal.returns-in-Ok-call-clause-answer
returns-in-Ok-call-clause-answer c = λ n at.
    let b = c.args.self.now.bank in let s = c.args.call.symbol in let args = c.args.args.now in
    let mid = c.apply_anyway.new.bank in let last = c.call.new.self in let k = c.in-Ok.number in let o = c.in-Ok-call.outcome in
    let g = has_signature (store_of b) s _ c.requires.count in
    let keeps = subst (λ (z : BankState). Keeps (store_of z) (store_of mid) (terms_of args)) c.judge-call.ensures.same c.apply_anyway.ensures.keeps in
    let specified = ap (λ (z : BankState). z.specified) c.apply_anyway.ensures.same ∙ ap (λ (z : BankState). z.specified) c.judge-call.ensures.same in
    let here = subst (λ (it : Call). IsSpecified mid (λ y. IsCallOutcome y (store_of last) c.args.steps (called y k (held_trees (store_of mid) it.values.items)) o))
    c.judge-call.ensures.call c.in-Ok-call.ensures.outcome in
    subst (CallsOn b last n args c.args.steps c.args.self.now.rule) (sym c.value_or_fault.ensures)
    (call_told b last n args c.args.steps c.args.self.now.rule o (comes b s args g.0 g.1 c.requires.args (store_of mid) keeps last n c.args.steps k
    c.args.call.values.items o c.requires.values at (of_ok _ c.judge-call.result.1 k c.in-Ok.is c.judge-call.ensures.number)
    (of_ok _ c.judge-call.result.1 k c.in-Ok.is c.judge-call.ensures.kept) (here.0, sym specified ∙ here.1, here.2)))

pub returns-in-Ok-call-clause-keeps : goal.returns-in-Ok-call-clause-keeps
returns-in-Ok-call-clause-keeps c =
    let b = c.args.self.now.bank in let s = c.args.call.symbol in let args = c.args.args.now in
    let v = store_of c.apply_anyway.new.bank in let z = store_of c.call.new.self in let t = c.in-Ok-apply_anyway.kept in
    let g = has_signature (store_of b) s _ c.requires.count in
    let keeps = subst (λ (x : BankState). Keeps (store_of x) v (terms_of args)) c.judge-call.ensures.same c.apply_anyway.ensures.keeps in
    let made = subst (λ (x : BankState). (h : Signature) → signature_of (store_of x) s ≡ Some h → IsApplication (store_of x) h.name h.quoted args (tree_at v t))
    c.judge-call.ensures.same
    (subst (λ (it : Call). (h : Signature) → signature_of (store_of c.judge-call.new.self) it.symbol ≡ Some h
    → IsApplication (store_of c.judge-call.new.self) h.name h.quoted args (tree_at v t)) c.judge-call.ensures.call c.in-Ok-apply_anyway.ensures.made) in
    Keeps-trans keeps (keeps_on b s args g.0 g.1 c.requires.args v keeps z t (made g.0 g.1) c.call.ensures.keeps)

pub returns-in-Err-call-clause-keeps : goal.returns-in-Err-call-clause-keeps
returns-in-Err-call-clause-keeps c =
    let b = c.args.self.now.bank in let s = c.args.call.symbol in let args = c.args.args.now in
    let v = store_of c.apply_anyway.new.bank in let z = store_of c.call.new.self in let t = c.in-Ok-apply_anyway.kept in
    let g = has_signature (store_of b) s _ c.requires.count in
    let keeps = subst (λ (x : BankState). Keeps (store_of x) v (terms_of args)) c.judge-call.ensures.same c.apply_anyway.ensures.keeps in
    let made = subst (λ (x : BankState). (h : Signature) → signature_of (store_of x) s ≡ Some h → IsApplication (store_of x) h.name h.quoted args (tree_at v t))
    c.judge-call.ensures.same
    (subst (λ (it : Call). (h : Signature) → signature_of (store_of c.judge-call.new.self) it.symbol ≡ Some h
    → IsApplication (store_of c.judge-call.new.self) h.name h.quoted args (tree_at v t)) c.judge-call.ensures.call c.in-Ok-apply_anyway.ensures.made) in
    Keeps-trans keeps (keeps_on b s args g.0 g.1 c.requires.args v keeps z t (made g.0 g.1) c.call.ensures.keeps)
