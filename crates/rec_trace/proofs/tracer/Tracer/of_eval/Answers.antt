use Rattle.std.proofs.Common.{◌<◌, arith, get_or, length, slice_get, subst, sym}
use Rattle.std.specs.Prelude.{◌≡◌, IfSome, List, [], Vec}
use Rattle.std.specs.declared.alloc.Global.{Global}
use Rattle.std.proofs.lemmas.Option.{slice_get-get_or}
use Rattle.rec_syntax.specs.Syntax as X
use Rattle.rec_syntax.specs.Syntax.{Spec}
use Rattle.rec_sorts.specs.Binding.{tree_of}
use Rattle.rec_sorts.specs.Numbering.{AreLetters}
use Rattle.rec_sorts.specs.declared.letters.Letter.{Letter}
use Rattle.rec_match.proofs.LetterLemmas.{pair-at}
use Rattle.rec_engine.specs.Inner.Made.{MakesOne}
use Rattle.rec_engine.proofs.EngineLemmas.{row-makes, rows-long}
use Rattle.rec_trace.specs.Trace.{Trace}
use Rattle.rec_trace.specs.Tracing.{Stands, rest_of, whole_of}
use Rattle.rec_trace.proofs.BeginLemmas.{Begins, is-new, new-stands}
use Rattle.rec_trace.proofs.tracer.Tracer.of_eval.Given as given
use Rattle.rec_trace.proofs.tracer.Tracer.of_eval.Goals.{After-new}
use Rattle.rec_trace.proofs.tracer.Tracer.of_eval.Goals as goal

no_term : X.Term
no_term = X.Apply (record { at = 0; bytes = [] }) X.none

abbrev items : Vec Letter Global → List Letter
items v = v.items

pub bounds-terms-i : goal.bounds-terms-i
bounds-terms-i g c =
    let long = rows-long items c.checked.result.now.spec c.terms.result.now c.terms.ensures.letters in
    let within = subst (λ (z : Spec). c.args.i < length z.terms) (sym c.checked.ensures) c.requires in
    omega (arith, long, within)

pub ground_steps-requires : goal.ground_steps-requires
ground_steps-requires g c =
    let y = c.checked.result.now.spec in
    let within = subst (λ (z : Spec). c.args.i < length z.terms) (sym c.checked.ensures) c.requires in
    let made = row-makes items y c.terms.result.now c.terms.ensures.letters c.terms.ensures.kept c.args.i within c.index-terms-i.result
    c.index-terms-i.is no_term in
    (y, (subst (λ ls. MakesOne y ls (tree_of (get_or y.terms c.args.i no_term))) (sym c.deref.ensures.value) made).applied)

-- the term is one of the specification's
within : (g : given.Over) (c : After-new g) → c.args.i < length c.checked.result.now.spec.terms
within g c = subst (λ (z : Spec). c.args.i < length z.terms) (sym c.checked.ensures) c.requires

-- its trace begins
begun : (g : given.Over) (c : After-new g)
    → Begins c.checked.result.now.spec (g.B.TermBank.store c.none.new.engine.bank) c.new.result c.args.n
    (get_or c.checked.result.now.spec.terms c.args.i no_term)
begun g c =
    let y = c.checked.result.now.spec in
    let term = get_or y.terms c.args.i no_term in
    let made = subst (λ ls. MakesOne y ls (tree_of term)) (sym c.deref.ensures.value)
    (row-makes items y c.terms.result.now c.terms.ensures.letters c.terms.ensures.kept c.args.i (within g c) c.index-terms-i.result c.index-terms-i.is
    no_term) in
    let letters = subst (λ ls. AreLetters y ls term) (sym c.deref.ensures.value)
    (subst (λ x. AreLetters y (items x) term) (sym c.index-terms-i.is)
    (pair-at (λ v t. AreLetters y (items v) t) c.terms.result.now y.terms c.terms.ensures.letters c.args.i c.index-terms-i.result no_term (within g c))) in
    let of = c.in_ok-saved.ensures in
    new-stands y (g.B.TermBank.store c.none.new.engine.bank) c.new.result c.in_ok-steps.steps.items c.args.n c.deref.result.now term c.terms.ensures.kept
    (is-new (g.B.TermBank.store c.none.new.engine.bank) c.new.result c.of_steps.result c.in_ok-steps.steps c.in_ok-saved.saved c.args.n c.new.ensures.row
    c.new.ensures.saved c.new.ensures.left c.of_steps.ensures.steps c.of_steps.ensures.values c.of_steps.ensures.low of.kept of.none of.count)
    (c.in_ok-steps.ensures.row y made.applied) letters

pub returns-clause-stands : goal.returns-clause-stands
returns-clause-stands g c = subst (λ z. Stands z (g.B.TermBank.store c.none.new.engine.bank) c.new.result) c.checked.ensures
    (begun g (goal.at.returns-clause-stands g c).After-new).stands

pub returns-clause-begins : goal.returns-clause-begins
returns-clause-begins g c =
    let y = c.checked.result.now.spec in
    let w = g.B.TermBank.store c.none.new.engine.bank in
    let at = (goal.at.returns-clause-begins g c).After-new in
    subst (λ (z : Spec). IfSome (slice_get z.terms c.args.i) (λ t. rest_of z w c.new.result ≡ Trace z c.args.n t)) c.checked.ensures
    (subst (λ o. IfSome o (λ t. rest_of y w c.new.result ≡ Trace y c.args.n t)) (sym (slice_get-get_or y.terms c.args.i no_term (within g at)))
    (begun g at).begins)

pub returns-clause-whole : goal.returns-clause-whole
returns-clause-whole g c =
    let y = c.checked.result.now.spec in
    let w = g.B.TermBank.store c.none.new.engine.bank in
    let at = (goal.at.returns-clause-whole g c).After-new in
    subst (λ (z : Spec). IfSome (slice_get z.terms c.args.i) (λ t. whole_of z w c.new.result ≡ tree_of t)) c.checked.ensures
    (subst (λ o. IfSome o (λ t. whole_of y w c.new.result ≡ tree_of t)) (sym (slice_get-get_or y.terms c.args.i no_term (within g at)))
    (begun g at).whole)
