use Rattle.std.proofs.Common.{refl, ap, cond, length, rules, subst, sym, take, ◌∙◌, ◌∷◌, []}
use Rattle.std.proofs.Math.Seq.{take-append_seam}
use Rattle.std.specs.Prelude.{◌≡◌, Bool, true, false, Some, None, IfSome, option_map}
use Rattle.std.specs.Bool.{then_some}
use Rattle.rec_check.specs.Inner.Trials.{AreSizes, Asks, Binds}
use Rattle.rec_check.proofs.TrialLemmas.{ask_nothing, ask_symbol, ask_variable}
use Rattle.rec_check.proofs.matching.ask.Goals as goal

-- what a test lets through
seen : {X Y : Type 0} (f : X → Y) (b : Bool) (x : X) (y : Y) → f x ≡ y → cond b (Some y) None ≡ option_map f (then_some b x)
seen f true x y e = ap Some (sym e)
seen f false x y e = refl

let_through : {X : Type 0} (P : X → Type 0) (b : Bool) (x : X) → P x → IfSome (then_some b x) P
let_through P true x h = h
let_through P false x h = tt

pub returns-in_default-clause-asks : goal.returns-in_default-clause-asks
returns-in_default-clause-asks c = ask_nothing c.args.letter c.args.terms.letters.now c.args.values.now (search rules)

pub returns-in-Symbol : goal.returns-in-Symbol
returns-in-Symbol c =
    let v = c.args.values.now in
    let terms = c.args.terms.letters.now in
    let others = c.in-Some.others.now in
    let last = c.in-Some.last.now in
    let b = c.same_letter.result in
    let split = c.in-Some.ensures.cases.0 in
    record {
      asks = subst (Asks c.args.letter terms v v)
          (seen (λ p. p.letters.now) b c.split_at.result.0 others (c.split_at.ensures.front ∙ ap (λ ls. take (length others) ls) split
          ∙ take-append_seam others (last ∷ [])) ∙ ap (option_map (λ p. p.letters.now)) (sym c.then_some.ensures))
          (ask_symbol c.args.letter c.in-Symbol.field-0 terms others last v b c.in-Symbol.is split c.same_letter.ensures.same c.same_letter.ensures.other);
      sizes = subst (λ o. IfSome o (λ p. AreSizes p.letters.now p.sizes.now)) (sym c.then_some.ensures)
          (let_through (λ p. AreSizes p.letters.now p.sizes.now) b c.split_at.result.0 c.split_at.ensures.front_sizes);
    }

pub returns-in_ok-bind-in-Variable : goal.returns-in_ok-bind-in-Variable
returns-in_ok-bind-in-Variable c =
    let old = c.args.values.now in
    let new = c.bind.new.self in
    let found = c.in_ok-bind-in-Variable.field-0 in
    let terms = c.args.terms.letters.now in
    let cut = c.split_at-in-Variable in
    record {
      asks = subst (Asks c.args.letter terms old new)
          (seen (λ p. p.letters.now) found cut.result.0 (take c.before_last.result terms) cut.ensures.front
          ∙ ap (option_map (λ p. p.letters.now)) (sym c.then_some-in-Variable.ensures))
          (ask_variable c.args.letter c.in-Variable.variable c.before_last.result terms old new found c.in-Variable.is (search rules)
          c.before_last.ensures.split
          (subst (λ part. Binds c.in-Variable.variable part old new found) cut.ensures.back c.in_ok-bind-in-Variable.ensures));
      sizes = subst (λ o. IfSome o (λ p. AreSizes p.letters.now p.sizes.now)) (sym c.then_some-in-Variable.ensures)
          (let_through (λ p. AreSizes p.letters.now p.sizes.now) found cut.result.0 cut.ensures.front_sizes);
    }
