use Rattle.std.proofs.Common.{◌<◌, ◌≤◌, ◌⊎◌, inl, inr, ℕ, length, ap, subst, sym}
use Rattle.rx_term.proofs.HeapLemmas.{lt_or_le}
use Rattle.rec_sorts.specs.SpecRules.{Grammar}
use Rattle.rec_run.specs.Reading.{IsSpecRead}
use Rattle.rec_run.specs.Reading.{refused_spec}
use Rattle.rec_run.proofs.spec.reading.judge.Goals as goal

not_more : (n : ℕ) → ((16777216 < n) ⊎ (n ≤ 16777216)) → (16777216 < n → ⊥) → n ≤ 16777216
not_more n (inl more) never = absurd (never more)
not_more n (inr less) never = less

pub returns-in-Err-Grammar-clause-verdict : goal.returns-in-Err-Grammar-clause-verdict
returns-in-Err-Grammar-clause-verdict c =
    let at = c.in-Err-Grammar.at in
    let long = rw c.in-Err-Grammar.field-0-is at c.in-Err-Grammar.ensures.long in
    let short = not_more (length c.args.text.items) (lt_or_le 16777216 (length c.args.text.items)) (λ more. let e = long.1 more in cc e) in
    subst (IsSpecRead c.args.text.items) (sym c.refused-in-Err-Grammar.ensures) (
      Grammar at,
      (short, rw c.in-Err-Grammar.field-0-is at c.in-Err-Grammar.ensures.place),
      ap (λ (n : ℕ). refused_spec (Grammar n)) (sym c.in-Err-Grammar.at-is),
    )
