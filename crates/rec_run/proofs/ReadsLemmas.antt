-- What a fault reports of an input that was read, and of given terms, where there are some.
use Rattle.std.proofs.Common.{◌≡◌, ◌∙◌, Bool, true, false, IsErrAnd, Result, ap, ap₂, refl, sym}
use Rattle.std.specs.Prelude.{◌||◌}
use Rattle.rx_text.specs.declared.input.Input.{Input}
use Rattle.rx_run.specs.Streams.{is_read, returns}
use Rattle.rx_run.specs.declared.ending.RunFault.{RunFault}
use Rattle.rx_run.proofs.ReportLemmas.{returns_on}
use Rattle.rec_run.specs.Run.{ReportsReadsBy, ReportsReadsOf}

-- of three, in another order
or_regrouped : (a b c : Bool) → (a || b) || c ≡ a || (b || c)
or_regrouped true b c = refl
or_regrouped false b c = refl

or_swapped : (a b c : Bool) → a || (b || c) ≡ b || (a || c)
or_swapped true true c = refl
or_swapped true false c = refl
or_swapped false b c = refl

module _ {T : Type 0} (old new : Bool) (r : Result T RunFault) where
  -- the text of the terms could not be read
  pub terms_on : (f : RunFault) → IsErrAnd r (λ e. e ≡ f) → new ≡ (is_read f || old) → ReportsReadsBy old new r
  terms_on f is h = h ∙ ap (λ b. b || old) (sym (returns_on is_read r f is))

  -- it was read, and judged
  pub terms_still : returns is_read r ≡ false → new ≡ old → ReportsReadsBy old new r
  terms_still none h = h ∙ ap (λ b. b || old) (sym none)

module _ {R T : Type 0} (old new : Input R) (terms terms' : Bool) (r : Result T RunFault) where
  -- the first text could not be read, and the terms were not
  pub reads_first : (f : RunFault) → IsErrAnd r (λ e. e ≡ f) → new.refused ≡ (is_read f || old.refused) → terms' ≡ terms
      → ReportsReadsOf old new terms terms' r
  reads_first f is h same = ap₂ (λ a b. a || b) (h ∙ ap (λ b. b || old.refused) (sym (returns_on is_read r f is))) same
      ∙ or_regrouped (returns is_read r) old.refused terms

  -- it was read, and this came of the terms
  pub reads_second : new.refused ≡ old.refused → ReportsReadsBy terms terms' r → ReportsReadsOf old new terms terms' r
  reads_second h k = ap₂ (λ a b. a || b) h k ∙ or_swapped old.refused (returns is_read r) terms

  -- both were read, and nothing was read since
  pub reads_over : (new.refused || terms') ≡ (old.refused || terms) → returns is_read r ≡ false → ReportsReadsOf old new terms terms' r
  reads_over h none = h ∙ ap (λ b. b || (old.refused || terms)) (sym none)
