-- What is passed in is marked and gray, one after the other.
use Rattle.std.proofs.Common.{◌≡◌, List, [], ◌∷◌, ◌++◌, ◌⊎◌, inl, inr, sym, ap, subst, ◌∙◌}
use Rattle.std.proofs.lemmas.List.Elements.{Contains-append_left, Contains-append_right, Contains-append_cases}
use Rattle.rx_term.proofs.PartsLemmas.{cons_head, cons_cases, no_element}
use Rattle.rx_term.specs.declared.Term.{Term}
use Rattle.rx_arena.specs.Arena.{ArenaState}
use Rattle.rx_sweep.specs.Inner.Marking.{Marks}
use Rattle.rx_sweep.proofs.MarkStepLemmas.{marks_then, marks_by}
use Rattle.rx_shared.specs.Tidy.{IsOneOf}

pub marks_more : (a z y : ArenaState) (rs ss : List Term) (r : Term) → ss ≡ rs ++ r ∷ [] → Marks a z (IsOneOf rs) → Marks z y (λ s. s ≡ r.0)
    → Marks a y (IsOneOf ss)
marks_more a z y rs ss r e m n =
    subst (λ ts. Marks a y (IsOneOf ts)) (sym e) (marks_by a y (λ s. IsOneOf rs s ⊎ (s ≡ r.0)) (IsOneOf (rs ++ r ∷ []))
    (λ s h. elim h [
      | inl p ↦ (p.0, Contains-append_left rs (r ∷ []) p.0 p.1, p.2)
      | inr p ↦ (r, Contains-append_right rs (r ∷ []) r (cons_head r []), sym p)
    ])
    (λ s h. elim (Contains-append_cases rs (r ∷ []) h.0 h.1) [
      | inl p ↦ inl (h.0, p, h.2)
      | inr p ↦ elim (cons_cases r [] h.0 p) [ inl q ↦ inr (sym h.2 ∙ ap (λ t. t.0) (sym q)) | inr q ↦ absurd (no_element _ q) ]
    ])
    (marks_then a z y (IsOneOf rs) (λ s. s ≡ r.0) m n))
