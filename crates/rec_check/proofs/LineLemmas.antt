-- Lines of findings, one after the other.
use Rattle.std.proofs.Common.{◌≡◌, ℕ, List, [], sym, ap, ◌∙◌, take, drop, get_or, length}
use Rattle.std.proofs.lemmas.List.{append-nil, take_all, take_more, take-append-drop}
use Rattle.std.proofs.lemmas.List.Concat.{flat_map-append}
use Rattle.std.specs.Prelude.{◌<◌, ◌≤◌, ◌+◌, ◌∷◌, ◌++◌}
use Rattle.rec_sorts.proofs.StackLemmas.{map-append}
use Rattle.rec_sorts.proofs.TurnLemmas.{drop-turn}
use Rattle.rec_check.specs.Findings.{as_diagnostic, as_diagnostics}
use Rattle.rec_check.specs.Lines.{line_at, line_of, lines_of}
use Rattle.rec_check.specs.Spots.{spot_of}
use Rattle.rec_check.specs.declared.finding.Diagnostic.{Diagnostic}
use Rattle.rec_check.specs.declared.spots.Spot.{Spot}

module _ (name text : List ℕ) where
  lines-append : (xs ys : List Diagnostic) → lines_of name text (as_diagnostics (xs ++ ys)) ≡ lines_of name text (as_diagnostics xs) ++ lines_of name text
      (as_diagnostics ys)
  lines-append xs ys = ap (lines_of name text) (map-append as_diagnostic xs ys) ∙ flat_map-append (line_of name text) (as_diagnostics xs) (as_diagnostics ys)

  -- one line more
  pub lines_turn : (xs : List Diagnostic) (i : ℕ) (x : Diagnostic) (spot : Spot) → i < length xs → x ≡ get_or xs i x → spot ≡ spot_of text x.at
      → lines_of name text (as_diagnostics (take i xs)) ++ line_at name spot (as_diagnostic x) ≡ lines_of name text (as_diagnostics (take (i + 1) xs))
  lines_turn xs i x spot h is e =
      ap (λ (s : Spot). lines_of name text (as_diagnostics (take i xs)) ++ line_at name s (as_diagnostic x)) e
      ∙ ap (λ ls. lines_of name text (as_diagnostics (take i xs)) ++ ls) (sym (append-nil (line_of name text (as_diagnostic x))))
      ∙ sym (lines-append (take i xs) (x ∷ []))
      ∙ ap (λ (d : Diagnostic). lines_of name text (as_diagnostics (take i xs ++ d ∷ []))) is
      ∙ ap (λ ys. lines_of name text (as_diagnostics ys)) (sym (take_more xs i x h))

  -- all lines are those so far, one more, and the others
  pub lines_rest : (xs : List Diagnostic) (i : ℕ) (x : Diagnostic) (spot : Spot) → i < length xs → x ≡ get_or xs i x → spot ≡ spot_of text x.at
      → lines_of name text (as_diagnostics xs) ≡ lines_of name text (as_diagnostics (take i xs))
      ++ (line_at name spot (as_diagnostic x) ++ lines_of name text (as_diagnostics (drop (i + 1) xs)))
  lines_rest xs i x spot h is e =
      ap (λ ys. lines_of name text (as_diagnostics ys)) (sym (take-append-drop i xs))
      ∙ lines-append (take i xs) (drop i xs)
      ∙ ap (λ ys. lines_of name text (as_diagnostics (take i xs)) ++ lines_of name text (as_diagnostics ys)) (drop-turn xs i x h)
      ∙ ap (λ (d : Diagnostic). lines_of name text (as_diagnostics (take i xs))
      ++ lines_of name text (as_diagnostics (d ∷ drop (i + 1) xs))) (sym is)
      ∙ ap (λ (s : Spot). lines_of name text (as_diagnostics (take i xs))
      ++ (line_at name s (as_diagnostic x) ++ lines_of name text (as_diagnostics (drop (i + 1) xs)))) (sym e)

  pub lines_end : (xs : List Diagnostic) (i : ℕ) → length xs ≤ i → lines_of name text (as_diagnostics (take i xs)) ≡ lines_of name text (as_diagnostics xs)
  lines_end xs i past = ap (λ ys. lines_of name text (as_diagnostics ys)) (take_all i xs past)
