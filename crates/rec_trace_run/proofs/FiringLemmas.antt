-- The lines of a term's selected rewrites in three parts.
use Rattle.std.proofs.Common.{sym, ap, ap₂, ◌∙◌}
use Rattle.std.specs.Prelude.{ℕ, ◌≡◌, List, ◌++◌, drop}
use Rattle.rec_trace.specs.Lines.{joined}
use Rattle.rec_trace_run.specs.Picks.{Picks, front_lines, last_lines, left_out_count, more_line, rest_lines, shown_lines}
use Rattle.rec_trace_run.proofs.TellingLemmas.{joined-append}

-- those at the beginning, the one that reports how many are left out, and those at the end
pub shown-parts : (p : Picks) (ls front back : List (List ℕ)) (left_out : ℕ) → front ≡ front_lines p ls → left_out ≡ left_out_count p ls
    → back ≡ drop (left_out_count p ls) (rest_lines p ls)
    → joined front ++ (joined (more_line left_out) ++ joined back) ≡ joined (shown_lines p ls)
shown-parts p ls front back left_out f m b =
    ap₂ (λ (x y : List ℕ). x ++ y) (ap joined f)
    (ap₂ (λ (k : ℕ) (xs : List (List ℕ)). joined (more_line k) ++ joined xs) m b
    ∙ sym (joined-append (more_line (left_out_count p ls)) (drop (left_out_count p ls) (rest_lines p ls))))
    ∙ sym (joined-append (front_lines p ls) (last_lines p ls))
