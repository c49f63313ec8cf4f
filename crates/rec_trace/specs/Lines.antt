-- The output of a trace: a line for each rewrite, and then the line of the term.
use Rattle.std.specs.Prelude.{ℕ, suc, ◌-◌, ◌^◌, ◌≡◌, ◌<◌, ◌&&◌, Bool, true, false, List, [], ◌∷◌}
use Rattle.std.specs.Prelude.{◌++◌, Option, Some}
use Rattle.std.specs.Prelude.{None, codes, decimal, flat_map, if◌then◌else◌, length, map, nat_eq}
use Rattle.std.specs.Prelude.{nat_le, take}
use Rattle.rx_term.specs.Tree.{Tree, Trees, annotated}
use Rattle.rx_text.specs.Canon.{canon}
use Rattle.rec_syntax.specs.Syntax.{Rule, Term, Spec, head}
use Rattle.rec_sorts.specs.Binding.{application, tree_of}
use Rattle.rec_sorts.specs.Evaluation.{Outcome, Done, Over}
use Rattle.rec_trace.specs.Trace.{Firing, Trace}
use Rattle.rec_trace.specs.declared.lines.Spot.{Spot}

-- ends_in text: the number of line ends
abbrev pub ends_in : List ℕ → ℕ
ends_in [] = 0
ends_in (b ∷ bs) = elim (nat_eq b 10) [ true ↦ suc (ends_in bs) | false ↦ ends_in bs ]

-- behind_end k text: the number of bytes after the last line end, with `k` bytes before the text
abbrev pub behind_end : ℕ → List ℕ → ℕ
behind_end k [] = k
behind_end k (b ∷ bs) =
    elim (nat_eq b 10) [ true ↦ behind_end 0 bs | false ↦ behind_end (suc k) bs ]

-- cut width text: a text of more than `width` bytes ends in three dots
abbrev pub cut : Option ℕ → List ℕ → List ℕ
cut None text = text
cut (Some width) text = if nat_le (length text) width then text
    else take (width - 3) text ++ codes "..."

-- place_text line column: a line and a column, each followed by a `:`, and a space
abbrev pub place_text : ℕ → ℕ → List ℕ
place_text line column = decimal line ++ codes ":" ++ decimal column ++ codes ": "

-- spent_text counted spent: a tab and the number of steps spent, if `counted`
abbrev pub spent_text : Bool → ℕ → List ℕ
spent_text false spent = []
spent_text true spent = codes "\t" ++ decimal spent

-- firing_text ..: the location of the rule, the redex and the contractum
abbrev pub firing_text : ℕ → ℕ → Bool → Option ℕ → ℕ → Tree → Tree → List ℕ
firing_text line column counted width spent u v = place_text line column ++ cut width (canon u)
    ++ codes " -> " ++ cut width (canon v) ++ spent_text counted spent ++ codes "\n"

-- whole_text ..: the location of the rule, and the whole term
abbrev pub whole_text : ℕ → ℕ → Bool → Option ℕ → ℕ → Tree → List ℕ
whole_text line column counted width spent u = place_text line column ++ cut width (canon u)
    ++ spent_text counted spent ++ codes "\n"

-- line_of source at: the line, from 1, of an offset in a text
abbrev pub line_of : List ℕ → ℕ → ℕ
line_of source at = suc (ends_in (take at source))

-- column_of source at: the column, from 1, of an offset in a text
abbrev pub column_of : List ℕ → ℕ → ℕ
column_of source at = suc (behind_end 0 (take at source))

-- spot_at source at: the location of an offset
abbrev pub spot_at : List ℕ → ℕ → Spot
spot_at source at = record { line = line_of source at; column = column_of source at }

-- rule_spot source r: the location at which a rule begins
abbrev pub rule_spot : List ℕ → Rule → Spot
rule_spot source r = spot_at source (head r.left).at

-- firing_line ..: the line of a rewrite, at the location of the rule's left-hand side
abbrev pub firing_line : List ℕ → Bool → Option ℕ → ℕ → Firing → List ℕ
firing_line source counted width n f =
    let at = (head f.found.rule.left).at in
    firing_text (line_of source at) (column_of source at) counted width (n - f.left) f.redex
    f.contractum

-- whole_line ..: the line of a rewrite, at the location of the rule's left-hand side, with the
-- whole term after it
abbrev pub whole_line : List ℕ → Bool → Option ℕ → ℕ → Firing → List ℕ
whole_line source counted width n f =
    let at = (head f.found.rule.left).at in
    whole_text (line_of source at) (column_of source at) counted width (n - f.left) f.after

-- value_line counted n notes o: the line of the term, as evaluation writes it
abbrev pub value_line : Bool → ℕ → Trees → Outcome Tree → List ℕ
value_line counted n notes (Done v left) = canon (annotated v notes)
    ++ spent_text counted (n - left) ++ codes "\n"
value_line counted n notes Over = codes "!limit " ++ decimal n ++ codes "\n"

-- term_lines ..: the lines of a term: with whole terms the term itself first, at `0:0:`; those of
-- the rewrites; and that of the outcome
abbrev pub term_lines : List ℕ → Spec → Bool → Bool → Option ℕ → ℕ → Term → Trees → List (List ℕ)
term_lines source y whole counted width n t notes =
    let trace = Trace y n t in
    elim whole [
      | true ↦ whole_text 0 0 false width 0 (tree_of t)
          ∷ map (whole_line source counted width n) trace.firings
      | false ↦ map (firing_line source counted width n) trace.firings
    ] ++ value_line counted n notes trace.outcome ∷ []

-- joined lines: lines, one after another
abbrev pub joined : List (List ℕ) → List ℕ
joined lines = flat_map (λ l. l) lines

-- trace_text ..: all that a trace writes for a term
abbrev pub trace_text : List ℕ → Spec → Bool → Bool → Option ℕ → ℕ → Term → Trees → List ℕ
trace_text source y whole counted width n t notes =
    joined (term_lines source y whole counted width n t notes)

-- begins_with_digit text: the text begins with a digit
abbrev pub begins_with_digit : List ℕ → Bool
begins_with_digit [] = false
begins_with_digit (b ∷ bs) = nat_le 48 b && nat_le b 57

-- ValueLineLaw: the line of a value or of a limit does not begin with a digit; a value is an
-- application
abbrev pub ValueLineLaw : Type 0
ValueLineLaw = (counted : Bool) (n left : ℕ) (name : List ℕ) (ts notes : Trees)
    → (begins_with_digit (value_line counted n notes (Done (application name ts) left)) ≡ false)
    × (begins_with_digit (value_line counted n notes Over) ≡ false)

-- FiringLineLaw: the line of a rewrite begins with a digit
abbrev pub FiringLineLaw : Type 0
FiringLineLaw = (source : List ℕ) (counted : Bool) (width : Option ℕ) (n : ℕ) (f : Firing)
    → length source < 2 ^ 63
    → (begins_with_digit (firing_line source counted width n f) ≡ true)
    × (begins_with_digit (whole_line source counted width n f) ≡ true)
