-- Which rewrites a trace shows.
--     is_picked source p f   a rewrite is selected
--     shown_lines p ls       of the lines of selected rewrites, the ones that are written
use Rattle.std.specs.Prelude.{ℕ, zero, suc, ◌-◌, ◌%◌, ◌==◌, ◌&&◌, Bool, true, false, List, [], ◌∷◌}
use Rattle.std.specs.Prelude.{◌++◌, Option}
use Rattle.std.specs.Prelude.{Some, None, bytes_eq, codes, decimal, drop, length, option_map, take}
use Rattle.std.specs.Prelude.{if◌then◌else◌}
use Rattle.rx_term.specs.Tree.{Tree, Appl}
use Rattle.rec_trace.specs.Lines.{rule_spot}
use Rattle.rec_trace.specs.Trace.{Firing}
use Rattle.rec_trace.specs.declared.lines.Spot.{Spot}
use Rattle.rec_trace_run.specs.declared.picked.Picked.{Picked}
use Rattle.rec_trace_run.specs.declared.picked.RulePlace.{RulePlace}

-- a selection: the location of the rule, the symbol of the call that is rewritten, and the numbers
-- of lines at the beginning and at the end
pub record Picks : Type 0 where
  pub place : Option RulePlace
  pub symbol : Option (List ℕ)
  pub first : Option ℕ
  pub last : Option ℕ

-- the selection of an option
abbrev pub picks_by : Picked → Picks
picks_by p = record {
  place = p.place;
  symbol = option_map (λ s. s.now) p.symbol;
  first = p.first;
  last = p.last;
}

-- the selection of all rewrites
abbrev pub all_picked : Picks
all_picked = record { place = None; symbol = None; first = None; last = None }

-- a test of the selected item holds; true if no item is selected
abbrev pub where_asked : {X : Type 0} → (X → Bool) → Option X → Bool
where_asked holds None = true
where_asked holds (Some x) = holds x

-- a location is the selected one
abbrev pub is_at : Spot → RulePlace → Bool
is_at spot place = (spot.line == place.line) && (spot.column == place.column)

-- a tree is a call of a symbol of this name
abbrev pub is_call_of : Tree → List ℕ → Bool
is_call_of (Appl own quoted args anns) name = bytes_eq own name
is_call_of t name = false

-- a rewrite is selected, by the location of its rule and by the symbol of its redex
abbrev pub is_picked : List ℕ → Picks → Firing → Bool
is_picked source p f = where_asked (is_at (rule_spot source f.found.rule)) p.place
    && where_asked (is_call_of f.redex) p.symbol

-- the number of lines that are shown at the beginning: `first`; without it, all `k` if there is no
-- `last`, otherwise none
abbrev pub front_count : Picks → ℕ → ℕ
front_count p k = elim p.first [
  | Some n ↦ n
  | None ↦ elim p.last [ Some n ↦ 0 | None ↦ k ]
]

-- the largest number of lines that are shown at the end
abbrev pub back_count : Picks → ℕ
back_count p = elim p.last [ Some n ↦ n | None ↦ 0 ]

-- the lines that are shown at the beginning
abbrev pub front_lines : Picks → List (List ℕ) → List (List ℕ)
front_lines p ls = take (front_count p (length ls)) ls

-- the lines after these
abbrev pub rest_lines : Picks → List (List ℕ) → List (List ℕ)
rest_lines p ls = drop (front_count p (length ls)) ls

-- the number of lines that are left out
abbrev pub left_out_count : Picks → List (List ℕ) → ℕ
left_out_count p ls = length (rest_lines p ls) - back_count p

-- a `,` if the number of digits that follow is three, six and so on
abbrev pub comma : ℕ → List ℕ
comma zero = []
comma (suc k) = if suc k % 3 == 0 then codes "," else []

-- digits with a `,` between groups of three, counted from the end
abbrev pub by_threes : List ℕ → List ℕ
by_threes [] = []
by_threes (d ∷ ds) = d ∷ (comma (length ds) ++ by_threes ds)

-- the line that reports how many lines are left out; none for zero
abbrev pub more_line : ℕ → List (List ℕ)
more_line zero = []
more_line (suc k) = (codes "... " ++ by_threes (decimal (suc k)) ++ codes " more\n") ∷ []

-- all that follows the lines at the beginning: how many are left out, and the last lines
abbrev pub last_lines : Picks → List (List ℕ) → List (List ℕ)
last_lines p ls = more_line (left_out_count p ls) ++ drop (left_out_count p ls) (rest_lines p ls)

-- of the lines of all selected rewrites, the ones that are written
abbrev pub shown_lines : Picks → List (List ℕ) → List (List ℕ)
shown_lines p ls = front_lines p ls ++ last_lines p ls
