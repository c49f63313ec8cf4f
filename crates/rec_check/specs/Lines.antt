-- The lines of findings.
use Rattle.std.specs.Prelude.{ℕ, Bool, true, false, if◌then◌else◌, List, [], ◌∷◌, ◌++◌, codes}
use Rattle.std.specs.Prelude.{decimal, flat_map}
use Rattle.rec_check.specs.Findings.{Found}
use Rattle.rec_check.specs.Spots.{spot_of}
use Rattle.rec_check.specs.declared.finding.Kind.{Kind}
use Rattle.rec_check.specs.declared.finding.Kind.TheVariants.{TooLong, Outside, Broken, NeverTried}
use Rattle.rec_check.specs.declared.finding.Kind.TheVariants.{NeverMatches}
use Rattle.rec_check.specs.declared.finding.Kind.TheVariants.{NotCovered, UnusedSort, UnusedSymbol}
use Rattle.rec_check.specs.declared.finding.Kind.TheVariants.{UnusedVariable, WithoutRules}
use Rattle.rec_check.specs.declared.finding.Rule.{Rule}
use Rattle.rec_check.specs.declared.finding.Rule.TheVariants as rule
use Rattle.rec_check.specs.declared.spots.Spot.{Spot}

-- rule_code r: an error code
abbrev pub rule_code : Rule → List ℕ
rule_code rule.SortTwice = codes "S1"
rule_code rule.SymbolTwice = codes "S2"
rule_code rule.VariableTaken = codes "S3"
rule_code rule.SortUnknown = codes "S4"
rule_code rule.WordUnknown = codes "S5"
rule_code rule.IllFilled = codes "S6"
rule_code rule.IllSorted = codes "S7"
rule_code rule.IllHeaded = codes "S8"
rule_code rule.UnlikeSides = codes "S9"
rule_code rule.Unbound = codes "S10"
rule_code rule.OpenTerm = codes "S11"

-- rule_label r: the description of a violation
abbrev pub rule_label : Rule → List ℕ
rule_label rule.SortTwice = codes "duplicate sort"
rule_label rule.SymbolTwice = codes "duplicate symbol in CONS and OPNS, even with other sorts"
rule_label rule.VariableTaken = codes "duplicate variable, or variable with the name of a symbol"
rule_label rule.SortUnknown = codes "undeclared sort in CONS, OPNS or VARS"
rule_label rule.WordUnknown = codes "undeclared symbol or variable in RULES or EVAL"
rule_label rule.IllFilled = codes "wrong number of arguments of a symbol, or arguments of a variable"
rule_label rule.IllSorted = codes "argument of the wrong sort"
rule_label rule.IllHeaded = codes "left-hand side that does not start with an operator (a symbol of OPNS)"
rule_label rule.UnlikeSides = codes "rule or condition whose two sides have different sorts"
rule_label rule.Unbound = codes "variable that is not in the left-hand side of its rule"
rule_label rule.OpenTerm = codes "variable in an EVAL term"

-- is_error k: errors reject a text, warnings do not
abbrev pub is_error : Kind → Bool
is_error TooLong = true
is_error Outside = true
is_error (Broken r) = true
is_error _ = false

-- severity_of k: whether a finding is an error or a warning
abbrev pub severity_of : Kind → List ℕ
severity_of k = if is_error k then codes "error: " else codes "warning: "

-- code_of k: the code of a finding
abbrev pub code_of : Kind → List ℕ
code_of TooLong = codes "L1"
code_of Outside = codes "G"
code_of (Broken r) = rule_code r
code_of NeverTried = codes "W1"
code_of NeverMatches = codes "W2"
code_of NotCovered = codes "W3"
code_of WithoutRules = codes "W5"
code_of _ = codes "W4"

-- label_of k: the description of a finding
abbrev pub label_of : Kind → List ℕ
label_of TooLong = codes "the text has more than 16777216 bytes"
label_of Outside = codes "syntax error in the specification"
label_of (Broken r) = rule_label r
label_of NeverTried =
    codes "unreachable rule: an earlier rule without conditions matches all that it matches"
label_of NeverMatches = codes "rule cannot match: this argument is rewritten first"
label_of NotCovered = codes "missing case: no left-hand side matches this call"
label_of UnusedSort = codes "unused sort"
label_of UnusedSymbol = codes "unused symbol"
label_of UnusedVariable = codes "unused variable"
label_of WithoutRules = codes "operator without rules: each call of it is stuck"

-- spot_text s: a line and a column, between colons
abbrev pub spot_text : Spot → List ℕ
spot_text s = (codes ":" ++ decimal s.line) ++ (codes ":" ++ decimal s.column) ++ codes ": "

-- shown_text bytes: the detail after a description
abbrev pub shown_text : List ℕ → List ℕ
shown_text [] = []
shown_text (b ∷ bs) = codes ": " ++ b ∷ bs

-- line_at name s f: the line of a finding at this location of the text called `name`, in the form
-- of GNU compilers
abbrev pub line_at : List ℕ → Spot → Found → List ℕ
line_at name s f = name ++ spot_text s ++ (severity_of f.kind ++ label_of f.kind)
    ++ shown_text f.shown ++ (codes " [" ++ code_of f.kind ++ codes "]\n")

-- line_of name text f: the line of a finding in this text
abbrev pub line_of : List ℕ → List ℕ → Found → List ℕ
line_of name text f = line_at name (spot_of text f.at) f

-- lines_of name text fs: the lines of all findings
abbrev pub lines_of : List ℕ → List ℕ → List Found → List ℕ
lines_of name text fs = flat_map (line_of name text) fs
