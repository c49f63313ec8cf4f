-- Lookup in the declarations of a specification.
use Rattle.std.specs.Prelude.{ℕ, Bool, true, false, ◌||◌, List, [], ◌∷◌, ◌++◌, Option, Some, None}
use Rattle.std.specs.Prelude.{map, flat_map, bytes_eq}
use Rattle.rec_syntax.specs.Tokens.{Word}
use Rattle.rec_syntax.specs.Syntax.{Term, Terms, none, more, Declaration, Variables, Condition}
use Rattle.rec_syntax.specs.Syntax.{Rule, Spec, head}

-- mentions ws name: one of the names has these bytes
abbrev pub mentions : List Word → List ℕ → Bool
mentions [] name = false
mentions (w ∷ ws) name = bytes_eq w.bytes name || mentions ws name

-- repeated before ws: the names that equal one before them
abbrev pub repeated : List Word → List Word → List Word
repeated before [] = []
repeated before (w ∷ ws) = elim (mentions before w.bytes) [
  | true ↦ w ∷ repeated before ws
  | false ↦ repeated (w ∷ before) ws
]

-- places ws: the offsets of names
abbrev pub places : List Word → List ℕ
places ws = map (λ w. w.at) ws

-- symbols y: the declarations of the symbols, in the order of the text
abbrev pub symbols : Spec → List Declaration
symbols y = y.constructors ++ y.operators

-- names ds: the names of these declarations
abbrev pub names : List Declaration → List Word
names ds = map (λ d. d.name) ds

-- variable_words vs: the names of the declared variables
abbrev pub variable_words : List Variables → List Word
variable_words vs = flat_map (λ v. v.first ∷ v.others) vs

-- declared ds name: the first declaration with this name
abbrev pub declared : List Declaration → List ℕ → Option Declaration
declared [] name = None
declared (d ∷ ds) name =
    elim (bytes_eq d.name.bytes name) [ true ↦ Some d | false ↦ declared ds name ]

-- symbol y name: the declaration of the symbol with this name
abbrev pub symbol : Spec → List ℕ → Option Declaration
symbol y name = declared (symbols y) name

-- is_variable y name: the name is that of a variable
abbrev pub is_variable : Spec → List ℕ → Bool
is_variable y name = mentions (variable_words y.variables) name

-- variable_sort vs name: the sort of the first variable with this name
abbrev pub variable_sort : List Variables → List ℕ → Option (List ℕ)
variable_sort [] name = None
variable_sort (v ∷ vs) name = elim (mentions (v.first ∷ v.others) name) [
  | true ↦ Some v.sort.bytes
  | false ↦ variable_sort vs name
]

-- sort_of y t: the sort of a term, which is that of its root
abbrev pub sort_of : Spec → Term → Option (List ℕ)
sort_of y t = elim (symbol y (head t).bytes) [
  | Some d ↦ Some d.sort.bytes
  | None ↦ variable_sort y.variables (head t).bytes
]

-- same_sort s t: two sorts are equal
abbrev pub same_sort : Option (List ℕ) → Option (List ℕ) → Bool
same_sort (Some s) (Some t) = bytes_eq s t
same_sort None None = true
same_sort _ _ = false

-- count ts: the number of terms
abbrev pub count : Terms → ℕ
count none = 0
count (more t ts) = ℕ.suc (count ts)

-- condition_terms cs: the terms of conditions
abbrev pub condition_terms : List Condition → List Term
condition_terms cs = flat_map (λ c. c.left ∷ c.right ∷ []) cs

-- rule_terms rs: the terms of rules, in the order of the text
abbrev pub rule_terms : List Rule → List Term
rule_terms rs = flat_map (λ r. r.left ∷ r.right ∷ condition_terms r.conditions) rs
