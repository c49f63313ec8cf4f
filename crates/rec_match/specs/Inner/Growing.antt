-- Growth of matching trees: each node represents rows, and its children represent what remains of
-- them.
use Rattle.std.specs.Prelude.{ℕ, ◌≡◌, ◌+◌, ◌<◌, ◌≤◌, ◌≢◌, suc, Bool, true, false, List, [], ◌∷◌}
use Rattle.std.specs.Prelude.{◌++◌, Option, Some, None, All, length, get_or, bytes_eq, slice_range}
use Rattle.std.specs.Option.{option_map}
use Rattle.rec_syntax.specs.Syntax as R
use Rattle.rec_syntax.specs.Syntax.{Spec}
use Rattle.rec_sorts.specs.Lookup.{symbols, is_variable}
use Rattle.rec_sorts.specs.Laws.{Every}
use Rattle.rec_sorts.specs.Numbering.{name_of, arity_of}
use Rattle.rec_sorts.specs.declared.letters.Meaning.TheVariants.{Symbol}
use Rattle.rec_match.specs.Rows.{Cell, Row, first_row, opened_cells, kept_cells, changed}
use Rattle.rec_match.specs.Inner.Running.{root_rows, IsHeaded}
use Rattle.rec_match.specs.Forests.{Reading, Follows, FitsSwitch, Cases, case_at, number_at}
use Rattle.rec_match.specs.Forests.{AreCases, roots_at, IsNew}
use Rattle.rec_match.specs.declared.forest.Forest.{Forest}
use Rattle.rec_match.specs.declared.forest.Child.{Child}
use Rattle.rec_match.specs.declared.forest.Node.{Node}
use Rattle.rec_match.specs.declared.forest.Node.TheVariants.{Fail, Try, Switch}
use Rattle.rec_match.specs.declared.forest.Place.{Place}
use Rattle.rec_match.specs.declared.forest.Place.TheVariants.{First, Again}

-- the rows that remain at a node, and the number of registers
pub record State : Type 0 where
  pub width : ℕ
  pub rows : List Row

-- Within n cs: the registers of these tests are below `n`
abbrev pub Within : ℕ → List Cell → Type 0
Within n cs = Every (λ (c : Cell). c.register < n) cs

-- AllWithin n rows: this holds for each row
abbrev pub AllWithin : ℕ → List Row → Type 0
AllWithin n rows = Every (λ (row : Row). Within n row.cells) rows

-- position ns name: the first index of a name
abbrev pub position : List (List ℕ) → List ℕ → Option ℕ
position [] name = None
position (n ∷ ns) name =
    elim (bytes_eq n name) [ true ↦ Some 0 | false ↦ option_map (λ k. suc k) (position ns name) ]

-- name_in c: the name at the root of a test's pattern
abbrev pub name_in : Cell → List ℕ
name_in c = (R.head c.pattern).bytes

-- IsVariable y c: the test is for a variable
abbrev pub IsVariable : Spec → Cell → Type 0
IsVariable y c = is_variable y (name_in c) ≡ true

-- places_from ns cs: the positions of variables, after those named in `ns`
abbrev pub places_from : List (List ℕ) → List Cell → List Place
places_from ns [] = []
places_from ns (c ∷ cs) = elim (position ns (name_in c)) [
  | None ↦ First c.register ∷ places_from (ns ++ name_in c ∷ []) cs
  | Some v ↦ Again c.register v ∷ places_from ns cs
]

-- reading_of y s: the meaning of nodes that represent the rows in `s`
abbrev pub reading_of : Spec → (ℕ → State) → Reading
reading_of y s =
    record { finds = λ n least us. first_row y least (s n).rows us; width = λ n. (s n).width }

-- GrowsTry: the first row has only variables left, and the next node represents the other rows
pub record GrowsTry (y : Spec) (f : Forest) (s : ℕ → State) (n rule from to next : ℕ)
    (linear : Bool) : Type 0 where
  pub follows : Follows f (reading_of y s) n next
  pub cells : List Cell
  pub here : s n
      ≡ record {
        width = (s next).width;
        rows = (record { number = rule; cells = cells }) ∷ (s next).rows;
      }
  pub ordered : from ≤ to
  pub within : to ≤ length f.places.items
  pub variables : Every (IsVariable y) cells
  pub registers : Within (s next).width cells
  pub places : slice_range f.places.items from to ≡ places_from [] cells
  pub are_new : linear ≡ true → All IsNew (slice_range f.places.items from to)

-- HasCase y ns cases name k: the name with `k` arguments is that of a symbol with a child
pub record HasCase (y : Spec) (ns : List ℕ) (cases : Cases) (name : List ℕ) (k : ℕ) : Type 0 where
  pub symbol : ℕ
  pub declared : symbol < length (symbols y)
  pub child : (case_at cases (number_at ns symbol)).node ≢ 0
  pub named : name ≡ name_of y (Symbol symbol)
  pub counted : k ≡ arity_of y symbol

-- GrowsSwitch: each child represents what remains of the rows for its symbol, and the other node
-- what remains for terms without a child
pub record GrowsSwitch (y : Spec) (ns : List ℕ) (f : Forest) (s : ℕ → State) (n register other : ℕ)
    (cases : Cases) : Type 0 where
  pub registers : AllWithin (s n).width (s n).rows
  pub register_there : register < (s n).width
  pub within : cases.from + cases.span ≤ length f.children.items
  pub cases_are : AreCases y ns cases
  pub follows : Follows f (reading_of y s) n other
  pub refused : List ℕ → ℕ → Bool
  pub refuses : (name : List ℕ) (k : ℕ) → refused name k ≡ true → HasCase y ns cases name k
  pub away : s other
      ≡ record { width = (s n).width; rows = changed (kept_cells y register refused) (s n).rows }
  pub follow : (k : ℕ) → k < length (symbols y) → (case_at cases (number_at ns k)).node ≢ 0
      → Follows f (reading_of y s) n (case_at cases (number_at ns k)).node
  pub inside : (k : ℕ) → k < length (symbols y) → (case_at cases (number_at ns k)).node ≢ 0
      → s (case_at cases (number_at ns k)).node
      ≡ record {
        width = (s n).width + arity_of y k;
        rows = changed
            (opened_cells y register (name_of y (Symbol k)) (arity_of y k) (s n).width)
            (s n).rows;
      }

-- Grows y ns f s n node: the node represents the rows in `s n`
abbrev pub Grows : Spec → List ℕ → Forest → (ℕ → State) → ℕ → Node → Type 0
Grows y ns f s n Fail = (s n).rows ≡ []
Grows y ns f s n (Try rule from to next linear) = GrowsTry y f s n rule from to next linear
Grows y ns f s n (Switch register low from span other) =
    FitsSwitch y ns f (reading_of y s) n register other
    (record { children = f.children.items; low = low; from = from; span = span })

-- StandFor f s width rs rows: these roots together represent the rows, one after the other
abbrev pub StandFor : Forest → (ℕ → State) → ℕ → List ℕ → List Row → Type 0
StandFor f s width [] rows = rows ≡ []
StandFor f s width (r ∷ rs) rows = (front : List Row) × (rest : List Row) × (rows ≡ front ++ rest)
    × (r < length f.nodes.items) × (s r ≡ record { width = width; rows = front })
    × StandFor f s width rs rest

-- HasGrown y ns f: the matching trees represent the rules of a specification
pub record HasGrown (y : Spec) (ns : List ℕ) (f : Forest) : Type 0 where
  pub headed : Every (IsHeaded y) y.rules
  pub states : ℕ → State
  pub nodes : (n : ℕ) → n < length f.nodes.items
      → Grows y ns f states n (get_or f.nodes.items n Fail)
  pub counted : length f.roots.items ≡ length (symbols y)
  pub roots : (k : ℕ) → k < length (symbols y)
      → StandFor f states (arity_of y k) (roots_at f k)
      (root_rows (name_of y (Symbol k)) (arity_of y k) 0 y.rules)

-- Extends f s g t: `g` has more nodes, positions and children; old nodes represent the same rows
pub record Extends (f : Forest) (s : ℕ → State) (g : Forest) (t : ℕ → State) : Type 0 where
  pub nodes : length f.nodes.items ≤ length g.nodes.items
  pub new_places : List Place
  pub places : g.places.items ≡ f.places.items ++ new_places
  pub new_children : List Child
  pub children : g.children.items ≡ f.children.items ++ new_children
  pub states : (n : ℕ) → n < length f.nodes.items → t n ≡ s n
