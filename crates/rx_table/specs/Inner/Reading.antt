-- The stack of trees of a table that is being read.
use Rattle.std.specs.Prelude.{◌≡◌, ℕ, zero, suc, ◌+◌, ◌≤◌, ◌<◌, Bool, true, false, if◌then◌else◌}
use Rattle.std.specs.Prelude.{List, [], ◌∷◌, ◌++◌, length, map, drop, reverse, Option, Some, None, max}
use Rattle.std.specs.Prelude.{ℤ, pos, negsuc}
use Rattle.std.specs.List.{AllByRecursion}
use Rattle.std.specs.Option.{option_and_then}
use Rattle.rx_term.specs.Tree.{Tree, Int, Items, Hole, none, to_list}
use Rattle.rx_term.specs.Store.{Store}
use Rattle.rx_text.specs.Held.{Holds}
use Rattle.rx_text.specs.Nodes.{top, trees_of, Enough, AreProper}
use Rattle.rx_text.specs.Reader.{node_of, made_of, IsNode}
use Rattle.rx_text.specs.declared.nodes.Node.{Node}
use Rattle.rx_text.specs.declared.nodes.Node.TheVariants as node
use Rattle.rx_table.specs.Opened.{opened}
use Rattle.rx_table.specs.declared.reading.Need.{Need}
use Rattle.rx_table.specs.declared.reading.Stack.{Stack}
use Rattle.rx_table.specs.declared.reading.Step.{Step}
use Rattle.rx_table.specs.declared.reading.Step.TheVariants.{Reference, Item, Single}

-- elements_of t: the elements of a table; none if the tree is not a table
abbrev pub elements_of : Tree → List Tree
elements_of (Items items none) = to_list items
elements_of t = []

-- all_opened es ts: the trees `es` and then the opened elements `ts`, if all of them open
abbrev pub all_opened : List Tree → List Tree → Option (List Tree)
all_opened es [] = Some es
all_opened es (t ∷ ts) = option_and_then (λ u. all_opened (es ++ u ∷ []) ts) (opened es t)

-- never: more elements than there can be
abbrev pub never : ℕ
never = 18446744073709551615

-- is_number t: the tree is a number in a placeholder, both without annotations
abbrev pub is_number : Tree → Bool
is_number (Hole (Int z none) none) = true
is_number t = false

-- IsOpened below t u need: with elements from the bottom of the stack, of which `below` is what is
-- below the tree `t`, it opens to `u` if there are as many as it needs, and otherwise not
pub record IsOpened (below : List Tree) (t u : Tree) (need : Need) : Type 0 where
  pub opens : (es rest : List Tree) → reverse below ≡ es ++ rest → need.elements ≤ length es
      → opened es t ≡ Some u
  pub fewer : (es : List Tree) → length es < need.elements → opened es t ≡ None
  pub number : need.is_number ≡ is_number t

-- AreOpened ts us needs: the trees of a stack, what they open to, and what they need, the newest
-- first
abbrev pub AreOpened : List Tree → List Tree → List Need → Type 0
AreOpened [] [] [] = Unit {0}
AreOpened (t ∷ ts) (u ∷ us) (need ∷ needs) = IsOpened us t u need × AreOpened ts us needs
AreOpened ts us needs = ⊥

-- IsStack w ts stack: the terms of the stack are what the trees `ts` open to, the newest first
pub record IsStack (w : Store) (ts : List Tree) (stack : Stack) : Type 0 where
  pub trees : List Tree
  pub held : Holds w stack.terms.items trees
  pub opened : AreOpened ts trees (reverse stack.needs.items)

-- most k needs: how many elements the newest `k` trees need
abbrev pub most : ℕ → List Need → ℕ
most zero needs = 0
most (suc k) [] = 0
most (suc k) (need ∷ needs) = max need.elements (most k needs)

-- noted elements needs: how many elements the newest tree needs with annotations that need
-- `elements`
abbrev pub noted : ℕ → List Need → ℕ
noted elements [] = elements
noted elements (need ∷ needs) =
    if need.is_number then never else max elements need.elements

-- taken_by n: how many trees a node takes
abbrev pub taken_by : Node → ℕ
taken_by (node.Integer z) = 0
taken_by (node.Application w k) = k
taken_by (node.List k) = k
taken_by node.Placeholder = 1
taken_by (node.Annotations k) = k + 1

-- needed_by n needs: how many elements the tree of a node needs, after trees with these needs
abbrev pub needed_by : Node → List Need → ℕ
needed_by (node.Integer z) needs = 0
needed_by (node.Application w k) needs = most k needs
needed_by (node.List k) needs = most k needs
needed_by node.Placeholder needs = never
needed_by (node.Annotations k) needs = noted (most k needs) (drop k needs)

-- after_number z: how many elements have to be there for a reference with this number
abbrev pub after_number : ℤ → ℕ
after_number (pos n) = n + 1
after_number (negsuc n) = never

-- StartsHole ns: the next node is a placeholder
abbrev pub StartsHole : List Node → Type 0
StartsHole (node.Placeholder ∷ ns) = Unit {0}
StartsHole ns = ⊥

-- IsInside n: the tree of a node can be in a placeholder: it is a number or a list of one item
abbrev pub IsInside : Node → Type 0
IsInside (node.Integer z) = Unit {0}
IsInside (node.List k) = k ≡ 1
IsInside n = ⊥

-- IsStep ns step: the nodes `ns` start with this step
abbrev pub IsStep : List Node → Step → Type 0
IsStep ns (Reference z) =
    (others : List Node) × (ns ≡ node.Integer z ∷ node.Placeholder ∷ others)
IsStep ns Item = (others : List Node) × (ns ≡ node.List 1 ∷ node.Placeholder ∷ others)
IsStep ns (Single n) = (others : List Node) × (ns ≡ n ∷ others)
    × (IsInside n → StartsHole others → ⊥)

-- IsShut t: a placeholder of the tree does not open, and the tree is not a number
abbrev pub IsShut : Tree → Type 0
IsShut t = (is_number (Hole t none) ≡ false) × ((es : List Tree) → opened es (Hole t none) ≡ None)

-- IsReading w bytes all left stack: the nodes `all` were read up to `left`
pub record IsReading (w : Store) (bytes : List ℕ) (all left : List Node) (stack : Stack)
    : Type 0 where
  pub trees : List Tree
  pub stack_is : IsStack w trees stack
  pub same : trees_of trees (map (node_of bytes) left) ≡ made_of bytes all
  pub enough : Enough trees (map (node_of bytes) left)
  pub proper : AreProper trees (map (node_of bytes) left)
  pub names : AllByRecursion (IsNode bytes) left
  pub shut : StartsHole left → IsShut (top trees)

-- Fit needs: no tree needs more elements than there are below it, the newest first
abbrev pub Fit : List Need → Type 0
Fit [] = Unit {0}
Fit (need ∷ needs) = (need.elements ≤ length needs) × Fit needs

-- IsBroken needs n: the tree at the index `n` of a stack is the first that needs more elements than
-- there are below it
pub record IsBroken (needs : List Need) (n : ℕ) : Type 0 where
  pub before : List Need
  pub after : List Need
  pub need : Need
  pub whole : needs ≡ before ++ need ∷ after
  pub count : length before ≡ n
  pub fit : Fit (reverse before)
  pub broken : n < need.elements

-- HasItems n: the tree of a node is a list that is not empty
abbrev pub HasItems : Node → Type 0
HasItems (node.List k) = 0 < k
HasItems n = ⊥

-- EndsIn P ns front: after the nodes `front` comes a last one, of which `P` holds
abbrev pub EndsIn : (Node → Type 0) → List Node → List Node → Type 0
EndsIn P ns front = (n : Node) × (ns ≡ front ++ n ∷ []) × P n
