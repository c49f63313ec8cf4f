-- The result of parsing a text into nodes.
use Rattle.std.specs.Prelude.{◌≡◌, ℕ, List, [], ◌∷◌, map}
use Rattle.std.specs.List.{AllByRecursion}
use Rattle.rx_term.specs.Tree.{Tree}
use Rattle.rx_text.specs.Grammar.{Spells}
use Rattle.rx_text.specs.Place.{IsFaultPlace}
use Rattle.rx_text.specs.Nodes.{Enough, AreProper}
use Rattle.rx_text.specs.Reader.{node_of, made_of, IsNode}
use Rattle.rx_text.specs.declared.nodes.Node.{Node}
use Rattle.rx_text.specs.declared.faults.TextFault.{TextFault}
use Rattle.rx_text.specs.declared.faults.TextFault.TheVariants.{Long, Grammar, Memory, Full}

-- AreNodesOf bytes ns t: the nodes make this tree and no other
pub record AreNodesOf (bytes : List ℕ) (ns : List Node) (t : Tree) : Type 0 where
  pub alone : made_of bytes ns ≡ t ∷ []
  pub enough : Enough [] (map (node_of bytes) ns)
  pub names : AllByRecursion (IsNode bytes) ns

-- AreProperNodes bytes ns: each node of annotations has some, and no tree is annotated twice
abbrev pub AreProperNodes : List ℕ → List Node → Type 0
AreProperNodes bytes ns = AreProper [] (map (node_of bytes) ns)

-- AreRead bytes ns: the nodes make the tree that the bytes spell
abbrev pub AreRead : List ℕ → List Node → Type 0
AreRead bytes ns = (t : Tree) × Spells bytes t × AreNodesOf bytes ns t × AreProperNodes bytes ns

-- IsFault bytes fault: the error is a syntax error at its offset, or out of memory
abbrev pub IsFault : List ℕ → TextFault → Type 0
IsFault bytes Long = ⊥
IsFault bytes (Grammar at) = IsFaultPlace bytes at
IsFault bytes Memory = Unit {0}
IsFault bytes Full = ⊥
