-- The state of the machine that the parser's stack and nodes represent.
use Rattle.std.specs.Prelude.{◌≡◌, ℕ, ◌+◌, List, [], ◌∷◌, length, map, drop, reverse, Option, Some}
use Rattle.std.specs.Prelude.{None, Result, Ok, Err, IsTrue}
use Rattle.std.specs.List.{AllByRecursion}
use Rattle.rx_term.specs.Tree.{Tree, none, annotated, is_i32}
use Rattle.rx_text.specs.Nodes as nodes
use Rattle.rx_text.specs.Nodes.{taken, top, rest, trees_of, Enough, AreProper}
use Rattle.rx_text.specs.Machine as machine
use Rattle.rx_text.specs.Machine.{State}
use Rattle.rx_text.specs.Lexemes.{name_of, token_of, IsWord}
use Rattle.rx_text.specs.declared.lexer.LexemeKind.{LexemeKind}
use Rattle.rx_text.specs.declared.nodes.Node.{Node}
use Rattle.rx_text.specs.declared.nodes.Node.TheVariants as node
use Rattle.rx_text.specs.declared.reader.Opening.{Opening}
use Rattle.rx_text.specs.declared.reader.Opening.TheVariants as opening
use Rattle.rx_text.specs.declared.reader.Frame.{Frame}
use Rattle.rx_text.specs.declared.reader.Due.{Due}
use Rattle.rx_text.specs.declared.reader.Due.TheVariants.{AtTerm, First, Named, Body, Whole, Done}
use Rattle.rx_text.specs.declared.reader.Reader.{Reader}
use Rattle.rx_text.specs.declared.reader.Stop.{Stop}
use Rattle.rx_text.specs.declared.reader.Stop.TheVariants as stop

-- node_of bytes n: the node with the names of the text
abbrev pub node_of : List ℕ → Node → nodes.Node
node_of bytes (node.Integer z) = nodes.Number z
node_of bytes (node.Application w k) = nodes.Application (name_of bytes w) w.quoted k
node_of bytes (node.List k) = nodes.Listing k
node_of bytes node.Placeholder = nodes.Holding
node_of bytes (node.Annotations k) = nodes.Annotating k

-- IsNode bytes n: the integer of a node fits 32 bits, and its word is the range of a name
abbrev pub IsNode : List ℕ → Node → Type 0
IsNode bytes (node.Integer z) = IsTrue (is_i32 z)
IsNode bytes (node.Application w k) = IsWord bytes w
IsNode bytes n = Unit {0}

-- made_of bytes ns: the trees that the nodes make, the newest first
abbrev pub made_of : List ℕ → List Node → List Tree
made_of bytes ns = trees_of [] (map (node_of bytes) ns)

-- frame_of bytes o k made: the frame of an open group, whose items are the newest `k` trees
abbrev pub frame_of : List ℕ → Opening → ℕ → List Tree → machine.Frame
frame_of bytes (opening.Arguments w) k made = machine.InArguments (name_of bytes w) w.quoted
    (taken k made)
frame_of bytes opening.List k made = machine.InList (taken k made)
frame_of bytes opening.Placeholder k made = machine.InHole
frame_of bytes opening.Annotations k made = machine.InAnnotations (top (drop k made)) (taken k made)

-- held o k: the number of trees that belong to a group with `k` items
abbrev pub held : Opening → ℕ → ℕ
held (opening.Arguments w) k = k
held opening.List k = k
held opening.Placeholder k = 0
held opening.Annotations k = k + 1

-- under o k made: the trees that were made before those of a group
abbrev pub under : Opening → ℕ → List Tree → List Tree
under (opening.Arguments w) k made = drop k made
under opening.List k made = drop k made
under opening.Placeholder k made = made
under opening.Annotations k made = rest (drop k made)

-- IsOpening bytes o: the word of a group is the range of a name
abbrev pub IsOpening : List ℕ → Opening → Type 0
IsOpening bytes (opening.Arguments w) = IsWord bytes w
IsOpening bytes o = Unit {0}

-- frames_of bytes fs made: the frames of the open groups, the innermost first
abbrev pub frames_of : List ℕ → List Frame → List Tree → List machine.Frame
frames_of bytes [] made = []
frames_of bytes (f ∷ fs) made = frame_of bytes f.opening f.count made
    ∷ frames_of bytes fs (under f.opening f.count made)

-- due_of bytes d made: the state of the machine without its stack
abbrev pub due_of : List ℕ → Due → List Tree → machine.Due
due_of bytes AtTerm made = machine.AtTerm
due_of bytes (First o) made = machine.First (frame_of bytes o 0 made)
due_of bytes (Named w) made = machine.Named (name_of bytes w) w.quoted
due_of bytes Body made = machine.Body (top made)
due_of bytes Whole made = machine.Whole (top made)
due_of bytes Done made = machine.Done (top made)

-- owned d made: the trees that belong to frames of the stack
abbrev pub owned : Due → List Tree → List Tree
owned AtTerm made = made
owned (First o) made = under o 0 made
owned (Named w) made = made
owned Body made = rest made
owned Whole made = rest made
owned Done made = rest made

-- loose d: the number of trees that belong to no frame
abbrev pub loose : Due → ℕ
loose AtTerm = 0
loose (First o) = held o 0
loose (Named w) = 0
loose Body = 1
loose Whole = 1
loose Done = 1

-- state_of bytes d frames ns: the state of the machine with its stack
abbrev pub state_of : List ℕ → Due → List Frame → List Node → State
state_of bytes d frames ns = (
  due_of bytes d (made_of bytes ns),
  frames_of bytes (reverse frames) (owned d (made_of bytes ns)),
)

-- total fs: the number of trees that belong to the frames
abbrev pub total : List Frame → ℕ
total [] = 0
total (f ∷ fs) = held f.opening f.count + total fs

-- pending d: 1 if a name was read that is not yet a node, otherwise 0
abbrev pub pending : Due → ℕ
pending (Named w) = 1
pending d = 0

-- IsUnannotated o k made: the tree that a group of annotations with `k` items annotates has none
abbrev pub IsUnannotated : Opening → ℕ → List Tree → Type 0
IsUnannotated opening.Annotations k made = annotated (top (drop k made)) none ≡ top (drop k made)
IsUnannotated o k made = Unit {0}

-- AreUnannotated fs made: this holds for all open groups, the innermost first
abbrev pub AreUnannotated : List Frame → List Tree → Type 0
AreUnannotated [] made = Unit {0}
AreUnannotated (f ∷ fs) made = IsUnannotated f.opening f.count made
    × AreUnannotated fs (under f.opening f.count made)

-- IsBare d made: a body, or the tree of a new group of annotations, has no annotations
abbrev pub IsBare : Due → List Tree → Type 0
IsBare (First o) made = IsUnannotated o 0 made
IsBare Body made = annotated (top made) none ≡ top made
IsBare d made = Unit {0}

-- IsDue bytes d: the word of a state is the range of a name
abbrev pub IsDue : List ℕ → Due → Type 0
IsDue bytes (First o) = IsOpening bytes o
IsDue bytes (Named w) = IsWord bytes w
IsDue bytes d = Unit {0}

-- IsStack bytes k frames ns: every tree except `k` belongs to a frame, all words are ranges of
-- names, and no tree is annotated twice
pub record IsStack (bytes : List ℕ) (k : ℕ) (frames : List Frame) (ns : List Node) : Type 0 where
  pub enough : Enough [] (map (node_of bytes) ns)
  pub counted : total (reverse frames) + k ≡ length (made_of bytes ns)
  pub openings : AllByRecursion (λ f. IsOpening bytes f.opening) frames
  pub names : AllByRecursion (IsNode bytes) ns
  pub proper : AreProper [] (map (node_of bytes) ns)
  pub unannotated : AreUnannotated (reverse frames) (drop k (made_of bytes ns))

-- IsState bytes d frames ns: the parser represents a state of the machine
pub record IsState (bytes : List ℕ) (d : Due) (frames : List Frame) (ns : List Node) : Type 0 where
  pub stack : IsStack bytes (loose d) frames ns
  pub bare : IsBare d (made_of bytes ns)
  pub word : IsDue bytes d

-- Moves bytes moved r frames ns: the parser has made this step of the machine, unless memory ran
-- out
abbrev pub Moves : List ℕ → Option State → Result Due Stop → List Frame → List Node → Type 0
Moves bytes moved (Ok d) frames ns = (moved ≡ Some (state_of bytes d frames ns))
    × IsState bytes d frames ns
Moves bytes moved (Err stop.Refused) frames ns = moved ≡ None
Moves bytes moved (Err stop.Memory) frames ns = Unit {0}

-- IsAt d r: the parser is in this state
abbrev pub IsAt : Due → Reader → Type 0
IsAt d r = IsState r.bytes.now d r.frames.items r.nodes.items

-- node_count d r: the number of nodes, with a name that is not yet a node
abbrev pub node_count : Due → Reader → ℕ
node_count d r = length r.nodes.items + pending d

-- advance d r k: the result of the machine for a token in this state
abbrev pub advance : Due → Reader → LexemeKind → Option State
advance d r k =
    let s = state_of r.bytes.now d r.frames.items r.nodes.items in
    machine.step s.0 s.1 (token_of r.bytes.now k)

-- Steps d r k result after: the parser reads a token in this state as the machine does
abbrev pub Steps : Due → Reader → LexemeKind → Result Due Stop → Reader → Type 0
Steps d r k result after =
    Moves r.bytes.now (advance d r k) result after.frames.items after.nodes.items
