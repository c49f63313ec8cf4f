-- The state of the machine that the fields of the reader represent.
use Rattle.std.specs.Prelude.{◌≡◌, ℕ, ◌+◌, ◌≤◌, Bool, true, false, List, [], ◌∷◌, length, map, drop}
use Rattle.std.specs.Prelude.{reverse, All, Option, Some, None, Result, Ok, Err}
use Rattle.rec_syntax.specs.Syntax as syntax
use Rattle.rec_syntax.specs.Syntax.{none}
use Rattle.rec_syntax.specs.Nodes as nodes
use Rattle.rec_syntax.specs.Nodes.{newest, assembled, made_by, newest_term}
use Rattle.rec_syntax.specs.Inner.Machine as machine
use Rattle.rec_syntax.specs.Inner.Machine.{Frame, State}
use Rattle.rec_syntax.specs.Lexemes.{word_of, section_of, token_of, Within}
use Rattle.rec_syntax.specs.Parts.{words_of, node_of, term_of, condition_of, spec_of, IsTerm}
use Rattle.rec_syntax.specs.Parts.{IsRule, AreSections}
use Rattle.rec_syntax.specs.declared.lexer.Span.{Span}
use Rattle.rec_syntax.specs.declared.lexer.Part.{Part}
use Rattle.rec_syntax.specs.declared.lexer.LexemeKind.{LexemeKind}
use Rattle.rec_syntax.specs.declared.parts.Node.{Node}
use Rattle.rec_syntax.specs.declared.parts.Term.{Term}
use Rattle.rec_syntax.specs.declared.reader.Symbols.{Symbols}
use Rattle.rec_syntax.specs.declared.reader.Symbols.TheVariants.{Constructors, Operators}
use Rattle.rec_syntax.specs.declared.reader.Role.{Role}
use Rattle.rec_syntax.specs.declared.reader.Role.TheVariants.{Left, Right, ConditionLeft}
use Rattle.rec_syntax.specs.declared.reader.Role.TheVariants.{ConditionRight, InEval}
use Rattle.rec_syntax.specs.declared.reader.Due.{Due}
use Rattle.rec_syntax.specs.declared.reader.Due.TheVariants.{Start, Title, Between, Named}
use Rattle.rec_syntax.specs.declared.reader.Due.TheVariants.{Arguments, ResultSort, Grouped}
use Rattle.rec_syntax.specs.declared.reader.Due.TheVariants.{GroupSort, AtTerm, Called, First}
use Rattle.rec_syntax.specs.declared.reader.Due.TheVariants.{After, Ended, Done}
use Rattle.rec_syntax.specs.declared.reader.Call.{Call}
use Rattle.rec_syntax.specs.declared.reader.Reader.{Reader}
use Rattle.rec_syntax.specs.declared.reader.Stop.{Stop}
use Rattle.rec_syntax.specs.declared.reader.Stop.TheVariants as stop

-- the open section
abbrev pub level_of : Option Part → machine.Level
level_of None = machine.Top
level_of (Some p) = machine.In (section_of p)

-- flag_of: whether the symbols are constructors
abbrev pub flag_of : Symbols → Bool
flag_of Constructors = true
flag_of Operators = false

-- the role of the term that is being read
abbrev pub role_of : List ℕ → Role → machine.Role
role_of bytes Left = machine.Left
role_of bytes (Right l) = machine.Right (term_of bytes l)
role_of bytes (ConditionLeft r) = machine.CondLeft (term_of bytes r.left) (term_of bytes r.right)
    (map (condition_of bytes) r.conditions.items)
role_of bytes (ConditionRight r x e) = machine.CondRight (term_of bytes r.left)
    (term_of bytes r.right) (map (condition_of bytes) r.conditions.items) (term_of bytes x) e
role_of bytes InEval = machine.InEval

-- the terms that were read, the newest first
abbrev pub made_of : List ℕ → List Node → List syntax.Term
made_of bytes ns = made_by [] (map (node_of bytes) ns)

-- the open applications, the innermost first, each with its newest terms
abbrev pub frames_of : List ℕ → List Call → List syntax.Term → List Frame
frames_of bytes [] made = []
frames_of bytes (c ∷ cs) made =
    record { word = word_of bytes c.word; arguments = newest c.count made none }
    ∷ frames_of bytes cs (drop c.count made)

-- the terms without the newest one
abbrev pub rest : List syntax.Term → List syntax.Term
rest [] = []
rest (t ∷ made) = made

-- open_of bytes r made: the open applications of the reader's stack, whose terms are `made`
abbrev pub open_of : List ℕ → Reader → List syntax.Term → List Frame
open_of bytes r made = frames_of bytes (reverse r.calls.items) made

-- due_of bytes d r: the control state of the machine
abbrev pub due_of : List ℕ → Due → Reader → machine.Due
due_of bytes Start r = machine.Start
due_of bytes Title r = machine.Title
due_of bytes (Between l) r = machine.Between (level_of l)
due_of bytes (Named k w) r = machine.Named (flag_of k) (word_of bytes w)
due_of bytes (Arguments k w) r = machine.Args (flag_of k) (word_of bytes w)
    (words_of bytes r.words.items)
due_of bytes (ResultSort k w) r = machine.Result (flag_of k) (word_of bytes w)
    (words_of bytes r.words.items)
due_of bytes (Grouped w) r = machine.Grouped (word_of bytes w) (words_of bytes r.words.items)
due_of bytes (GroupSort w) r = machine.GroupSort (word_of bytes w) (words_of bytes r.words.items)
due_of bytes AtTerm r = machine.AtTerm (role_of bytes r.role)
    (open_of bytes r (made_of bytes r.nodes.items))
due_of bytes (Called w) r = machine.Called (role_of bytes r.role) (word_of bytes w)
    (open_of bytes r (made_of bytes r.nodes.items))
due_of bytes (First w) r = machine.First (role_of bytes r.role) (word_of bytes w)
    (open_of bytes r (made_of bytes r.nodes.items))
due_of bytes After r = machine.After (role_of bytes r.role)
    (newest_term (made_of bytes r.nodes.items))
    (open_of bytes r (rest (made_of bytes r.nodes.items)))
due_of bytes Ended r = machine.Ended
due_of bytes Done r = machine.Done

-- state_of bytes d r: the state of the machine
abbrev pub state_of : List ℕ → Due → Reader → State
state_of bytes d r = record { due = due_of bytes d r; read = spec_of bytes r.sections }

-- advance bytes d r k: the machine's transition for token `k`
abbrev pub advance : List ℕ → Due → Reader → LexemeKind → Option State
advance bytes d r k = machine.step (due_of bytes d r) (spec_of bytes r.sections) (token_of bytes k)

-- total: the number of arguments of all open applications
abbrev pub total : List Call → ℕ
total [] = 0
total (c ∷ cs) = c.count + total cs

-- Enough made ns: each node comes after as many terms as it has arguments
abbrev pub Enough : List syntax.Term → List nodes.Node → Type 0
Enough made [] = Unit {0}
Enough made (n ∷ ns) = (n.count ≤ length made) × Enough (assembled n made) ns

-- IsStack: each term except `loose` ones belongs to one open application, and all names lie within
-- the text
pub record IsStack (bytes : List ℕ) (loose : ℕ) (cs : List Call) (ns : List Node) : Type 0 where
  pub calls : All (λ c. Within bytes c.word) cs
  pub nodes : All (λ n. Within bytes n.word) ns
  pub enough : Enough [] (map (node_of bytes) ns)
  pub counted : total (reverse cs) + loose ≡ length (made_of bytes ns)

-- IsRole bytes role: the parts that were read before this term are well formed
abbrev pub IsRole : List ℕ → Role → Type 0
IsRole bytes Left = Unit {0}
IsRole bytes (Right l) = IsTerm bytes l
IsRole bytes (ConditionLeft r) = IsRule bytes r
IsRole bytes (ConditionRight r x e) = IsRule bytes r × IsTerm bytes x
IsRole bytes InEval = Unit {0}

-- AreWords: the names of a declaration or a group lie within the text
pub record AreWords (bytes : List ℕ) (w : Span) (r : Reader) : Type 0 where
  pub first : Within bytes w
  pub others : All (Within bytes) r.words.items

-- InTerm: a term is being read, with `loose` terms outside the open applications
pub record InTerm (bytes : List ℕ) (loose : ℕ) (r : Reader) : Type 0 where
  pub role : IsRole bytes r.role
  pub stack : IsStack bytes loose r.calls.items r.nodes.items

-- HoldsDue bytes d r: the invariant of the fields that control state `d` uses
abbrev pub HoldsDue : List ℕ → Due → Reader → Type 0
HoldsDue bytes (Named k w) r = Within bytes w
HoldsDue bytes (Arguments k w) r = AreWords bytes w r
HoldsDue bytes (ResultSort k w) r = AreWords bytes w r
HoldsDue bytes (Grouped w) r = AreWords bytes w r
HoldsDue bytes (GroupSort w) r = AreWords bytes w r
HoldsDue bytes AtTerm r = InTerm bytes 0 r
HoldsDue bytes (Called w) r = Within bytes w × InTerm bytes 0 r
HoldsDue bytes (First w) r = Within bytes w × InTerm bytes 0 r
HoldsDue bytes After r = InTerm bytes 1 r
HoldsDue bytes d r = Unit {0}

-- IsState bytes d r: the reader represents a state of the machine
pub record IsState (bytes : List ℕ) (d : Due) (r : Reader) : Type 0 where
  pub sections : AreSections bytes r.sections
  pub due : HoldsDue bytes d r

-- Moves: the result is that of the machine's transition, unless an allocation failed
abbrev pub Moves : List ℕ → Option State → Result Due Stop → Reader → Type 0
Moves bytes moved (Ok d) r = (moved ≡ Some (state_of bytes d r)) × IsState bytes d r
Moves bytes moved (Err stop.Refused) r = moved ≡ None
Moves bytes moved (Err stop.Memory) r = Unit {0}

-- IsAt d r: the reader is in control state `d` over its own text
abbrev pub IsAt : Due → Reader → Type 0
IsAt d r = IsState r.source.items d r

-- Steps d r k result after: in control state `d`, token `k` leads to the machine's next state
abbrev pub Steps : Due → Reader → LexemeKind → Result Due Stop → Reader → Type 0
Steps d r k result after = Moves r.source.items (advance r.source.items d r k) result after

-- Completes p t r k result after: after the whole term `t` in role `p`, token `k` leads to the
-- machine's next state
abbrev pub Completes : Role → Term → Reader → LexemeKind → Result Due Stop → Reader → Type 0
Completes p t r k result after = Moves r.source.items
    (machine.complete (role_of r.source.items p) (term_of r.source.items t)
    (spec_of r.source.items r.sections) (token_of r.source.items k)) result after
