-- A term's words in the order of the text, from its nodes in postfix form. The nodes are passed
-- from the last to the first; a node is complete once its arguments are.
--     passed s ns   the state after the nodes, of which the last was passed first
use Rattle.std.specs.Prelude.{ℕ, zero, suc, ◌-◌, if◌then◌else◌, List, [], ◌∷◌, nat_lt}
use Rattle.rec_syntax.specs.Tokens.{Word}
use Rattle.rec_syntax.specs.Nodes.{Node}

-- a word that waits for some of its arguments
pub record Waiting : Type 0 where
  pub word : Word
  pub left : ℕ

-- the waiting words, the innermost first, and the words that are complete, in the order of the text
pub record State : Type 0 where
  pub waiting : List Waiting
  pub complete : List Word

-- completed ws out: one argument of the innermost waiting word is complete
abbrev pub completed : List Waiting → List Word → State
completed [] out = record { waiting = []; complete = out }
completed (w ∷ ws) out = if nat_lt 1 w.left
    then record { waiting = record { word = w.word; left = w.left - 1 } ∷ ws; complete = out }
    else completed ws (w.word ∷ out)

-- pass s n: one node more
abbrev pub pass : State → Node → State
pass s n = elim n.count [
  | zero ↦ completed s.waiting (n.word ∷ s.complete)
  | suc k ↦ record {
    waiting = record { word = n.word; left = suc k } ∷ s.waiting;
    complete = s.complete;
  }
]

abbrev pub passed : State → List Node → State
passed s [] = s
passed s (n ∷ ns) = pass (passed s ns) n
