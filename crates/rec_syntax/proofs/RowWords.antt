-- The words in which worked specifications are written out.
use Prim.Native.String.{String}
use Rattle.std.specs.Prelude.{ℕ, Bool, List, [], ◌∷◌, codes}
use Rattle.rec_syntax.specs.Tokens.{Word}
use Rattle.rec_syntax.specs.Syntax.{Term, Terms, Apply, none, more, Declaration, Variables, Condition, Rule}

-- a word at a place
abbrev pub w : ℕ → String → Word
w at text = record { at = at; bytes = codes text }

-- a symbol's declaration
abbrev pub symbol : Word → List Word → Word → Declaration
symbol name arguments sort = record { name = name; arguments = arguments; sort = sort }

-- variables of one sort
abbrev pub group : Word → List Word → Word → Variables
group first others sort = record { first = first; others = others; sort = sort }

-- terms one after another
abbrev pub row : List Term → Terms
row [] = none
row (t ∷ ts) = more t (row ts)

-- a word at a place, with its arguments
abbrev pub term : ℕ → String → List Term → Term
term at text ts = Apply (w at text) (row ts)

-- a condition for equal values, or for values that differ
abbrev pub condition : Term → Term → Bool → Condition
condition left right equal = record { left = left; right = right; equal = equal }

abbrev pub rule : Term → Term → List Condition → Rule
rule left right conditions = record { left = left; right = right; conditions = conditions }
