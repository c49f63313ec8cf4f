-- The results of calls on tables of terms.
use Rattle.std.specs.Prelude.{◌≡◌, ℕ, List, Option, Some, Result, Ok, Err, IsSome}
use Rattle.rx_term.specs.Tree.{Tree}
use Rattle.rx_term.specs.Store.{Store, tree_at}
use Rattle.rx_term.specs.Steps.{Grows}
use Rattle.rx_term.specs.declared.Term.{Term}
use Rattle.rx_text.specs.Canon.{canon}
use Rattle.rx_text.specs.Verdict.{IsVerdict, Spelt, Outside, TooLong}
use Rattle.rx_table.specs.Table.{table}
use Rattle.rx_table.specs.Opened.{broken_by_table, tree_of_table}
use Rattle.psilt_core.specs.Names.{IsFull, KeepsLimit}
use Rattle.psilt_core.specs.declared.fault.Fault.{Fault}
use Rattle.psilt_core.specs.declared.fault.Fault.TheVariants.{Memory, Full, Syntax, Range, Rule}

-- table_in t: the printed text of the table of a tree
abbrev pub table_in : Tree → Option (List ℕ)
table_in t = Some (canon (table t))

-- OnSpelt text P: the text spells a tree, and P holds of it
abbrev pub OnSpelt : List ℕ → (Tree → Type 0) → Type 0
OnSpelt text P = (u : Tree) × IsVerdict text (Spelt u) × P u

-- OpensTable most old new u rule r: the tree of the table u is made; or u violates this rule of
-- tables, or memory, cells or names ran out
abbrev pub OpensTable : ℕ → Store → Store → Tree → ℕ → Result Term Fault → Type 0
OpensTable most old new u rule (Ok t) = IsSome (tree_at new t) × (tree_at new t ≡ tree_of_table u)
    × KeepsLimit most old new
OpensTable most old new u rule (Err Rule) =
    (broken_by_table u ≡ Some rule) × KeepsLimit most old new
OpensTable most old new u rule (Err Memory) = KeepsLimit most old new
OpensTable most old new u rule (Err Full) = IsFull new most
OpensTable most old new u rule (Err e) = ⊥

-- ReadsTable most old new text place rule r: the tree of the table that a text spells is made; or
-- the store is unchanged, since the text is too long or leaves the grammar at `place`; or the text
-- spells a tree that violates a rule of tables, or memory, cells or names ran out
abbrev pub ReadsTable : ℕ → Store → Store → List ℕ → ℕ → ℕ → Result Term Fault → Type 0
ReadsTable most old new text place rule (Err Range) = IsVerdict text TooLong × (new ≡ old)
ReadsTable most old new text place rule (Err Syntax) =
    IsVerdict text (Outside place) × (rule ≡ 0) × (new ≡ old)
ReadsTable most old new text place rule (Err Memory) = KeepsLimit most old new
ReadsTable most old new text place rule r = OnSpelt text (λ u. OpensTable most old new u rule r)
