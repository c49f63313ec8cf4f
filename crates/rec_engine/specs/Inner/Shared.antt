-- Terms that are their own values.
use Rattle.std.specs.Prelude.{ℕ, ◌≡◌, true, Some, nat_eq}
use Rattle.indexmap.specs.IndexMap.{IndexMap, get}
use Rattle.rx_term.specs.Tree.{Tree, Trees}
use Rattle.rx_term.specs.Store.{Store}
use Rattle.rx_term.specs.Walks.{held_tree}
use Rattle.rec_syntax.specs.Syntax.{Spec}
use Rattle.rec_sorts.specs.Laws.{Every}
use Rattle.rec_sorts.specs.Walking.{backwards, backwards_all}
use Rattle.rec_match.specs.declared.matcher.Matcher.{Matcher}
use Rattle.rec_engine.specs.Machine.{HasNone}
use Rattle.rec_engine.specs.Inner.Given.{IsCallOf}
use Rattle.rec_engine.specs.declared.engine.shared.Shape.{Shape}
use Rattle.rec_engine.specs.Inner.Visits.{reference}

-- HasNoRules y m t: the tree is an application of a symbol that has no rules
pub record HasNoRules (y : Spec) (m : Matcher) (t : Tree) : Type 0 where
  pub symbol : ℕ
  pub count : ℕ
  pub call : IsCallOf y t symbol count
  pub none : HasNone m symbol

-- IsOwnValue y m t: no symbol in the tree has rules, so that it is its own value
abbrev pub IsOwnValue : Spec → Matcher → Tree → Type 0
IsOwnValue y m t = Every (HasNoRules y m) (backwards t)

-- AreOwnValues y m ts: no symbol in the trees has rules
abbrev pub AreOwnValues : Spec → Matcher → Trees → Type 0
AreOwnValues y m ts = Every (HasNoRules y m) (backwards_all ts)

-- AreShapes y m w shapes: each term whose shape says so is its own value
abbrev pub AreShapes : {S : Type 0} → Spec → Matcher → Store → IndexMap ℕ Shape S → Type 0
AreShapes y m w shapes = (n : ℕ) (s : Shape) → get nat_eq shapes n ≡ Some s → s.is_value ≡ true
    → IsOwnValue y m (held_tree w (reference n))
