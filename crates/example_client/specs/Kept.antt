-- Protected terms.
use Rattle.std.specs.Prelude.{◌≡◌, ◌<◌}
use Rattle.rx_term.specs.Store.{Store, tree_at}
use Rattle.rx_term.specs.declared.Term.{Term}

-- IsProtected w t: the reference is protected
abbrev pub IsProtected : Store → Term → Type 0
IsProtected w t = 0 < w.roots t.0

-- KeepsRoots old new: each protected reference stays protected and has the same tree
abbrev pub KeepsRoots : Store → Store → Type 0
KeepsRoots old new = (t : Term) → IsProtected old t
    → IsProtected new t × (tree_at new t ≡ tree_at old t)
