-- The reference of what a printed text spells.
use Rattle.std.proofs.Common.{◌≡◌, ℕ, List, Some, ap, ◌∙◌, subst, sym}
use Rattle.rx_term.specs.Tree.{Tree}
use Rattle.rx_term.specs.Store.{Store, tree_at}
use Rattle.rx_term.specs.Steps.{IsSound, Grows}
use Rattle.rx_term.specs.declared.Term.{Term}
use Rattle.rx_text.specs.Grammar.{Spells}
use Rattle.rx_text.specs.Canon.{canon}
use Rattle.rx_text.specs.Law.{PrintedSpells, OneTree}

-- it is that of the tree that was printed
pub same_reference : (old new : Store) (t r : Term) (bytes : List ℕ) (u v : Tree) → IsSound old → IsSound new → Grows old new → PrintedSpells
    → OneTree → tree_at old t ≡ Some u → bytes ≡ canon u → tree_at new r ≡ Some v → Spells bytes v → r ≡ t
same_reference old new t r bytes u v s z g spells one e text there spelt =
    let same : v ≡ u = one bytes v u spelt (subst (λ b. Spells b u) (sym text) (spells u (s.valid t u e))) in
    z.one_to_one r t u (there ∙ ap Some same) (g.trees t u e)
