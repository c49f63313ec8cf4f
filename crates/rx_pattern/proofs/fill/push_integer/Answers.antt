use Rattle.std.proofs.Common.{◌∷◌, ◌∙◌, ap, ℤ, Option, Some, w32}
use Rattle.std.proofs.lemmas.Int.{to_z-of_z}
use Rattle.rx_term.specs.Tree.{Tree, Int, none}
use Rattle.rx_term.proofs.StoreLemmas.{Grows-Makes}
use Rattle.rx_pattern.specs.Code.{Several}
use Rattle.rx_pattern.proofs.StackLemmas.{still_on}
use Rattle.rx_pattern.proofs.JoiningLemmas.{on_ok}
use Rattle.rx_pattern.proofs.fill.push_integer.Goals as goal

pub push_noted-requires-clause-newest : goal.push_noted-requires-clause-newest
push_noted-requires-clause-newest g c = (
  c.requires.0,
  (
    c.requires.1.0,
    still_on (g.B.TermBank.store c.args.bank.now) (g.B.TermBank.store c.int.new.self) (Grows-Makes c.in_ok-t.ensures)
        c.args.made.now.items (Several c.requires.0 ∷ c.requires.1.0) c.requires.1.1,
  ),
)

pub returns-clause-made : goal.returns-clause-made
returns-clause-made g c =
    on_ok _ _ c.push_noted.result c.push_noted.ensures.made (λ made anns ps on.
    made (Int c.args.value none) anns ps (c.in_ok-t.ensures.made
    ∙ ap (λ (z : ℤ). let o : Option Tree = Some (Int z none) in o) (to_z-of_z w32 c.args.value c.ranges.value))
    (still_on (g.B.TermBank.store c.args.bank.now) (g.B.TermBank.store c.int.new.self) (Grows-Makes c.in_ok-t.ensures) c.args.made.now.items
    (Several anns ∷ ps) on))
