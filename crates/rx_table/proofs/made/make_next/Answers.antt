use Rattle.std.proofs.Common.{◌≡◌, ◌∙◌, Some, length, map, subst}
use Rattle.rx_term.specs.Store.{tree_at}
use Rattle.rx_term.specs.Tree.{Tree}
use Rattle.rx_term.specs.Walks.{HaveTrees}
use Rattle.rx_table.specs.Table.{direct}
use Rattle.rx_table.specs.Inner.Walk.{part_tree}
use Rattle.rx_table.specs.Inner.Made.{AreMade, remade}
use Rattle.rx_table.proofs.MadeLemmas.{next-have, ok-by}
use Rattle.rx_table.proofs.made.make_next.Goals as goal

pub inside_of-requires-clause-parts : goal.inside_of-requires-clause-parts
inside_of-requires-clause-parts g c = (g.B.TermBank.store c.args.from.now, c.requires.parts)

pub make_part-requires-clause-items : goal.make_part-requires-clause-items
make_part-requires-clause-items g c =
    let v = g.B.TermBank.store c.args.from.now in
    let w = g.C.TermBank.store c.args.to.now in
    let f = c.requires.made.0 in (
      f,
      next-have v c.args.parts.now.terms.keys f w c.args.made.now c.requires.made.1 c.requires.next c.inside_of.result.now c.as_slice.result.now
          c.deref.result.now c.inside_of.ensures.below (c.inside_of.ensures.trees v c.requires.parts.0 c.requires.parts.1)
          (c.deref.ensures.value ∙ c.in-Ok.ensures) c.as_slice.ensures,
    )

pub returns-clause-part : goal.returns-clause-part
returns-clause-part g c =
    let v = g.B.TermBank.store c.args.from.now in
    let w = g.C.TermBank.store c.args.to.now in
    let x = g.C.TermBank.store c.make_part.new.to in
    let keys = c.args.parts.now.terms.keys in
    let made = c.args.made.now in
    let slice = c.as_slice.result.now in
    let items = c.deref.result.now in
    ok-by (λ r. (f : Tree → Tree) → HaveTrees w items (map f (direct (part_tree v slice (length made))))
    → tree_at x r ≡ Some (remade f (part_tree v slice (length made))))
    (λ r. (f : Tree → Tree) → AreMade v keys f w made → tree_at x r ≡ Some (remade f (part_tree v keys (length made))))
    (λ r k f h. subst (λ ks. tree_at x r ≡ Some (remade f (part_tree v ks (length made)))) c.as_slice.ensures (k f
    (next-have v keys f w made h c.requires.next c.inside_of.result.now slice items c.inside_of.ensures.below
    (c.inside_of.ensures.trees v c.requires.parts.0 c.requires.parts.1) (c.deref.ensures.value ∙ c.in-Ok.ensures) c.as_slice.ensures)))
    c.make_part.result c.make_part.ensures.part
