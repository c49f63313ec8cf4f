use Rattle.std.proofs.Common.{◌≡◌, Some, length, refl, subst, sym}
use Rattle.rx_term.specs.Store.{tree_at}
use Rattle.rx_term.specs.Tree.{Tree, Trees, annotated, annotations, to_list}
use Rattle.rx_term.specs.Walks.{HaveTrees, held_tree}
use Rattle.rx_table.specs.Table.{direct}
use Rattle.rx_table.specs.Inner.Walk.{body_items}
use Rattle.rx_table.specs.Inner.Made.{each, remade}
use Rattle.std.proofs.Common.{map}
use Rattle.rx_table.proofs.MadeLemmas.{GivesBody, body-have, count-all, count-within, notes-have, ok-by, part-bare, part-gives}
use Rattle.rx_table.proofs.made.make_part.Goals as goal

pub body_count-requires-clause-count : goal.body_count-requires-clause-count
body_count-requires-clause-count g c =
    let v = g.B.TermBank.store c.args.from.now in
    let w = g.C.TermBank.store c.args.to.now in
    count-all v w c.args.t c.args.items.now c.requires.items.0 c.requires.items.1 (length (body_items (held_tree v c.args.t))) refl

pub split_at-requires : goal.split_at-requires
split_at-requires g c =
    let v = g.B.TermBank.store c.args.from.now in
    let w = g.C.TermBank.store c.args.to.now in
    count-within v w c.args.t c.args.items.now c.requires.items.0 c.requires.items.1 c.body_count.result c.body_count.ensures

pub make_body-requires-clause-items : goal.make_body-requires-clause-items
make_body-requires-clause-items g c =
    let v = g.B.TermBank.store c.args.from.now in
    let w = g.C.TermBank.store c.args.to.now in
    let f = c.requires.items.0 in (
      f,
      subst (λ z. HaveTrees w z (map f (body_items (held_tree v c.args.t)))) (sym c.split_at.ensures.front)
          (body-have v w c.args.t c.args.items.now f c.requires.items.1 c.body_count.result c.body_count.ensures),
    )

pub annotate-requires-clause-body : goal.annotate-requires-clause-body
annotate-requires-clause-body g c =
    let v = g.B.TermBank.store c.args.from.now in
    let w = g.C.TermBank.store c.args.to.now in
    let u = g.C.TermBank.store c.make_body.new.to in
    let body = c.in_ok-body.body in
    let b = subst (λ z. GivesBody v w u c.args.t z body) c.split_at.ensures.front c.in_ok-body.ensures.body in
    part-bare v w c.args.t c.args.items.now c.requires.items.0 c.requires.items.1 c.body_count.result c.body_count.ensures u body b

pub annotate-requires-clause-notes : goal.annotate-requires-clause-notes
annotate-requires-clause-notes g c =
    let v = g.B.TermBank.store c.args.from.now in
    let w = g.C.TermBank.store c.args.to.now in
    let u = g.C.TermBank.store c.make_body.new.to in
    let f = c.requires.items.0 in
    let us = each f (annotations (held_tree v c.args.t)) in (
      us,
      subst (λ z. HaveTrees u z (to_list us)) (sym c.split_at.ensures.back)
          (notes-have v w c.args.t c.args.items.now f c.requires.items.1 c.body_count.result c.body_count.ensures u c.make_body.ensures.grows),
    )

pub returns-clause-part : goal.returns-clause-part
returns-clause-part g c =
    let v = g.B.TermBank.store c.args.from.now in
    let w = g.C.TermBank.store c.args.to.now in
    let u = g.C.TermBank.store c.make_body.new.to in
    let x = g.C.TermBank.store c.annotate.new.to in
    let t = c.args.t in
    let items = c.args.items.now in
    let notes = c.split_at.result.1.now in
    let body = c.in_ok-body.body in
    let b = subst (λ z. GivesBody v w u t z body) c.split_at.ensures.front c.in_ok-body.ensures.body in
    ok-by (λ r. (a : Tree) (us : Trees) → tree_at u body ≡ Some a → HaveTrees u notes (to_list us) → tree_at x r ≡ Some (annotated a us))
    (λ r. (f : Tree → Tree) → HaveTrees w items (map f (direct (held_tree v t))) → tree_at x r ≡ Some (remade f (held_tree v t)))
    (λ r h f q. part-gives v w t items f q c.body_count.result c.body_count.ensures u body b c.make_body.ensures.grows x r
    (λ a us at have. h a us at (subst (λ z. HaveTrees u z (to_list us)) (sym c.split_at.ensures.back) have))) c.annotate.result
    c.annotate.ensures.annotated
