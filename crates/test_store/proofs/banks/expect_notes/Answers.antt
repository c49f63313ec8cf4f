use Rattle.std.proofs.Common.{◌≡◌, Some, pos, is_some, refl, ap, ◌∙◌}
use Rattle.rx_term.specs.Tree.{Tree, Int, Items, none, more, list_of}
use Rattle.rx_term.specs.Store.{Store, tree_at, longer, held_open, noted}
use Rattle.rx_term.specs.Rows.{noted_seven}
use Rattle.rx_term.specs.Steps.{Makes, Grows}
use Rattle.rx_term.specs.declared.Term.{Term}
use Rattle.rx_term.proofs.StoreLemmas.{kept-Makes}
use Rattle.test_store.proofs.banks.expect_notes.Goals as goal

abbrev sevens : Tree
sevens = list_of (more (Int (pos 7) none) none)

-- 7 and the list of it are there
record Parts (w : Store) (seven list : Term) : Type 0 where
  seven_is : tree_at w seven ≡ Some (Int (pos 7) none)
  list_is : tree_at w list ≡ Some sevens

made : {u v w x : Store} {seven nil list : Term} → Makes u v (Some (Int (pos 7) none)) seven → Makes v w (Some (Items none none)) nil
    → Makes w x (longer (tree_at w seven) (tree_at w nil)) list → Parts x seven list
made {w = w} {seven = seven} {nil = nil} s n l =
    let there = kept-Makes n seven (Int (pos 7) none) s.made in
    let empty = n.made in
    let whole : longer (tree_at w seven) (tree_at w nil) ≡ Some sevens = rw (there, empty) refl in
    record { seven_is = kept-Makes l seven (Int (pos 7) none) there; list_is = l.made ∙ whole }

kept : {w x : Store} {seven list : Term} → Grows w x → Parts w seven list → Parts x seven list
kept {seven = seven} {list = list} g p = record { seven_is = g.trees seven (Int (pos 7) none) p.seven_is; list_is = g.trees list sevens p.list_is }

noted_tree : {w : Store} {seven list : Term} → Parts w seven list → noted (held_open (tree_at w seven)) (tree_at w list) ≡ Some noted_seven
noted_tree p = let s = p.seven_is in let l = p.list_is in rw (s, l) refl

pub note_hole-requires-clause-inner : goal.note_hole-requires-clause-inner
note_hole-requires-clause-inner g c =
    let p = made c.in_ok-seven.ensures c.in_ok-nil.ensures c.in_ok-list.ensures in
    ap is_some p.seven_is

pub note_hole-requires-clause-anns : goal.note_hole-requires-clause-anns
note_hole-requires-clause-anns g c =
    let p = made c.in_ok-seven.ensures c.in_ok-nil.ensures c.in_ok-list.ensures in
    ap is_some (noted_tree p)

pub expect_list_of_seven-requires-clause-seven : goal.expect_list_of_seven-requires-clause-seven
expect_list_of_seven-requires-clause-seven g c =
    let p = made c.in_ok-seven.ensures c.in_ok-nil.ensures c.in_ok-list.ensures in
    let q = kept c.note_hole.ensures.grows p in
    ap is_some q.seven_is

pub expect_list_of_seven-requires-clause-head : goal.expect_list_of_seven-requires-clause-head
expect_list_of_seven-requires-clause-head g c =
    let p = made c.in_ok-seven.ensures c.in_ok-nil.ensures c.in_ok-list.ensures in
    let q = kept c.note_hole.ensures.grows p in
    let here = q.list_is in
    rw here refl

pub expect_list_of_seven-requires-clause-tail : goal.expect_list_of_seven-requires-clause-tail
expect_list_of_seven-requires-clause-tail g c =
    let p = made c.in_ok-seven.ensures c.in_ok-nil.ensures c.in_ok-list.ensures in
    let q = kept c.note_hole.ensures.grows p in
    let here = q.list_is in
    rw here refl

pub expect_noted_hole-requires-clause-tree : goal.expect_noted_hole-requires-clause-tree
expect_noted_hole-requires-clause-tree g c =
    let p = made c.in_ok-seven.ensures c.in_ok-nil.ensures c.in_ok-list.ensures in
    ap is_some (c.in_ok-noted.ensures.made ∙ noted_tree p)

pub expect_noted_hole-requires-clause-hole : goal.expect_noted_hole-requires-clause-hole
expect_noted_hole-requires-clause-hole g c =
    let p = made c.in_ok-seven.ensures c.in_ok-nil.ensures c.in_ok-list.ensures in
    let here = c.in_ok-noted.ensures.made ∙ noted_tree p in
    rw here refl
