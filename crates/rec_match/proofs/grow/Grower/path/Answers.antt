use Rattle.std.proofs.Common.{sym, ap, subst, ◌∙◌, ◌≡◌, ◌++◌, ◌∷◌, [], List, reverse}
use Rattle.std.proofs.lemmas.List.{reverse-reverse}
use Rattle.rec_match.specs.Inner.Tasks.{CanStep, Steps}
use Rattle.rec_match.specs.Matching.{numbers_of}
use Rattle.rec_match.specs.Parts.{coded_of}
use Rattle.rec_match.specs.declared.parts.Code.{Code}
use Rattle.rec_match.proofs.PathLemmas.{row_task, can_path, path_tree}
use Rattle.rec_match.proofs.TaskLemmas.{steps_more}
use Rattle.rec_match.proofs.grow.Grower.path.Goals as goal

-- codes that were put after none, the first one last
turned_back : (values none rest codes own : List Code) → values ≡ [] → none ≡ [] → rest ≡ none ++ reverse codes → codes ≡ own → values ++ reverse rest ≡ own
turned_back values none rest codes own ev en er eo = ap (λ xs. xs ++ reverse rest) ev ∙ ap reverse (er ∙ ap (λ xs. xs ++ reverse codes) en)
    ∙ reverse-reverse codes ∙ eo

pub ask_all-requires-clause-can : goal.ask_all-requires-clause-can
ask_all-requires-clause-can c =
    let g = c.args.self.now in
    let row = c.args.row.now in
    let k = c.requires.can in
    let codes = turned_back c.new.result.items c.new-rest.result.items c.push_reversed.new.rest.items c.deref.result.now row.codes.items
    c.new.ensures.items c.new-rest.ensures.items c.in_ok-push_reversed.ensures c.deref.ensures.value in
    subst (λ cs. CanStep g c.add_node.new.self (row_task c.in_ok-root.root c.args.width row.rule cs ∷ [])) (sym codes)
    (can_path g.checked.now.spec (numbers_of g.links.now) g.left.now.parts c.args.forest.now c.add_node.new.self c.args.width (coded_of row)
    c.in_ok-root.root k.states k.rows c.in_ok-root.ensures.adds k.growing k.left)

pub end-requires-clause-can : goal.end-requires-clause-can
end-requires-clause-can c =
    let g = c.args.self.now in
    let row = c.args.row.now in
    let k = c.requires.can in
    let codes = turned_back c.new.result.items c.new-rest.result.items c.push_reversed.new.rest.items c.deref.result.now row.codes.items
    c.new.ensures.items c.new-rest.ensures.items c.in_ok-push_reversed.ensures c.deref.ensures.value in
    let s = subst (λ cs. CanStep g c.add_node.new.self (row_task c.in_ok-root.root c.args.width row.rule cs ∷ [])) (sym codes)
    (can_path g.checked.now.spec (numbers_of g.links.now) g.left.now.parts c.args.forest.now c.add_node.new.self c.args.width (coded_of row)
    c.in_ok-root.root k.states k.rows c.in_ok-root.ensures.adds k.growing k.left) in
    let x = c.in_ok-ask_all.ensures.steps s.0 s.1 in
    (x.states, x.growing)

pub returns-clause-tree : goal.returns-clause-tree
returns-clause-tree c =
    let y = c.args.self.now.checked.now.spec in
    let ns = numbers_of c.args.self.now.links.now in
    let ps = c.args.self.now.left.now.parts in
    let row = c.args.row.now in
    let g = c.add_node.new.self in
    let h = c.end.new.forest in
    let codes = turned_back c.new.result.items c.new-rest.result.items c.push_reversed.new.rest.items c.deref.result.now row.codes.items
    c.new.ensures.items c.new-rest.ensures.items c.in_ok-push_reversed.ensures c.deref.ensures.value in
    path_tree y ns ps c.args.forest.now g h c.args.width (coded_of row) c.in_ok-root.root c.in_ok-root.ensures.adds
    (subst (λ cs. Steps y ns ps g (row_task c.in_ok-root.root c.args.width row.rule cs ∷ []) h []) codes
    (steps_more y ns ps g c.ask_all.new.forest h _ _ [] c.in_ok-ask_all.ensures.steps c.in_ok-end.ensures.steps))
