use Rattle.std.proofs.Common.{sym, ap, subst, arith, ◌∙◌, ◌≡◌, ◌+◌, ◌++◌, ◌∷◌, [], reverse}
use Rattle.std.proofs.lemmas.List.{get_or_default}
use Rattle.std.specs.Prelude.{slice_range}
use Rattle.rec_sorts.specs.Numbering.{arity_of}
use Rattle.rec_match.specs.Parts.{part_at, no_part, arguments_at, numbered_from}
use Rattle.rec_match.specs.Inner.Tasks.{Steps, WritesSwitch}
use Rattle.rec_match.specs.Matching.{numbers_of}
use Rattle.rec_match.specs.declared.parts.Part.{Part}
use Rattle.rec_match.proofs.BranchLemmas.{number_is}
use Rattle.rec_match.proofs.PathLemmas.{row_task, pass_steps, reversed-twice}
use Rattle.rec_match.proofs.grow.Grower.pass.Goals as goal

pub returns-clause-steps : goal.returns-clause-steps
returns-clause-steps c =
    let y = c.args.self.now.checked.now.spec in
    let ns = numbers_of c.args.self.now.links.now in
    let ps = c.args.self.now.left.now.parts in
    let f = c.args.forest.now in
    let h = c.add_node-2.new.self in
    let e = c.write_switch.new.self in
    let path = c.args.path.now in
    let k = c.args.symbol in
    let rest = path.rest.items in
    let own = arguments_at ps c.args.code.part in
    let part : c.index-part.result.now ≡ part_at ps c.args.code.part =
    c.index-part.ensures ∙ get_or_default ps.parts.items c.args.code.part c.index-part.result.now no_part c.requires.asks.code.there in
    let pushed : c.push_asked.new.rest.items ≡ rest ++ reverse (numbered_from path.width own) =
    c.in_ok-push_asked.ensures ∙ ap (λ (p : Part). rest ++ reverse (numbered_from path.width (slice_range ps.arguments.items p.from p.to))) part in
    let left : reverse c.push_asked.new.rest.items ≡ numbered_from path.width own ++ reverse rest =
    ap reverse pushed ∙ reversed-twice rest (numbered_from path.width own) in
    let linked = c.requires.ready.linked in
    let declared = c.requires.asks.declared in
    let number = number_is c.args.self.now.links.now k c.symbol_of-low.result (omega (arith, linked, declared)) c.symbol_of-low.ensures in
    let written = subst (λ low. WritesSwitch h e path.node c.args.code.register low ((record { node = c.in_ok-node.node; count = arity_of y k }) ∷ [])
    c.in_ok-other.other) (sym number)
    (subst (λ m. WritesSwitch h e path.node c.args.code.register c.symbol_of-low.result.0 ((record { node = c.in_ok-node.node; count = m }) ∷ [])
    c.in_ok-other.other) c.arity-count.ensures c.in_ok-write_switch.ensures) in
    let steps = pass_steps y ns ps c.requires.ready.ground f c.add_node.new.self h e path.node path.width path.rule path.values.items (reverse rest)
    c.args.code k c.in_ok-other.other c.in_ok-node.node c.requires.asks.meaning c.in_ok-other.ensures.adds c.in_ok-node.ensures.adds written in
    subst (λ xs. Steps y ns ps f (row_task path.node path.width path.rule (path.values.items ++ c.args.code ∷ reverse rest) ∷ []) e
    (row_task c.in_ok-node.node (path.width + c.arity-count.result) path.rule (path.values.items ++ xs) ∷ [])) (sym left)
    (subst (λ m. Steps y ns ps f (row_task path.node path.width path.rule (path.values.items ++ c.args.code ∷ reverse rest) ∷ []) e
    (row_task c.in_ok-node.node (path.width + m) path.rule (path.values.items ++ (numbered_from path.width own ++ reverse rest)) ∷ []))
    (sym c.arity-count.ensures) steps)
