use Rattle.std.proofs.Common.{rules, ◌++◌, ap, sym, subst, ◌∙◌, take, map}
use Rattle.std.proofs.lemmas.List.{take_all}
use Rattle.std.specs.Prelude.{flat_map}
use Rattle.rec_syntax.specs.Parts.{group_of}
use Rattle.rec_uses.specs.Inner.Tables.{Holds}
use Rattle.rec_uses.specs.Uses.{group_declared}
use Rattle.rec_uses.proofs.TableLemmas.{flat_more, holds_behind}
use Rattle.rec_uses.proofs.tables.note_groups.Goals as goal

pub loop-group-preserved : goal.loop-group-preserved
loop-group-preserved c =
    let h = c.loop-group.invariant in
    let source = c.args.syntax.now.source in
    let items = c.groups-group-items.result.now in
    let i = c.loop-group.group-index in
    let item = c.group-item.result in
    record {
      cursor = search rules;
      texts = λ ds held. holds_behind source c.note_group.new.texts ds (flat_map group_declared (map (group_of source) (take i items)))
          (group_declared (group_of source item)) _
          (flat_more group_declared (group_of source) items i item c.loop-group-test.true
          ∙ ap (λ x. flat_map group_declared (map (group_of source) (take i items)) ++ group_declared (group_of source x)) (sym c.group-item.is))
          (c.in_ok-note_group.ensures.texts (ds ++ flat_map group_declared (map (group_of source) (take i items))) (h.texts ds held));
    }

pub returns : goal.returns
returns c = λ ds held.
    let source = c.args.syntax.now.source in
    subst (λ vs. Holds source c.loop-group.texts (ds ++ flat_map group_declared vs))
    (ap (map (group_of source)) (take_all c.loop-group.group-index c.groups-group-items.result.now c.loop-group-test.false)
    ∙ c.groups-group-items.ensures.groups)
    (c.loop-group.invariant.texts ds held)
