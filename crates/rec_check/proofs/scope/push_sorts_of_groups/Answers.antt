use Rattle.std.proofs.Common.{◌∷◌}
use Rattle.std.specs.Prelude.{map}
use Rattle.rec_syntax.specs.Syntax.{Variables}
use Rattle.rec_syntax.specs.Parts.{group_of}
use Rattle.rec_check.specs.Named.{as_word}
use Rattle.rec_check.proofs.ListLemmas.{grown_by_some}
use Rattle.rec_check.proofs.scope.push_sorts_of_groups.Goals as goal

pub loop-group-preserved : goal.loop-group-preserved
loop-group-preserved c =
    grown_by_some as_word (λ (v : Variables). map (λ _. v.sort) (v.first ∷ v.others)) (group_of c.args.syntax.now.source) c.args.groups.now
    c.loop-group.group-index c.group-item.result c.args.words.now.items c.loop-group.words.items
    c.push_sort_of_each.new.words.items c.loop-group-test.true c.group-item.is c.loop-group.invariant c.in_ok-push_sort_of_each.ensures
