use Rattle.std.proofs.lemmas.List.Elements.{All-nil}
use Rattle.rec_syntax.specs.Parts.{IsCondition}
use Rattle.rec_syntax.proofs.ReadingLemmas.{rule_pushed}
use Rattle.rec_syntax.proofs.reader.Reader.after_right.Goals as goal

pub between-requires-clause-sections : goal.between-requires-clause-sections
between-requires-clause-sections c =
    let r = c.args.self.now in
    rule_pushed r.source.items r.sections c.push.new.self _ c.in_ok-push-in_default.ensures.items c.requires.sections
    (record { left = c.requires.left; right = c.requires.right; conditions = rw c.new.ensures.items (All-nil (IsCondition r.source.items)) })
