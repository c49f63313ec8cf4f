use Rattle.std.proofs.Common.{refl, rules, sym, ◌∙◌}
use Rattle.std.specs.Prelude.{◌≡◌, Bool, true, false, not}
use Rattle.rec_check.proofs.UncoveredLemmas.{call_shown}
use Rattle.rec_check.proofs.uncovered.Asker.is_uncovered.Goals as goal

denied : (b : Bool) → not b ≡ true → b ≡ false
denied true e = absurd (cc e)
denied false e = refl

pub returns-in_ok-covers : goal.returns-in_ok-covers
returns-in_ok-covers c = λ d at call is.
    call_shown c.args.self.now.checked.now c.args.self.now.rewriter.checked.now c.args.symbol d c.args.call.now c.deref.result.now c.requires.same at
    (sym (c.is_ruled.ensures.begins d at) ∙ c.if-is_ruled.true) c.deref.ensures.value (c.in_ok-covers.ensures (denied c.in_ok-covers.field-0 is)) call (search rules)
