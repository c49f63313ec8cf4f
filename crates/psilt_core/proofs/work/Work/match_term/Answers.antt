use Rattle.std.proofs.Common.{rules, sym, refl}
use Rattle.std.specs.Prelude.{IsSome}
use Rattle.rx_term.specs.Store.{tree_at}
use Rattle.psilt_core.specs.Banks.{store_of}
use Rattle.psilt_core.proofs.MatchingLemmas.{binds, binds_nothing}
use Rattle.psilt_core.proofs.work.Work.match_term.Goals as goal

pub returns-in-Ok-true-clause-answer : goal.returns-in-Ok-true-clause-answer
returns-in-Ok-true-clause-answer c =
    let w = store_of c.args.self.now.bank in let there : IsSome (tree_at w c.args.t) = search rules in (
      binds _ c.in-Some.pattern.now w (store_of c.match_term.new.self) c.args.t c.match_term.new.found.items c.in-Ok-true.field-0 (sym c.in-Some.ensures)
          there c.in-Ok-true.field-0-test c.in-Ok-true.ensures.answer,
      search rules,
    )

pub returns-in-Ok-false-clause-answer : goal.returns-in-Ok-false-clause-answer
returns-in-Ok-false-clause-answer c =
    let w = store_of c.args.self.now.bank in let there : IsSome (tree_at w c.args.t) = search rules in (
      binds_nothing _ c.in-Some.pattern.now w (store_of c.match_term.new.self) c.args.t c.match_term.new.found.items c.in-Ok-false.field-0
          (sym c.in-Some.ensures) there c.in-Ok-false.field-0-test c.in-Ok-false.ensures.answer,
      refl,
    )
