use Rattle.std.proofs.Common.{ap}
use Rattle.rx_term.proofs.KeepLemmas.{Keeps-trans}
use Rattle.psilt_core.specs.declared.work.Work.{Work}
use Rattle.psilt_core.proofs.EvaluatingLemmas.{normalises}
use Rattle.psilt_core.proofs.work.Work.normalise_controlled.Goals as goal

pub returns-in-Ok-clause-answer : goal.returns-in-Ok-clause-answer
returns-in-Ok-clause-answer g c =
    normalises c.args.self.now.bank c.check_given.new.self.bank c.normalise_given.new.self.bank c.args.t c.args.steps c.normalise_given.new.self.rule
    c.normalise_given.result.0 (ap (λ (w : Work). w.bank.specified) c.check_given.ensures.beside) c.check_given.ensures.given c.normalise_given.ensures.answer

pub returns-in-Ok-clause-keeps : goal.returns-in-Ok-clause-keeps
returns-in-Ok-clause-keeps g c = Keeps-trans c.check_given.ensures.keeps c.normalise_given.ensures.keeps
