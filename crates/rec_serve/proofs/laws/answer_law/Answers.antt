use Rattle.rec_serve.proofs.AnswerLemmas.{no_want, one_answer, one_line}
use Rattle.rec_serve.proofs.laws.answer_law.Goals as goal

pub returns-clause-one : goal.returns-clause-one
returns-clause-one c = one_answer

pub returns-clause-line : goal.returns-clause-line
returns-clause-line c = one_line

pub returns-clause-no_want : goal.returns-clause-no_want
returns-clause-no_want c = no_want
