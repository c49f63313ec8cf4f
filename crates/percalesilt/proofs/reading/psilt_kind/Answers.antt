use Rattle.std.proofs.Common.{ℕ, ℤ, Some, sym, ap, ◌∙◌}
use Rattle.rx_term.specs.Store.{Store}
use Rattle.psilt_core.specs.Banks.{store_of}
use Rattle.psilt_core.specs.Answers.{term_of, Looks, HasKindNumber}
use Rattle.psilt_core.specs.Codes.{told}
use Rattle.psilt_core.specs.declared.work.Work.{Work}
use Rattle.percalesilt.proofs.BankLemmas.{in_bank}
use Rattle.percalesilt.proofs.reading.psilt_kind.Goals as goal

pub returns-clause-answer : goal.returns-clause-answer
returns-clause-answer c =
    let v = c.deref.result.now in let same = ap (λ (w : Work). Some w) (sym c.deref.ensures) in let t = term_of c.args.term in
    in_bank c.args.psilt.now c.put.new.self c.tell_kind.result v
    (λ (w : Store). Looks {X = ℕ × ℤ} w t (λ k. HasKindNumber w t k.0 k.1) (told {X = ℕ × ℤ} c.tell_kind.result (c.tell_kind.new.kind, c.tell_kind.new.value)))
    (c.in-Some.ensures.taken ∙ same) (c.put.ensures ∙ same) (c.tell_kind.ensures.answer (store_of v.bank) t c.kind-answer.ensures)
