use Rattle.std.proofs.Common.{rules, ◌≡◌, ℕ, length, subst}
use Rattle.std.specs.Prelude.{IfErr}
use Rattle.psilt_core.specs.Names.{IsNameFault}
use Rattle.psilt_core.specs.Banks.{store_of}
use Rattle.psilt_core.proofs.EvaluatingLemmas.{same_bank}
use Rattle.psilt_core.proofs.SymbolLemmas.{applies_name}
use Rattle.psilt_core.proofs.work.Work.appl.Goals as goal

pub returns-clause-beside : goal.returns-clause-beside
returns-clause-beside c = same_bank c.args.self.now c.apply_name.new.bank c.apply_name.ensures.beside

pub returns-clause-answer : goal.returns-clause-answer
returns-clause-answer c =
    rw c.term_or_fault.ensures (applies_name c.args.self.now.bank.most_names (store_of c.args.self.now.bank) (store_of c.apply_name.new.bank)
    c.args.name.now c.args.quoted c.args.args.now c.apply_name.result c.apply_name.ensures.grows c.apply_name.ensures.made c.apply_name.ensures.limit
    (let is : c.in-Ok.arity ≡ length c.args.args.now = search rules in
    subst (λ (n : ℕ). IfErr c.apply_name.result (IsNameFault c.args.self.now.bank.most_names (store_of c.args.self.now.bank)
    (store_of c.apply_name.new.bank) (record { name = c.args.name.now; quoted = c.args.quoted; arity = n }))) is c.apply_name.ensures.full))
