use Rattle.std.proofs.Common.{arith, rules}
use Rattle.std.specs.Prelude.{get_or}
use Rattle.rec_check.proofs.ClassLemmas.{class_with_conditions}
use Rattle.rec_check.proofs.rewriting.classes.class_of.Goals as goal

pub returns-then-len-eq0 : goal.returns-then-len-eq0
returns-then-len-eq0 c = λ r.
    let own = c.rarest_symbol.ensures r in
    let declared = own.declared in
    record { within = omega (arith, declared); symbol = λ e. own }

pub returns-else-len-eq0 : goal.returns-else-len-eq0
returns-else-len-eq0 c = λ r.
    let y = c.args.checked.now.spec in
    class_with_conditions y c.letters.result.now (get_or y.rules c.args.rule r) c.symbols.result (c.letters.ensures r) (search rules) c.symbols.ensures
