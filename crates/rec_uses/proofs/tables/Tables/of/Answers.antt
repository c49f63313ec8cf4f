use Rattle.std.proofs.Common.{[]}
use Rattle.rec_uses.proofs.TableLemmas.{tables_made}
use Rattle.rec_uses.proofs.tables.Tables.of.Goals as goal

pub returns : goal.returns
returns c = tables_made c.args.syntax.now.source c.args.syntax.now.spec _ _ _ _ c.constructors.ensures.constructors c.operators.ensures.operators
    (c.in_ok-note_sorts.ensures [] (c.new-sorts.ensures c.args.syntax.now.source))
    (c.in_ok-note_groups.ensures _ (c.in_ok-note_symbols-2.ensures _ (c.in_ok-note_symbols.ensures [] (c.new-names.ensures c.args.syntax.now.source))))
