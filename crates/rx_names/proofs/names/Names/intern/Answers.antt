use Rattle.std.proofs.Common.{refl}
use Rattle.rx_names.proofs.NameLemmas.{Interns-there}
use Rattle.rx_term.specs.Name.{Signature}
use Rattle.rx_names.proofs.names.Names.intern.Goals as goal

pub returns-then-is_symbol : goal.returns-then-is_symbol
returns-then-is_symbol c =
    let g : Signature = record { name = c.args.name.now; quoted = c.args.quoted; arity = c.args.arity } in
    Interns-there c.args.self.now _ g (c.if-is_symbol.ensures refl)
