use Rattle.std.proofs.Common.{refl}
use Rattle.rx_term.specs.Name.{Signature}
use Rattle.rx_names.specs.declared.names.Entry.{Entry}
use Rattle.rx_names.proofs.NameLemmas.{lacks-word, found-or-lacks}
use Rattle.rx_names.proofs.names.Names.find.Goals as goal

pub returns-in-Some : goal.returns-in-Some
returns-in-Some c =
    let g : Signature = record { name = c.args.name.now; quoted = c.args.quoted; arity = c.args.arity } in
    let e : Entry = record { word = c.in-Some.word; quoted = c.args.quoted; arity = c.args.arity } in
    found-or-lacks c.args.self.now g e c.in-Some.ensures refl refl c.find_entry.result c.find_entry.ensures

pub returns-in-None : goal.returns-in-None
returns-in-None c =
    let g : Signature = record { name = c.args.name.now; quoted = c.args.quoted; arity = c.args.arity } in
    lacks-word c.args.self.now g c.in-None.ensures
