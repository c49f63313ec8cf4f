use Rattle.std.proofs.Common.{◌≤◌, length, arith, refl}
use Rattle.rx_text.specs.Lexemes.{name_of}
use Rattle.rx_term.proofs.StoreLemmas.{Grows-Makes, Grows-Refuses, Grows-trans}
use Rattle.rx_text.proofs.MakingLemmas.{as_many, applied_there, application_made}
use Rattle.rx_text.proofs.build.make_application.Goals as goal

pub appl-requires : goal.appl-requires
appl-requires g c =
    let trees = c.requires.held.0 in
    let e = applied_there (g.B.TermBank.store c.take_list.new.bank) (g.B.TermBank.store c.symbol_of.new.bank) c.in_ok-args.args c.in_ok-symbol.symbol
    (name_of c.args.bytes.now c.args.word) c.args.word.quoted c.args.count trees c.symbol_of.ensures.grows c.requires.held.2
    c.in_ok-symbol.ensures.symbol (c.in_ok-args.ensures.list trees c.requires.held.1) in
    rw e refl

pub returns-clause-made : goal.returns-clause-made
returns-clause-made g c = λ trees held.
    let some : c.args.count ≤ length c.requires.held.0 = c.requires.held.2 in
    let same = as_many (g.B.TermBank.store c.args.bank.now) c.args.made.now.items trees c.requires.held.0 held c.requires.held.1 in
    let enough : c.args.count ≤ length trees = omega (arith, some, same) in
    application_made (g.B.TermBank.store c.take_list.new.bank) (g.B.TermBank.store c.symbol_of.new.bank) (g.B.TermBank.store c.appl.new.self)
    c.in_ok-args.args c.in_ok-appl.field-0 c.in_ok-symbol.symbol (name_of c.args.bytes.now c.args.word) c.args.word.quoted c.args.count
    c.take_list.new.made.items trees
    c.symbol_of.ensures.grows enough c.in_ok-symbol.ensures.symbol (c.in_ok-args.ensures.list trees held) c.in_ok-appl.ensures
    (c.in_ok-args.ensures.left trees held)

pub returns-in_err-symbol-clause-grows : goal.returns-in_err-symbol-clause-grows
returns-in_err-symbol-clause-grows g c = Grows-trans c.take_list.ensures.grows c.symbol_of.ensures.grows

pub returns-in_err-appl-clause-grows : goal.returns-in_err-appl-clause-grows
returns-in_err-appl-clause-grows g c = Grows-trans (Grows-trans c.take_list.ensures.grows c.symbol_of.ensures.grows) (Grows-Refuses c.in_err-appl.ensures)

pub returns-clause-grows : goal.returns-clause-grows
returns-clause-grows g c = Grows-trans (Grows-trans c.take_list.ensures.grows c.symbol_of.ensures.grows) (Grows-Makes c.in_ok-appl.ensures)
