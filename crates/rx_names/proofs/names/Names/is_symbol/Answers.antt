use Rattle.std.proofs.Common.{Some, slice_get, sym, ap, ◌∙◌}
use Rattle.std.specs.Cmp.Lexicographic.{same_text}
use Rattle.rx_term.specs.Name.{Signature}
use Rattle.rx_names.specs.Words.{words_of}
use Rattle.rx_names.proofs.NameLemmas.{allowed_there, entry_there, has-entry, same_flag}
use Rattle.rx_names.proofs.names.Names.is_symbol.Goals as goal

pub get-requires : goal.get-requires
get-requires c =
    let n = c.args.self.now in
    let e = c.entry_at-entry.result in
    let at = entry_there n c.args.place e c.as_slice-entries.result.now c.as_slice-entries.ensures.keys c.entry_at-entry.ensures in
    allowed_there (slice_get (words_of n.words) e.word) e.quoted (n.allowed c.args.place e at)

pub returns : goal.returns
returns c is =
    let n = c.args.self.now in
    let e = c.entry_at-entry.result in
    let at = entry_there n c.args.place e c.as_slice-entries.result.now c.as_slice-entries.ensures.keys c.entry_at-entry.ensures in
    let g : Signature = record { name = c.args.name.now; quoted = c.args.quoted; arity = c.args.arity } in
    let same = same_text c.get.result.now c.args.name.now (sym is ∙ c.eq.ensures) in
    let word = c.get.ensures ∙ ap (λ w. Some w) same in
    has-entry n g e word (same_flag e.quoted c.args.quoted c.if-entry-quoted.false) c.if-entry-arity.false (record { 0 = c.args.place }) at
