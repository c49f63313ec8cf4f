use Rattle.std.proofs.Common.{◌<◌, length, is_some, sym, ap, subst}
use Rattle.std.proofs.lemmas.Option.{slice_get_within}
use Rattle.rx_term.proofs.StoreLemmas.{some-value}
use Rattle.rx_names.specs.Words.{words_of}
use Rattle.rx_names.specs.Names.{symbols_of}
use Rattle.rx_names.proofs.NameLemmas.{stands, the-entry}
use Rattle.rx_names.proofs.names.Names.get.Goals as goal
use Rattle.std.specs.FinMap as map

pub entry_at-entry-requires : goal.entry_at-entry-requires
entry_at-entry-requires c =
    let n = c.args.self.now in
    let g = some-value (map.get (symbols_of n) c.args.symbol.0) c.requires in
    let x = stands (words_of n.words) n.entries.keys c.args.symbol.0 g.0 g.1 in
    subst (λ es. c.args.symbol.0 < length es) (sym c.as_slice.ensures.keys) (slice_get_within n.entries.keys c.args.symbol.0 x.entry x.at)

pub get-requires : goal.get-requires
get-requires c =
    let n = c.args.self.now in
    let x = the-entry n c.args.symbol.0 c.entry_at-entry.result c.as_slice.result.now c.requires c.as_slice.ensures.keys c.entry_at-entry.ensures in
    ap is_some x.1.0

pub returns : goal.returns
returns c =
    let n = c.args.self.now in
    let e = c.entry_at-entry.result in
    let x = the-entry n c.args.symbol.0 e c.as_slice.result.now c.requires c.as_slice.ensures.keys c.entry_at-entry.ensures in
    x.1.1 c.get.result.now c.get.ensures
