use Rattle.std.proofs.Common.{◌≡◌, ◌∙◌, [], length, sym}
use Rattle.std.proofs.lemmas.Bool.Decides.{Decides-eqb}
use Rattle.std.proofs.lemmas.List.{nil_from_length}
use Rattle.rx_table.proofs.MadeLemmas.{annotated-bare}
use Rattle.rx_table.proofs.made.annotate.Goals as goal

pub returns-then-is_empty-clause-annotated : goal.returns-then-is_empty-clause-annotated
returns-then-is_empty-clause-annotated g c =
    let e : c.args.notes.now ≡ [] = nil_from_length c.args.notes.now ((Decides-eqb (length c.args.notes.now) 0).0 (sym c.is_empty.ensures ∙ c.if-is_empty.true)) in
    annotated-bare (g.C.TermBank.store c.args.to.now) c.args.body c.requires.body c.args.notes.now e
