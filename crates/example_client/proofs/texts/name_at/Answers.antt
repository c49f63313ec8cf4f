use Rattle.std.proofs.Common.{false}
use Rattle.std.specs.Prelude.{codes}
use Rattle.rx_term.specs.Tree.{Tree, Int, Appl, none, more}
use Rattle.rx_term.proofs.StoreLemmas.{Grows-made, Grows-trans}
use Rattle.example_client.proofs.NotedLemmas.{noted_made, noted_there, in_word}
use Rattle.example_client.proofs.texts.name_at.Goals as goal

pub returns-clause-tree : goal.returns-clause-tree
returns-clause-tree g c =
    let plain : Tree = Appl c.args.name.now false none none in
    let place : Tree = Appl (codes "at") false (more (Int c.args.line none) (more (Int c.args.column none) none)) none in
    noted_made (g.B.TermBank.store c.only.new.bank) (g.B.TermBank.store c.annotated.new.self) c.in_ok-plain.plain c.in_ok-notes.notes plain
    (more place none) c.annotated.result (c.in_ok-notes.ensures.grows.trees c.in_ok-plain.plain plain
    (c.in_ok-place.ensures.grows.trees c.in_ok-plain.plain plain c.in_ok-plain.ensures.made))
    (c.in_ok-notes.ensures.tree place (rw (in_word c.args.line c.ranges.line.sfits, in_word c.args.column c.ranges.column.sfits) at
    c.in_ok-place.ensures.tree)) c.annotated.ensures

pub returns-clause-grows : goal.returns-clause-grows
returns-clause-grows g c = Grows-trans c.in_ok-plain.ensures.grows
    (Grows-trans c.in_ok-place.ensures.grows (Grows-trans c.in_ok-notes.ensures.grows (Grows-made _ _ _ _ c.annotated.ensures)))

pub annotated-requires : goal.annotated-requires
annotated-requires g c =
    let plain : Tree = Appl c.args.name.now false none none in
    noted_there (g.B.TermBank.store c.only.new.bank) c.in_ok-plain.plain c.in_ok-notes.notes plain _
    (c.in_ok-notes.ensures.grows.trees c.in_ok-plain.plain plain
    (c.in_ok-place.ensures.grows.trees c.in_ok-plain.plain plain c.in_ok-plain.ensures.made)) (c.in_ok-notes.ensures.tree _ c.in_ok-place.ensures.tree)

pub returns-in_err-place-clause-grows : goal.returns-in_err-place-clause-grows
returns-in_err-place-clause-grows g c = Grows-trans c.in_ok-plain.ensures.grows c.in_err-place.ensures.grows

pub returns-in_err-notes-clause-grows : goal.returns-in_err-notes-clause-grows
returns-in_err-notes-clause-grows g c = Grows-trans c.in_ok-plain.ensures.grows (Grows-trans c.in_ok-place.ensures.grows c.in_err-notes.ensures.grows)
