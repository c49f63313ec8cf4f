use Rattle.std.proofs.lemmas.List.Elements.{Contains-append_left, Contains-append_right}
use Rattle.rx_term.specs.Heap.{node_links, notes_links}
use Rattle.rx_plain.specs.Slots.{node_of, notes_of}
use Rattle.rx_plain.proofs.MarkLemmas.{Marks-trans, within-after}
use Rattle.rx_plain.proofs.marks.mark_links.Goals as goal

pub mark_shape-inside-requires : goal.mark_shape-inside-requires
mark_shape-inside-requires c i h = c.requires i (Contains-append_left (node_links (node_of c.args.body.shape)) (notes_links (notes_of c.args.body.anns)) i h)

pub mark_notes-beside-requires : goal.mark_notes-beside-requires
mark_notes-beside-requires c i h = within-after c.mark_shape-inside.ensures.marks i
    (c.requires i (Contains-append_right (node_links (node_of c.args.body.shape)) (notes_links (notes_of c.args.body.anns)) i h))

pub returns-then-inside-clause-marks : goal.returns-then-inside-clause-marks
returns-then-inside-clause-marks c = Marks-trans c.mark_shape-inside.ensures.marks c.mark_notes-beside.ensures.marks

pub returns-else-inside-clause-marks : goal.returns-else-inside-clause-marks
returns-else-inside-clause-marks c = Marks-trans c.mark_shape-inside.ensures.marks c.mark_notes-beside.ensures.marks
