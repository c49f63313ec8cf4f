use Rattle.std.proofs.Common.{subst, sym, map}
use Rattle.rx_plain.specs.Marks.{Marks, AreLinksWithin}
use Rattle.rx_plain.proofs.MarkLemmas.{LinksWithin-kept, rooted-within, Reaches-from}
use Rattle.rx_plain.proofs.marks.mark_reached.Goals as goal

pub spread-requires : goal.spread-requires
spread-requires c = LinksWithin-kept c.mark_extra.ensures.keeps
    (subst AreLinksWithin (sym c.mark_roots.ensures) (rooted-within c.args.slots.now c.requires.within))

pub returns : goal.returns
returns c = Reaches-from c.args.slots.now c.mark_extra.new.slots c.spread.new.slots c.args.extra.now
    (subst (λ xs. Marks xs c.mark_extra.new.slots (map (λ t. t.0) c.args.extra.now)) c.mark_roots.ensures c.mark_extra.ensures) c.spread.ensures
