use Rattle.std.proofs.Common.{subst}
use Rattle.rx_plain.specs.Marks.{Passes}
use Rattle.rx_plain.proofs.MarkLemmas.{Keeps-refl, Keeps-trans, OnlyLinked-refl, OnlyLinked-trans, LinksWithin-kept, settled}
use Rattle.rx_plain.proofs.marks.spread.Goals as goal

pub loop-fresh-init : goal.loop-fresh-init
loop-fresh-init c = record {
  keeps = Keeps-refl c.args.slots.now;
  only = OnlyLinked-refl c.args.slots.now;
  closed = λ e. cc;
}

pub pass-fresh-requires : goal.pass-fresh-requires
pass-fresh-requires c = LinksWithin-kept c.loop-fresh.invariant.keeps c.requires

pub loop-fresh-preserved : goal.loop-fresh-preserved
loop-fresh-preserved c =
    let now = c.loop-fresh.slots in
    let next = c.pass-fresh.new.slots in
    let p = c.pass-fresh.ensures in
    record {
      keeps = Keeps-trans c.loop-fresh.invariant.keeps p.keeps;
      only = OnlyLinked-trans c.args.slots.now now next c.loop-fresh.invariant.keeps c.loop-fresh.invariant.only p.only;
      closed = λ e. (settled now next (subst (Passes now next) e p)).1;
    }
