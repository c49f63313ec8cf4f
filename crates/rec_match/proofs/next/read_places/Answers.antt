use Rattle.std.proofs.Common.{arith, ap, refl, ◌∙◌, ◌∷◌, [], length, length-append}
use Rattle.rec_match.proofs.SettleLemmas.{place-read}
use Rattle.rec_match.proofs.next.read_places.Goals as goal

pub loop-place-preserved : goal.loop-place-preserved
loop-place-preserved c = record {
  read = place-read 0 c.args.work.now c.args.places.now _ c.loop-place.place-index c.register.result _ _ c.args.bind.now.items c.loop-place.bind.items
      c.push_reserved.new.self.items c.requires.there c.loop-place-test.true c.register.ensures c.loop-place.invariant.read refl
      c.push_reserved.ensures.items;
  room =
      let room = c.loop-place.invariant.room in
      let more = c.loop-place-test.true in
      let put = ap length c.push_reserved.ensures.items ∙ length-append c.loop-place.bind.items (_ ∷ []) in
      let size = c.push_reserved.ensures.capacity in
      omega (arith, room, more, put, size);
}
