use Rattle.std.proofs.Common.{◌≡◌, None, sym, ap, ◌∙◌, arith, length, get_or}
use Rattle.rx_arena.proofs.HeadLemmas.{heads_length, heads_get, place_within}
use Rattle.rx_arena.proofs.heads.Heads.get.Goals as goal

pub get-requires : goal.get-requires
get-requires c =
    let h = c.self.inside in
    let long : h.count ≡ length c.args.self.now = sym (heads_length h.mask h.factor h.count h.table) ∙ ap length c.self.view_is in
    let within = place_within h.mask h.factor c.args.chain (length h.table) h.inside (omega (arith, c.requires, h.counted, long)) in
    omega (arith, within, c.place.ensures)

pub returns : goal.returns
returns c =
    let h = c.self.inside in
    let long : h.count ≡ length c.args.self.now = sym (heads_length h.mask h.factor h.count h.table) ∙ ap length c.self.view_is in
    c.get.ensures ∙ ap (λ p. get_or h.table p None) c.place.ensures
    ∙ sym (heads_get h.mask h.factor h.count h.table c.args.chain (omega (arith, c.requires, long)))
    ∙ ap (λ h. get_or h c.args.chain None) c.self.view_is
