-- The word was nowhere, so it is put last, or nothing changes.
use Rattle.std.proofs.Common.{◌≢◌, ℕ, Some, sym, ap, ◌∙◌, subst, slice_get, map}
use Rattle.std.proofs.lemmas.Slice.Eq.{bytes_eq-Decides}
use Rattle.rx_names.proofs.PlaceLemmas.{nothing-there, inserted-new, Placed-map, Placed-kept, Placed-apart, Placed-bytes, map-at}
use Rattle.rx_names.proofs.words.Words.intern.Goals as goal

pub invariant_of-self : goal.invariant_of-self
invariant_of-self c =
    let w = c.args.self.now in
    let ks = w.stored.keys in
    let v = c.in_ok-copy.copy in
    let nowhere = subst (λ u. (i : ℕ) → slice_get (map (λ x. x.items) ks) i ≢ Some u) (sym c.in_ok-copy.ensures.same) c.in_default.ensures in
    let unseen = nothing-there (λ x. x.items) v.items _ (λ x. bytes_eq-Decides v.items x.items) ks nowhere in
    let placed = Placed-map (λ x. x.items) ks c.insert_full.new.self.keys v
    (inserted-new c.insert_full.result _ ks c.insert_full.new.self.keys v c.insert_full.ensures.keys c.insert_full.ensures.err unseen) nowhere in
    record {
      apart = Placed-apart _ _ v.items placed w.apart;
      bytes = Placed-bytes _ _ v.items placed w.bytes c.in_ok-copy.ensures.fit;
    }

pub returns-clause-stands : goal.returns-clause-stands
returns-clause-stands c =
    let v = c.in_ok-copy.copy in
    let k = c.in_ok-place.ensures.stored in
    map-at (λ x. x.items) c.insert_full.new.self.keys c.in_ok-place.place k.0 k.1
    ∙ ap (λ z. Some z) (sym ((bytes_eq-Decides v.items k.0.items).0 k.2) ∙ c.in_ok-copy.ensures.same)

pub returns-clause-kept : goal.returns-clause-kept
returns-clause-kept c =
    let w = c.args.self.now in
    let ks = w.stored.keys in
    let v = c.in_ok-copy.copy in
    let nowhere = subst (λ u. (i : ℕ) → slice_get (map (λ x. x.items) ks) i ≢ Some u) (sym c.in_ok-copy.ensures.same) c.in_default.ensures in
    let unseen = nothing-there (λ x. x.items) v.items _ (λ x. bytes_eq-Decides v.items x.items) ks nowhere in
    let placed = Placed-map (λ x. x.items) ks c.insert_full.new.self.keys v
    (inserted-new c.insert_full.result _ ks c.insert_full.new.self.keys v c.insert_full.ensures.keys c.insert_full.ensures.err unseen) nowhere in
    Placed-kept _ _ v.items placed
