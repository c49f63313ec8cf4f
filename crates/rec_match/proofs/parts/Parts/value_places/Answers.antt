use Rattle.std.proofs.Common.{refl, sym, ap, subst, arith, ◌∙◌, ◌≡◌, ◌++◌, ◌<◌, ◌+◌, suc, Some, length, drop, drop-cons, append-nil}
use Rattle.std.proofs.Math.ListN.{drop_of_length-le}
use Rattle.std.specs.Option.{option_map}
use Rattle.std.specs.Prelude.{All}
use Rattle.rec_match.specs.Leaves.{IsValue, code_places}
use Rattle.rec_match.specs.Placed.{ArePlacesIn}
use Rattle.rec_match.proofs.OrderLemmas.{clearable}
use Rattle.rec_match.proofs.PlaceLemmas.{own-places}
use Rattle.rec_match.proofs.parts.Parts.value_places.Goals as goal

pub place_value-requires-clause-value : goal.place_value-requires-clause-value
place_value-requires-clause-value c =
    subst (IsValue _) (sym c.loop-code.invariant.given.counted) (c.requires.values c.loop-code.code-index _ c.loop-code-test.true)

pub place_value-requires-clause-given : goal.place_value-requires-clause-given
place_value-requires-clause-given c = own-places c.loop-code.variables.items (length c.args.given.now.of.items) c.loop-code.given.of.items
    c.loop-code.invariant.given

pub place_value-requires-clause-within : goal.place_value-requires-clause-within
place_value-requires-clause-within c = subst (λ n. All (λ v. v < n) c.loop-code.variables.items) (sym c.loop-code.invariant.given.counted)
    c.loop-code.invariant.within

pub loop-code-preserved : goal.loop-code-preserved
loop-code-preserved c =
    let i = c.loop-code.invariant in
    let n = i.given.counted in
    record {
      given = subst (λ m. ArePlacesIn c.place_value.new.variables.items m c.place_value.new.given.of.items) n c.in_ok-place_value.ensures.given;
      within = subst (λ m. All (λ v. v < m) c.place_value.new.variables.items) n c.in_ok-place_value.ensures.within;
      places = i.places
          ∙ ap (λ cs. option_map (λ es. c.loop-code.places.items ++ es) (code_places c.args.self.now c.loop-code.variables.items cs))
          (drop-cons c.args.codes.now c.loop-code.code-index _ c.loop-code-test.true)
          ∙ c.in_ok-place_value.ensures.place (drop (suc c.loop-code.code-index) c.args.codes.now)
          ∙ ap (λ k. option_map (λ es. c.place_value.new.places.items ++ es)
          (code_places c.args.self.now c.place_value.new.variables.items (drop k c.args.codes.now)))
          (let e : suc c.loop-code.code-index ≡ c.loop-code.code-index + 1 = omega arith in e);
    }

pub clear-requires-clause-places : goal.clear-requires-clause-places
clear-requires-clause-places c =
    let ps = c.loop-code.given.of.items in
    clearable c.loop-code.variables.items c.deref.result.now (length c.args.given.now.of.items) ps ps c.deref.ensures.value
    c.loop-code.invariant.given (record { counted = refl; none = λ v e. e })

pub returns-clause-places : goal.returns-clause-places
returns-clause-places c =
    let t = c.loop-code-test.false in
    c.loop-code.invariant.places
    ∙ ap (λ cs. option_map (λ es. c.loop-code.places.items ++ es) (code_places c.args.self.now c.loop-code.variables.items cs))
    (drop_of_length-le c.args.codes.now (omega (arith, t)))
    ∙ ap Some (append-nil c.loop-code.places.items)
