use Rattle.std.proofs.Common.{◌≡◌, ◌++◌, ◌∷◌, [], ◌∙◌, true, false, ap, drop, refl, subst, sym}
use Rattle.std.proofs.lemmas.List.{take_rest}
use Rattle.std.specs.Prelude.{not}
use Rattle.rx_table.specs.Inner.Walk.{Leaves}
use Rattle.rx_table.specs.declared.walk.Parts.{Parts}
use Rattle.rx_table.proofs.walk.leave.Goals.{then-is_new+in_ok-extend_from_slice+in_ok-push, else-is_new}
use Rattle.rx_table.proofs.walk.leave.Goals as goal

pub returns : goal.returns
returns c =
    let t = c.args.t in
    let old = c.args.parts.now in
    let before = c.args.finished.now.items in
    let now = c.push-2.new.self.items in
    let e = c.in_ok-index.ensures in
    let index = c.in_ok-index.index in
    let finished = c.in_ok-push-2.ensures.items ∙ ap (λ z. z ++ index ∷ []) c.truncate.ensures.items in
    elim c.if-is_new.branch [
      | then-is_new+in_ok-extend_from_slice+in_ok-push w ↦
          subst (λ (p : Parts). Leaves t c.args.start old before p now) (sym w.parts-is) (record {
            index = index;
            keys = e.keys;
            within = e.within;
            found = e.found;
            few = e.few;
            finished = finished;
            added = λ no. record {
              inside = w.in_ok-extend_from_slice.ensures.items
                  ∙ ap (λ z. old.inside.items ++ z) (take_rest w.deref.result.now c.args.start ∙ ap (drop c.args.start) w.deref.ensures.value);
              bounds = w.in_ok-push.ensures.items ∙ ap (λ n. old.bounds.items ++ n ∷ []) (w.len.ensures ∙ w.extend_from_slice.new.self.ok.0);
            };
            kept = λ yes. absurd (let k : false ≡ true = sym (ap not yes) ∙ sym e.added ∙ w.if-is_new.true in cc k);
          })
      | else-is_new w ↦
          subst (λ (p : Parts). Leaves t c.args.start old before p now) (sym w.parts-is) (record {
            index = index;
            keys = e.keys;
            within = e.within;
            found = e.found;
            few = e.few;
            finished = finished;
            added = λ no. absurd (let k : true ≡ false = sym (ap not no) ∙ sym e.added ∙ w.if-is_new.false in cc k);
            kept = λ yes. (refl, refl);
          })
    ]
