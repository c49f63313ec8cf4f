-- A whole term was passed.
use Rattle.std.proofs.Common.{◌≡◌, List, [], Result, Ok, Err, OnOk, refl, ap, ◌∙◌}
use Rattle.std.proofs.lemmas.List.{append-nil}
use Rattle.std.specs.Prelude.{reverse}
use Rattle.rec_syntax.specs.Syntax.{Term, subterms}
use Rattle.rec_syntax.specs.Nodes.{Node, flat}
use Rattle.rec_sorts.specs.SpecRules.{heads}
use Rattle.rec_uses.specs.Inner.Heads.{State, passed}
use Rattle.rec_uses.specs.Inner.Values.{as_words, state_of}
use Rattle.rec_uses.specs.declared.order.Order.{Order}
use Rattle.rec_uses.proofs.HeadLemmas.{passed-term}

abbrev nothing_passed : State
nothing_passed = record { waiting = []; complete = [] }

empty_state : (o : Order) → o.waiting.items ≡ [] → o.complete.items ≡ [] → state_of o ≡ nothing_passed
empty_state o w k = rw (w, k) refl

pub term_passed : {X E : Type 0} (r : Result X E) (t : Term) (old new : Order) (ns : List Node) → ns ≡ flat t → old.waiting.items ≡ []
    → old.complete.items ≡ []
    → OnOk r (state_of new ≡ passed (state_of old) ns) → OnOk r (as_words (reverse new.complete.items) ≡ heads (subterms t))
term_passed (Err e) t old new ns flat_is w k h = tt
term_passed (Ok x) t old new ns flat_is w k h =
    ap (λ (s : State). s.complete) (h
    ∙ ap (λ (s : State). passed s ns) (empty_state old w k)
    ∙ ap (λ ms. passed nothing_passed ms) flat_is
    ∙ passed-term t [] [])
    ∙ append-nil (heads (subterms t))
