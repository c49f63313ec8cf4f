-- The firings of a trace that were told so far.
use Rattle.std.proofs.Common.{inl, inr, refl, sym, ap, subst, ◌∙◌, append_assoc, append-nil}
use Rattle.std.specs.Prelude.{ℕ, ◌≡◌, ◌<◌, ◌≤◌, ◌-◌, ◌⊎◌, Bool, true, false, List, [], ◌∷◌, ◌++◌, Option, Some, Vec, get_or, length}
use Rattle.std.specs.Option.{option_to_list}
use Rattle.std.specs.declared.alloc.Global.{Global}
use Rattle.std.proofs.lemmas.List.{get_or-map, length-map}
use Rattle.std.specs.Prelude.{slice_get}
use Rattle.rx_term.specs.Tree.{Tree}
use Rattle.rx_term.specs.Store.{Store}
use Rattle.rec_syntax.specs.Syntax.{Rule, Spec}
use Rattle.rx_run.specs.declared.ending.RunFault.{RunFault}
use Rattle.rec_trace.specs.Lines.{firing_line, firing_text, joined, whole_line, whole_text}
use Rattle.rec_trace.specs.States.{firing_then}
use Rattle.rec_trace.specs.Trace.{Firing, Traced}
use Rattle.rec_trace.specs.declared.lines.Spot.{Spot}
use Rattle.rx_term.specs.declared.Term.{Term as Reference}
use Rattle.rec_engine.specs.declared.engine.Outcome.TheVariants.{Value, Limit}
use Rattle.rec_trace.specs.Tracing.{HasFiredAt, IsEvent, Stands, rest_of}
use Rattle.rec_trace.specs.declared.tracer.Event.{Event}
use Rattle.rec_trace.specs.declared.tracer.Event.TheVariants as event
use Rattle.rec_trace.specs.declared.tracer.Tracer.{Tracer}
use Rattle.rec_trace.proofs.SideLemmas.{rule-at}
use Rattle.rec_trace_run.specs.Inner.Pages.{Breaks, Prints}
use Rattle.rec_trace.specs.Lines.{rule_spot}
use Rattle.rec_trace_run.specs.Inner.Telling.{HasBounds, HasTold, IsEnd, IsTelling, IsWithin, TakesUp, section_lines, texts_of}
use Rattle.rec_trace_run.specs.Traces.{Shown, picked_lines, shown_by, step_line}
use Rattle.rec_trace_run.specs.declared.section.Section.{Section}
use Rattle.rec_trace_run.specs.declared.page.Page.{Page}
use Rattle.rec_trace_run.specs.declared.telling.Telling.{Telling}
use Rattle.rec_trace_run.proofs.PageLemmas.{breaks-before, breaks-behind, prints-both, prints-none}
use Rattle.rec_trace_run.proofs.PickLemmas.{picked-append}
use Rattle.rec_trace_run.proofs.SectionLemmas.{both-bounds, same-bounds, same-lines, section-more, section-none}
use Rattle.rec_trace_run.proofs.TellingLemmas.{joined-append, within-end, within-next}

-- these fired, and were told; the rest is left
pub record SoFar {W : Type 0} (contents : W → Option (List ℕ)) (y : Spec) (first rest : Traced Tree) (telling : Telling) (start section : Section)
    (page now : Page W) : Type 0 where
  pub fired : List Firing
  pub all : first.firings ≡ fired ++ rest.firings
  pub outcome : rest.outcome ≡ first.outcome
  pub bounds : HasBounds start section
  pub seen : (source : List ℕ) → IsTelling source y telling
      → section.seen ≡ length (picked_lines source (shown_by telling.options) telling.options.run.steps fired)
  pub printed : (source : List ℕ) → IsTelling source y telling → Prints contents page now
      (joined (section_lines start (picked_lines source (shown_by telling.options) telling.options.run.steps fired)))

module _ {W : Type 0} (contents : W → Option (List ℕ)) (y : Spec) (telling : Telling) (first : Traced Tree) (start : Section) (page : Page W) where
  abbrev shown : Shown
  shown = shown_by telling.options

  abbrev n : ℕ
  n = telling.options.run.steps

  abbrev picked : List ℕ → List Firing → List (List ℕ)
  picked source fs = picked_lines source shown n fs

  pub so-far-none : start.seen ≡ 0 → SoFar contents y first first telling start start page page
  so-far-none h = record {
    fired = [];
    all = refl;
    outcome = refl;
    bounds = same-bounds start;
    seen = λ source is. h;
    printed = λ source is. subst (λ ls. Prints contents page page (joined ls)) (sym (section-none start)) (prints-none contents page);
  }

  module _ (r s : Traced Tree) (f : Firing) (section section' : Section) (line : Option (Vec ℕ Global)) (now new : Page W)
      (h : SoFar contents y first r telling start section page now) (e : r ≡ firing_then f s)
      (told : (source : List ℕ) (before : List (List ℕ)) → IsTelling source y telling → section.seen ≡ length before
      → TakesUp source telling.options before f section section' line) where
    -- the lines with one more
    lines-more : (source : List ℕ) → IsTelling source y telling
        → section_lines start (picked source h.fired ++ picked source (f ∷ [])) ≡ section_lines start (picked source h.fired) ++ texts_of (option_to_list line)
    lines-more source is =
        let before = picked source h.fired in
        let one = picked source (f ∷ []) in
        sym (same-lines start section (before ++ one) h.bounds) ∙ (told source before is (h.seen source is)).lines
        ∙ ap (λ ls. ls ++ texts_of (option_to_list line)) (same-lines start section before h.bounds)

    pub so-far-more : HasBounds section section' → Prints contents now new (joined (texts_of (option_to_list line)))
        → SoFar contents y first s telling start section' page new
    so-far-more bounds written = record {
      fired = h.fired ++ f ∷ [];
      all = h.all ∙ ap (λ (z : Traced Tree). h.fired ++ z.firings) e ∙ sym (append_assoc h.fired (f ∷ []) s.firings);
      outcome = ap (λ (z : Traced Tree). z.outcome) (sym e) ∙ h.outcome;
      bounds = both-bounds start section section' h.bounds bounds;
      seen = λ source is. (told source (picked source h.fired) is (h.seen source is)).counted
          ∙ ap (λ ls. length ls) (sym (picked-append source shown n h.fired (f ∷ [])));
      printed = λ source is.
          let before = picked source h.fired in
          subst (λ text. Prints contents page new text)
          (sym (joined-append (section_lines start before) (texts_of (option_to_list line)))
          ∙ ap joined (sym (lines-more source is) ∙ ap (section_lines start) (sym (picked-append source shown n h.fired (f ∷ [])))))
          (prints-both contents page now new (joined (section_lines start before)) (joined (texts_of (option_to_list line))) (h.printed source is) written);
    }

    -- its line was not written whole
    pub so-far-breaks : (fault : RunFault) → Breaks contents now new (joined (texts_of (option_to_list line))) fault
        → (source : List ℕ) → IsTelling source y telling
        → Breaks contents page new (joined (section_lines start (picked source first.firings))) fault
    so-far-breaks fault broken source is =
        let before = picked source h.fired in
        let one = picked source (f ∷ []) in
        let left = picked source s.firings in
        let texts = texts_of (option_to_list line) in
        let more = section-more start (before ++ one) left in
        let all : picked source first.firings ≡ (before ++ one) ++ left =
        ap (picked source) (h.all ∙ ap (λ (z : Traced Tree). h.fired ++ z.firings) e ∙ sym (append_assoc h.fired (f ∷ []) s.firings))
        ∙ picked-append source shown n (h.fired ++ f ∷ []) s.firings
        ∙ ap (λ ls. ls ++ left) (picked-append source shown n h.fired (f ∷ [])) in
        let lines : section_lines start (picked source first.firings) ≡ (section_lines start before ++ texts) ++ more.0 =
        ap (section_lines start) all ∙ more.1 ∙ ap (λ ls. ls ++ more.0) (lines-more source is) in
        subst (λ text. Breaks contents page new text fault)
        (sym (ap joined lines ∙ joined-append (section_lines start before ++ texts) more.0
        ∙ ap (λ t. t ++ joined more.0) (joined-append (section_lines start before) texts)))
        (breaks-before contents page new (joined (section_lines start before) ++ joined texts) (joined more.0) fault
        (breaks-behind contents page now new (joined (section_lines start before)) (joined texts) fault (h.printed source is) broken))

  module _ (r : Traced Tree) (section : Section) (now : Page W) (h : SoFar contents y first r telling start section page now) where
    -- the engine gave up
    pub so-far-stops : (f : RunFault) → ((text : List ℕ) → Breaks contents now now text f) → (source : List ℕ) → IsTelling source y telling
        → Breaks contents page now (joined (section_lines start (picked source first.firings))) f
    so-far-stops f broken source is =
        let before = picked source h.fired in
        let more = section-more start before (picked source r.firings) in
        let lines : section_lines start (picked source first.firings) ≡ section_lines start before ++ more.0 =
        ap (section_lines start) (ap (picked source) h.all ∙ picked-append source shown n h.fired r.firings) ∙ more.1 in
        subst (λ text. Breaks contents page now text f) (sym (ap joined lines ∙ joined-append (section_lines start before) more.0))
        (breaks-behind contents page now now (joined (section_lines start before)) (joined more.0) f (h.printed source is) (broken (joined more.0)))

    -- nothing is left
    all-fired : r.firings ≡ [] → h.fired ≡ first.firings
    all-fired e = sym (h.all ∙ ap (λ fs. h.fired ++ fs) e ∙ append-nil h.fired)

    pub so-far-seen : r.firings ≡ [] → (source : List ℕ) → IsTelling source y telling → section.seen ≡ length (picked source first.firings)
    so-far-seen e source is = h.seen source is ∙ ap (λ fs. length (picked source fs)) (all-fired e)

    pub so-far-all : r.firings ≡ [] → (source : List ℕ) → IsTelling source y telling
        → Prints contents page now (joined (section_lines start (picked source first.firings)))
    so-far-all e source is = subst (λ fs. Prints contents page now (joined (section_lines start (picked source fs)))) (all-fired e) (h.printed source is)

-- ---- the spot of a rule that fired

pub fired-spot : (source : List ℕ) (y : Spec) (telling : Telling) (i : ℕ) (r : Rule) (d : Spot) → IsTelling source y telling
    → slice_get y.rules i ≡ Some r → get_or telling.spots.items i d ≡ rule_spot source r
fired-spot source y telling i r d is e =
    let at = rule-at y i r e in
    ap (λ ss. get_or ss i d) is ∙ get_or-map (rule_spot source) y.rules i r d at.within ∙ ap (rule_spot source) (at.is r)

pub spots-long : (source : List ℕ) (y : Spec) (telling : Telling) (i : ℕ) (r : Rule) → IsTelling source y telling → slice_get y.rules i ≡ Some r
    → i < length telling.spots.items
spots-long source y telling i r is e = subst (λ ss. i < length ss) (sym is)
    (subst (λ k. i < k) (sym (length-map y.rules (rule_spot source))) (rule-at y i r e).within)

-- ---- the line of a firing by what it is made of

module _ (source : List ℕ) (shown : Shown) (n : ℕ) (f : Firing) (spot : Spot) (counted : Bool) (width : Option ℕ) (spent : ℕ)
    (where_is : spot ≡ rule_spot source f.found.rule) (counted_is : counted ≡ shown.counted) (width_is : width ≡ shown.width)
    (spent_is : spent ≡ n - f.left) where
  abbrev line_by : Bool → List ℕ
  line_by whole = elim whole [
    | true ↦ whole_line source shown.counted shown.width n f
    | false ↦ firing_line source shown.counted shown.width n f
  ]

  pub line-fired : shown.whole ≡ false → firing_text spot.line spot.column counted width spent f.redex f.contractum ≡ step_line source shown n f
  line-fired e = (λ i. firing_text (where_is i).line (where_is i).column (counted_is i) (width_is i) (spent_is i) f.redex f.contractum) ∙ ap line_by (sym e)

  pub line-whole : shown.whole ≡ true → whole_text spot.line spot.column counted width spent f.after ≡ step_line source shown n f
  line-whole e = (λ i. whole_text (where_is i).line (where_is i).column (counted_is i) (width_is i) (spent_is i) f.after) ∙ ap line_by (sym e)

-- ---- events

pub fired-stands : (y : Spec) (w : Store) (new : Tracer) (t : Event) (rule : ℕ) (redex : Reference) → t ≡ event.Fired rule redex
    → (t ≡ event.Limit) ⊎ Stands y w new → Stands y w new
fired-stands y w new t rule redex e (inl limit) = absurd (cc (e, limit))
fired-stands y w new t rule redex e (inr h) = h

pub event-fired : (y : Spec) (w w' : Store) (old new : Tracer) (t : Event) (rule : ℕ) (redex : Reference) → t ≡ event.Fired rule redex
    → IsEvent y w w' old new t → HasFiredAt y w w' old new rule redex
event-fired y w w' old new t rule redex e h = subst (IsEvent y w w' old new) e h

-- what a trace comes to where nothing more fires
pub event-value : (y : Spec) (w w' : Store) (old new : Tracer) (t : Event) (r : Reference) (n steps : ℕ) → t ≡ event.Value r → IsEvent y w w' old new t
    → steps ≡ n - new.left → ((rest_of y w old).firings ≡ []) × IsEnd w' n (rest_of y w old).outcome (Value r steps)
event-value y w w' old new t r n steps e h k =
    let at = subst (IsEvent y w w' old new) e h in
    (ap (λ (z : Traced Tree). z.firings) at.2, (at.0, new.left, at.1, ap (λ (z : Traced Tree). z.outcome) at.2, k))

pub event-limit : (y : Spec) (w w' : Store) (old new : Tracer) (t : Event) (n : ℕ) → t ≡ event.Limit → IsEvent y w w' old new t
    → ((rest_of y w old).firings ≡ []) × IsEnd w' n (rest_of y w old).outcome Limit
event-limit y w w' old new t n e h =
    let at = subst (IsEvent y w w' old new) e h in
    (ap (λ (z : Traced Tree). z.firings) at, ap (λ (z : Traced Tree). z.outcome) at)

pub value-left : (y : Spec) (w w' : Store) (old new : Tracer) (t : Event) (r : Reference) (n : ℕ) → t ≡ event.Value r → IsEvent y w w' old new t
    → IsWithin n (rest_of y w old) → new.left ≤ n
value-left y w w' old new t r n e h k = let at = subst (IsEvent y w w' old new) e h in within-end n at.0 new.left (rest_of y w old) at.2 k

pub fired-left : (y : Spec) (w w' : Store) (old new : Tracer) (rule : ℕ) (redex : Reference) (n : ℕ)
    (f : HasFiredAt y w w' old new rule redex) → IsWithin n (rest_of y w old) → (new.left ≤ n) × IsWithin n (rest_of y w' new)
fired-left y w w' old new rule redex n f k =
    let at = within-next n f.firing (rest_of y w' new) (rest_of y w old) f.next k in
    (subst (λ m. m ≤ n) f.left_is at.0, at.1)

-- a rewrite was recorded
pub told-part : (z : Spec) (w w' w2 : Store) (old new new' : Tracer) (telling : Telling) (section section' : Section) (line : Option (Vec ℕ Global))
    (rule : ℕ) (redex : Reference) (f : HasFiredAt z w w' old new rule redex) → rest_of z w2 new' ≡ rest_of z w' new → Stands z w2 new'
    → HasBounds section section'
    → ((source : List ℕ) (before : List (List ℕ)) → IsTelling source z telling → section.seen ≡ length before
    → TakesUp source telling.options before f.firing section section' line)
    → HasTold z w w2 old new' telling section section' line
told-part z w w' w2 old new new' telling section section' line rule redex f same stands bounds h = record {
  firing = f.firing;
  next = f.next ∙ ap (firing_then f.firing) (sym same);
  stands = stands;
  bounds = bounds;
  told = h;
}
