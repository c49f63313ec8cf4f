-- What a firing adds to the lines of its term.
use Rattle.std.proofs.Common.{refl, sym, ap, ◌∙◌, append-nil}
use Rattle.std.proofs.lemmas.List.{length-append}
use Rattle.std.specs.Prelude.{ℕ, ◌≡◌, ◌+◌, Bool, true, false, cond, List, [], ◌∷◌, ◌++◌, Option, None, Vec, if◌then◌else◌, length, map}
use Rattle.std.specs.Option.{option_to_list}
use Rattle.std.specs.declared.alloc.Global.{Global}
use Rattle.rec_trace.specs.Trace.{Firing}
use Rattle.rec_trace_run.specs.Picks.{Picks, is_picked, picks_by}
use Rattle.rec_trace_run.specs.Inner.Telling.{AddsIf, TakesUp, section_lines, texts_of}
use Rattle.rec_trace_run.specs.Traces.{Shown, picked_lines, shown_by, step_line}
use Rattle.rec_trace_run.specs.declared.options.TraceOptions.{TraceOptions}
use Rattle.rec_trace_run.specs.declared.section.Section.{Section}

module _ (source : List ℕ) (options : TraceOptions) (before : List (List ℕ)) (f : Firing) where
  abbrev shown : Shown
  shown = shown_by options

  abbrev n : ℕ
  n = options.run.steps

  abbrev p : Picks
  p = picks_by options.picked

  abbrev one : List (List ℕ)
  one = picked_lines source shown n (f ∷ [])

  abbrev line_is : List ℕ
  line_is = step_line source shown n f

  -- its line, where it is picked
  pub one-picked : is_picked source p f ≡ true → one ≡ line_is ∷ []
  one-picked e = by (is_picked source p f) e
    where
      by : (b : Bool) → b ≡ true → map (step_line source shown n) (cond b (f ∷ []) []) ≡ line_is ∷ []
      by true h = refl
      by false h = absurd (cc h)

  none-picked : is_picked source p f ≡ false → one ≡ []
  none-picked e = by (is_picked source p f) e
    where
      by : (b : Bool) → b ≡ false → map (step_line source shown n) (cond b (f ∷ []) []) ≡ []
      by true h = absurd (cc h)
      by false h = refl

  -- it is not picked
  pub takes-none : (s : Section) → is_picked source p f ≡ false → s.seen ≡ length before → TakesUp source options before f s s None
  takes-none s e is =
      let none : before ++ one ≡ before = ap (λ ls. before ++ ls) (none-picked e) ∙ append-nil before in
      record { counted = is ∙ sym (ap (λ ls. length ls) none); lines = ap (section_lines s) none ∙ sym (append-nil (section_lines s before)) }

  -- it is picked, and the section has it or not
  pub takes-line : (s s' : Section) (here : Bool) (line : Option (Vec ℕ Global)) → one ≡ line_is ∷ [] → AddsIf s here → s'.seen ≡ s.seen + 1
      → texts_of (option_to_list line) ≡ (if here then line_is ∷ [] else []) → s.seen ≡ length before → TakesUp source options before f s s' line
  takes-line s s' here line picked adds counted text is =
      let more : before ++ one ≡ before ++ line_is ∷ [] = ap (λ ls. before ++ ls) picked in
      record {
        counted = counted ∙ ap (λ k. k + 1) is ∙ sym (length-append before (line_is ∷ [])) ∙ sym (ap (λ ls. length ls) more);
        lines = ap (section_lines s) more ∙ adds before line_is is ∙ ap (λ ls. section_lines s before ++ ls) (sym text);
      }
