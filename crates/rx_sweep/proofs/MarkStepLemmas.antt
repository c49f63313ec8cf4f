-- How markings begin, follow one another and come to their end.
use Rattle.std.proofs.Common.{◌≡◌, ℕ, zero, suc, ◌+◌, ◌<◌, ◌⊎◌, inl, inr, List, [], ◌∷◌, get_or, Some, None, refl, sym, ap, subst, ◌∙◌, arith}
use Rattle.std.specs.Prelude.{Option, true, false, cond}
use Rattle.std.specs.Option.{option_map}
use Rattle.rx_arena.specs.Put.{times, put, altered}
use Rattle.rx_arena.specs.Arena.{Taken, ArenaState, taken_at, is_marked, marked_at, IsMarked, with_marking}
use Rattle.rx_arena.proofs.PutLemmas.{one_or_two, one_if-same}
use Rattle.rx_sweep.specs.Inner.Marking.{Marks, one_white, white_count}
use Rattle.rx_sweep.proofs.BareLemmas.{same_refl, same_trans, bare-altered, marked-altered_same, marked-altered_other}

white_count-put : (cs : List (Option Taken)) (s : ℕ) (c : Option Taken) → white_count (put cs s c) + one_white (get_or cs s None) ≡ white_count cs + one_white c
white_count-put [] zero c = omega arith
white_count-put [] (suc s) c = omega (arith, white_count-put [] s c)
white_count-put (x ∷ xs) zero c = omega arith
white_count-put (x ∷ xs) (suc s) c = omega (arith, white_count-put xs s c)

-- nothing is to be marked that is not
pub marks_none : (a : ArenaState) (P : ℕ → Type 0) → ((s : ℕ) → P s → IsMarked a s) → Marks a a P
marks_none a P h = record {
  same = same_refl a;
  marked = h;
  marked_stay = λ s m. m;
  gray_stay = λ s g. g;
  only = λ s m. inl m;
  work = refl;
}

-- one slot is marked and gray
pub marks_one : (a b : ArenaState) (s : ℕ) (t : Taken) → taken_at a s ≡ Some t → marked_at a s ≡ false
    → b ≡ record a { cells = altered s (with_marking true) a.cells; gray = s ∷ a.gray } → Marks a b (λ k. k ≡ s)
marks_one a b s t here clear e =
    let at_s = marked-altered_same a s t here true in
    let other = marked-altered_other a s t here true in
    let was : one_white (taken_at a s) ≡ 1 = ap one_white here ∙ ap (λ y. cond y 0 1) (sym (ap is_marked here) ∙ clear) in
    let is : one_white (option_map (with_marking true) (taken_at a s)) ≡ 0 = ap (λ c. one_white (option_map (with_marking true) c)) here in
    let count = white_count-put a.cells s (option_map (with_marking true) (taken_at a s)) in
    subst (λ z. Marks a z (λ k. k ≡ s)) (sym e) (record {
      same = record { bare_same = ap (λ z. record a { cells = z; gray = [] }) (bare-altered a s t here true) };
      marked = λ k h. subst (λ z. is_marked (get_or (altered s (with_marking true) a.cells) z None) ≡ true) (sym h) at_s;
      marked_stay = λ k m. elim (one_or_two k s) [
        | inl h ↦ subst (λ z. is_marked (get_or (altered s (with_marking true) a.cells) z None) ≡ true) (sym h.1) at_s
        | inr h ↦ other k h.1 ∙ m
      ];
      gray_stay = λ k g. omega (arith, g);
      only = λ k m. elim (one_or_two k s) [
        | inl h ↦ inr (h.1, subst (λ z. 0 < times z (s ∷ a.gray)) (sym h.1) (omega (arith, one_if-same s)))
        | inr h ↦ inl (sym (other k h.1) ∙ m)
      ];
      work = omega (arith, was, is, count);
    })

-- one marking after another
pub marks_then : (a b c : ArenaState) (P Q : ℕ → Type 0) → Marks a b P → Marks b c Q → Marks a c (λ s. P s ⊎ Q s)
marks_then a b c P Q m n = record {
  same = same_trans a b c m.same n.same;
  marked = λ s h. elim h [ inl p ↦ n.marked_stay s (m.marked s p) | inr q ↦ n.marked s q ];
  marked_stay = λ s h. n.marked_stay s (m.marked_stay s h);
  gray_stay = λ s h. n.gray_stay s (m.gray_stay s h);
  only = λ s h. elim (n.only s h) [
    | inl w ↦ elim (m.only s w) [ inl v ↦ inl v | inr v ↦ inr (inl v.0, n.gray_stay s v.1) ]
    | inr w ↦ inr (inr w.0, w.1)
  ];
  work = n.work ∙ m.work;
}

-- the same slots in other words
pub marks_by : (a b : ArenaState) (P Q : ℕ → Type 0) → ((s : ℕ) → P s → Q s) → ((s : ℕ) → Q s → P s) → Marks a b P → Marks a b Q
marks_by a b P Q to from m = record {
  same = m.same;
  marked = λ s h. m.marked s (from s h);
  marked_stay = m.marked_stay;
  gray_stay = m.gray_stay;
  only = λ s h. elim (m.only s h) [ inl w ↦ inl w | inr w ↦ inr (to s w.0, w.1) ];
  work = m.work;
}
