-- The steps of a collection together.
use Rattle.std.proofs.Common.{◌≡◌, ℕ, ◌+◌, ◌<◌, inl, inr, List, [], ◌∷◌, map, Some, None, refl, sym, ap, subst, ◌∙◌, arith}
use Rattle.std.specs.Prelude.{Option, true, false, cond, filter, is_some}
use Rattle.rx_arena.specs.Put.{times, times_in}
use Rattle.rx_arena.specs.Arena.{Taken, ArenaState, taken_at, IsTaken, InChain, is_marked, marked_at, IsMarked, roots_at, with_marking, IsArena}
use Rattle.rx_arena.proofs.PutLemmas.{get_or-map_option}
use Rattle.rx_sweep.specs.Reach.{unmarked, is_taken, cell_names, named_at, IsClosed, IsReached, CanCollect, Collected}
use Rattle.rx_sweep.specs.Reach.IsReached.{rooted, grayed, named}
use Rattle.rx_sweep.specs.Inner.Marking.{bare, SameButMarks, Marks, Swept}
use Rattle.rx_sweep.proofs.BareLemmas.{same_trans, same_at, same_names, same_roots, same_chains, same_spare, same_cap}
use Rattle.rx_sweep.proofs.BareLemmas.{same_count, same_taken, taken_same, unmarked-clear, names-unmarked}
use Rattle.rx_sweep.proofs.SpreadingLemmas.{marked_taken}
use Rattle.rx_sweep.proofs.SweepLemmas.{true_or_false, times_in-filter_true}

-- a set that holds the protected and the gray slots, and all that its slots name, holds the reached ones
pub reached_in : (a : ArenaState) (P : ℕ → Type 0) → ((s : ℕ) → 0 < roots_at a s → P s) → ((s : ℕ) → 0 < times s a.gray → P s)
    → ((s t : ℕ) → P s → 0 < times t (named_at a s) → P t) → (s : ℕ) → IsReached a s → P s
reached_in a P r g n _ (rooted s h) = r s h
reached_in a P r g n _ (grayed s h) = g s h
reached_in a P r g n _ (named s t h e) = n s t (reached_in a P r g n s h) e

-- a mark that is forgotten twice
unmarked_twice : (cells : List (Option Taken)) → map unmarked (map unmarked cells) ≡ map unmarked cells
unmarked_twice [] = refl
unmarked_twice (None ∷ cs) = ap (λ zs. None ∷ zs) (unmarked_twice cs)
unmarked_twice (Some t ∷ cs) = ap (λ zs. Some (with_marking false t) ∷ zs) (unmarked_twice cs)

marked-unmarked : (c : Option Taken) → is_marked (unmarked c) ≡ false
marked-unmarked None = refl
marked-unmarked (Some t) = refl

none_unmarked : (c : Option Taken) → unmarked c ≡ None → c ≡ None
none_unmarked None h = refl
none_unmarked (Some t) h = absurd (cc)

-- what names a slot is there
names_some : (t : ℕ) (c : Option Taken) → 0 < times t (cell_names c) → (u : Taken) × (c ≡ Some u)
names_some t None h = absurd (omega (arith, h))
names_some t (Some u) h = (u, refl)

-- after the protected slots are marked
module _ (old : ArenaState) (law : IsArena old) (can : CanCollect old) (one : ArenaState) (m : Marks old one (λ s. 0 < roots_at old s)) where
  pub closed_one : IsClosed one
  closed_one s t h = same_taken old one m.same t (can.closed s t (subst (λ z. 0 < times t z) (same_names old one m.same s) h))

  pub gray_one : (s : ℕ) → IsMarked one s → 0 < times s one.gray
  gray_one s h = elim (m.only s h) [ inl w ↦ m.gray_stay s (can.marked_gray s w) | inr w ↦ w.1 ]

  reached_one : (s : ℕ) → IsMarked one s → IsReached old s
  reached_one s h = elim (m.only s h) [ inl w ↦ grayed s (can.marked_gray s w) | inr w ↦ rooted s w.0 ]

  -- after all that those lead to is marked
  module _ (law_one : IsArena one) (two : ArenaState) (same : SameButMarks one two) (stay : (s : ℕ) → IsMarked one s → IsMarked two s)
      (found : (s : ℕ) → IsMarked two s → IsReached one s) (closed : (s t : ℕ) → IsMarked two s → 0 < times t (named_at one s) → IsMarked two t) where
    pub same_two : SameButMarks old two
    same_two = same_trans old one two m.same same

    pub chained_two : (s : ℕ) → IsTaken two s → InChain two s
    chained_two s h = subst (λ z. 0 < times_in s z) (sym (same_chains old two same_two)) (omega (arith, can.chained s (taken_same old two same_two s h)))

    pub roots_two : (s : ℕ) → 0 < roots_at two s → IsMarked two s
    roots_two s h = stay s (m.marked s (subst (λ z. 0 < z) (same_roots old two same_two s) h))

    -- the marked slots are reached
    reached_two : (s : ℕ) → IsMarked two s → IsReached old s
    reached_two s h = reached_in one (IsReached old)
        (λ k r. rooted k (subst (λ z. 0 < z) (same_roots old one m.same k) r))
        (λ k g. reached_one k (law_one.gray_marked k g))
        (λ k t r e. named k t r (subst (λ z. 0 < times t z) (same_names old one m.same k) e))
        s (found s h)

    -- the reached slots are marked
    marked_two : (s : ℕ) → IsReached old s → IsMarked two s
    marked_two = reached_in old (IsMarked two)
        (λ s r. stay s (m.marked s r))
        (λ s g. stay s (m.marked_stay s (law.gray_marked s g)))
        (λ s t h e. closed s t h (subst (λ z. 0 < times t z) (sym (same_names old one m.same s)) e))

    -- after the others have gone
    module _ (three : ArenaState) (swept : Swept two three) where
      cell_kept : (s : ℕ) → marked_at two s ≡ true → taken_at three s ≡ taken_at two s
      cell_kept s e = swept.cells s ∙ ap (λ b. cond b (taken_at two s) None) e

      cell_gone : (s : ℕ) → marked_at two s ≡ false → taken_at three s ≡ None
      cell_gone s e = swept.cells s ∙ ap (λ b. cond b (taken_at two s) None) e

      taken_three : (s : ℕ) → IsTaken three s → IsMarked two s
      taken_three s h = elim (true_or_false (marked_at two s)) [
        | inl e ↦ e
        | inr e ↦ absurd (let gone = cell_gone s e in let here = h.1 in cc)
      ]

      pub all_marked : (s : ℕ) → IsTaken three s → IsMarked three s
      all_marked s h = let mark = taken_three s h in ap is_marked (cell_kept s mark) ∙ mark

      -- after all marks are forgotten
      module _ (four : ArenaState) (turned : four ≡ record three { cells = map unmarked three.cells }) where
        same_four : SameButMarks three four
        same_four = record { bare_same = ap bare turned ∙ ap (λ z. record three { cells = z; gray = [] }) (unmarked_twice three.cells) }

        none_stays : (s : ℕ) → taken_at three s ≡ None → taken_at four s ≡ None
        none_stays s e = none_unmarked (taken_at four s) (same_at three four same_four s ∙ ap unmarked e)

        clear_four : (s : ℕ) → marked_at four s ≡ false
        clear_four s = ap (λ (v : ArenaState). marked_at v s) turned ∙ ap is_marked (get_or-map_option (with_marking false) three.cells s)
            ∙ marked-unmarked (taken_at three s)

        kept_four : (s : ℕ) → IsReached old s → taken_at four s ≡ unmarked (taken_at old s)
        kept_four s r =
            sym (unmarked-clear (taken_at four s) (clear_four s)) ∙ same_at three four same_four s
            ∙ ap unmarked (cell_kept s (marked_two s r)) ∙ same_at old two same_two s

        taken_four : (s : ℕ) → IsTaken four s → IsReached old s
        taken_four s h = reached_two s (taken_three s (taken_same three four same_four s h))

        four_taken : (s : ℕ) → IsReached old s → IsTaken four s
        four_taken s r =
            let t = marked_taken two s (marked_two s r) in
            same_taken three four same_four s (t.0, cell_kept s (marked_two s r) ∙ t.1)

        dropped_four : (s : ℕ) → ¬ (IsReached old s) → taken_at four s ≡ None
        dropped_four s away = elim (true_or_false (marked_at two s)) [
          | inl e ↦ absurd (away (reached_two s e))
          | inr e ↦ none_stays s (cell_gone s e)
        ]

        test_same : (s : ℕ) → marked_at two s ≡ is_taken four s
        test_same s = elim (true_or_false (marked_at two s)) [
          | inl e ↦ e ∙ sym (let t = four_taken s (reached_two s e) in ap is_some t.1)
          | inr e ↦ e ∙ sym (ap is_some (none_stays s (cell_gone s e)))
        ]

        chains_four : four.chains ≡ map (filter (λ s. is_taken four s)) old.chains
        chains_four = same_chains three four same_four ∙ swept.chains ∙ (λ i. map (filter (λ s. test_same s i)) (same_chains old two same_two i))

        names_four : (s : ℕ) → IsReached old s → named_at four s ≡ named_at old s
        names_four s r = ap cell_names (kept_four s r) ∙ names-unmarked (taken_at old s)

        ready_four : CanCollect four
        ready_four = record {
          chained = λ s h. (let r = taken_four s h in
              ap (times_in s) chains_four ∙ times_in-filter_true (λ k. is_taken four k) s old.chains (ap is_some h.1)
              ∙ can.chained s (taken_same old two same_two s (marked_taken two s (marked_two s r))));
          closed = λ s t h. (let r = taken_four s (names_some t (taken_at four s) h) in
              four_taken t (named s t r (subst (λ z. 0 < times t z) (names_four s r) h)));
          marked_gray = λ s h. absurd (let clear = clear_four s in cc);
        }

        pub collected : Collected old four
        collected = record {
          taken = λ s. (taken_four s, four_taken s);
          kept = kept_four;
          dropped = dropped_four;
          chains = chains_four;
          no_marks = clear_four;
          no_gray = ap (λ (v : ArenaState). v.gray) turned ∙ swept.no_gray;
          spare = (λ i. same_spare three four same_four i + same_count three four same_four i) ∙ swept.spare
              ∙ (λ i. same_spare old two same_two i + same_count old two same_two i);
          cap = same_cap three four same_four ∙ swept.cap ∙ same_cap old two same_two;
          ready = ready_four;
        }
