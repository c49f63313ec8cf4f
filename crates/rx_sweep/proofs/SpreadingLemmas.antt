-- What the gray slots name is marked, until none is gray.
use Rattle.std.proofs.Common.{◌≡◌, ℕ, ◌<◌, inl, inr, List, [], ◌∷◌, length, get_or, Some, None, refl, sym, ap, subst, ◌∙◌, arith}
use Rattle.std.specs.Prelude.{Option, true, IfSome, IfNone}
use Rattle.rx_arena.specs.declared.Face.{Face}
use Rattle.rx_arena.specs.declared.Slot.{Slot}
use Rattle.rx_arena.specs.Faces.{face_of}
use Rattle.rx_arena.specs.Put.{times}
use Rattle.rx_arena.specs.Arena.{Taken, ArenaState, taken_at, IsTaken, is_marked, IsMarked, IsArena}
use Rattle.rx_arena.proofs.ChainLemmas.{one_or_more}
use Rattle.rx_arena.proofs.PutLemmas.{one_or_two}
use Rattle.rx_sweep.specs.Reach.{face_names, cell_names, named_at, IsReached, IsClosed}
use Rattle.rx_sweep.specs.Reach.IsReached.{grayed, named}
use Rattle.rx_sweep.specs.Inner.Marking.{bare, SameButMarks, Marks, work_left, white_count, ahead}
use Rattle.rx_sweep.proofs.BareLemmas.{same_refl, same_trans, same_names, same_taken}

-- the marked slots are reached, and what those name that are not gray is marked
pub record Spreading (init self : ArenaState) : Type 0 where
  pub same : SameButMarks init self
  pub stay : (s : ℕ) → IsMarked init s → IsMarked self s
  pub reached : (s : ℕ) → IsMarked self s → IsReached init s
  pub done : (s : ℕ) → IsMarked self s → times s self.gray ≡ 0 → (t : ℕ) → 0 < times t (named_at init s) → IsMarked self t

pub spreading_begins : (init : ArenaState) → ((s : ℕ) → IsMarked init s → 0 < times s init.gray) → Spreading init init
spreading_begins init gray = record {
  same = same_refl init;
  stay = λ s m. m;
  reached = λ s m. grayed s (gray s m);
  done = λ s m none t h. absurd (omega (arith, gray s m, none));
}

marked_some : (c : Option Taken) → is_marked c ≡ true → (t : Taken) × (c ≡ Some t)
marked_some None e = absurd (cc)
marked_some (Some t) e = (t, refl)

pub marked_taken : (a : ArenaState) (s : ℕ) → IsMarked a s → IsTaken a s
marked_taken a s m = marked_some (taken_at a s) m

names_read : (c : Option Taken) (t : Taken) (face : Face) → c ≡ Some t → IfSome c (λ u. face ≡ face_of u.body) → cell_names c ≡ face_names face
names_read None t face e h = absurd (cc)
names_read (Some u) t face e h = ap face_names (sym h)

-- a slot leaves the gray list, and what it names is marked
module _ (init self : ArenaState) (inv : Spreading init self) (s : ℕ) (one : ArenaState) (split : self.gray ≡ s ∷ one.gray)
    (rest : one ≡ record self { gray = one.gray }) (m : IsMarked one s) where
  cells_are : one.cells ≡ self.cells
  cells_are = ap (λ (v : ArenaState). v.cells) rest

  at : (k : ℕ) → taken_at one k ≡ taken_at self k
  at k = ap (λ (z : List (Option Taken)). get_or z k None) cells_are

  was : (k : ℕ) → IsMarked one k → IsMarked self k
  was k h = sym (ap is_marked (at k)) ∙ h

  same_one : SameButMarks init one
  same_one = same_trans init self one inv.same (record { bare_same = ap bare rest })

  pub spread_taken : IsTaken one s
  spread_taken = marked_taken one s m

  module _ (face : Face) (read : IfSome (taken_at one s) (λ t. face ≡ face_of t.body)) where
    named_is : named_at init s ≡ face_names face
    named_is = sym (same_names init one same_one s) ∙ names_read (taken_at one s) spread_taken.0 face spread_taken.1 read

    pub spread_named : IsClosed init → (k : ℕ) → 0 < times k (face_names face) → IsTaken one k
    spread_named closed k h = same_taken init one same_one k (closed s k (subst (λ z. 0 < times k z) (sym named_is) h))

    module _ (two : ArenaState) (n : Marks one two (λ k. 0 < times k (face_names face))) where
      pub spread_less : work_left two < work_left self
      spread_less =
          let white = ap white_count cells_are in
          let gray = ap length split in
          let same = n.work in
          omega (arith, white, gray, same)

      pub spread_on : Spreading init two
      spread_on = record {
        same = same_trans init one two same_one n.same;
        stay = λ k h. n.marked_stay k (ap is_marked (at k) ∙ inv.stay k h);
        reached = λ k h. elim (n.only k h) [
          | inl p ↦ inv.reached k (was k p)
          | inr p ↦ named s k (inv.reached s (was s m)) (subst (λ z. 0 < times k z) (sym named_is) p.0)
        ];
        done = λ k h none t names_t. elim (n.only k h) [
          | inr p ↦ absurd (let some = p.1 in omega (arith, none, some))
          | inl p ↦ elim (one_or_two s k) [
            | inl e ↦ n.marked t (subst (λ z. 0 < times t z) named_is (subst (λ z. 0 < times t (named_at init z)) (sym e.1) names_t))
            | inr e ↦ (let away : times k one.gray ≡ 0 = elim (one_or_more (times k one.gray))
                [ inl z ↦ z | inr z ↦ absurd (let g = n.gray_stay k z in omega (arith, g, none)) ] in
                let was_away : times k self.gray ≡ 0 = ap (times k) split ∙ (omega (arith, e.0, away)) in
                n.marked_stay t (ap is_marked (at t) ∙ inv.done k (was k p) was_away t names_t))
          ]
        ];
      }

-- the same where the marking goes on with a slot that is not gray, if there is one
pub record Onward (init a : ArenaState) (next : Option Slot) : Type 0 where
  pub law : IsArena a
  pub spreading : Spreading init (ahead a next)
  pub marked : IfSome next (λ s. IsMarked a s.0)
  pub ended : IfNone next (a.gray ≡ [])

pub onward_begins : (init a : ArenaState) (next : Option Slot) → ((s : ℕ) → IsMarked init s → 0 < times s init.gray) → IsArena a → ahead a next ≡ init
    → IfSome next (λ s. IsMarked a s.0) → IfNone next (a.gray ≡ []) → Onward init a next
onward_begins init a next gray law same marked ended = record {
  law = law;
  spreading = subst (Spreading init) (sym same) (spreading_begins init gray);
  marked = marked;
  ended = ended;
}

-- what the slot names is marked, and the marking goes on
module _ (init a : ArenaState) (next : Option Slot) (slot : Slot) (from : Onward init a next) (is : next ≡ Some slot) (face : Face)
    (read : IfSome (taken_at a slot.0) (λ t. face ≡ face_of t.body)) where
  inv : Onward init a (Some slot)
  inv = subst (Onward init a) is from

  pub onward_named : IsClosed init → (k : ℕ) → 0 < times k (face_names face) → IsTaken a k
  onward_named = spread_named init (ahead a (Some slot)) inv.spreading slot.0 a refl refl inv.marked face read

  module _ (b : ArenaState) (named : Option Slot) (n : Marks a (ahead b named) (λ k. 0 < times k (face_names face))) (c : ArenaState)
      (after : Option Slot) (same : ahead c after ≡ ahead b named) where
    pub onward_less : work_left (ahead c after) < work_left (ahead a next)
    onward_less =
        let less = spread_less init (ahead a (Some slot)) inv.spreading slot.0 a refl refl inv.marked face read (ahead b named) n in
        subst (λ z. work_left (ahead c after) < work_left (ahead a z)) (sym is) (subst (λ z. work_left z < work_left (ahead a (Some slot))) (sym same) less)

    pub onward_on : IsArena c → IfSome after (λ s. IsMarked c s.0) → IfNone after (c.gray ≡ []) → Onward init c after
    onward_on law marked ended = record {
      law = law;
      spreading = subst (Spreading init) (sym same) (spread_on init (ahead a (Some slot)) inv.spreading slot.0 a refl refl inv.marked face read
          (ahead b named) n);
      marked = marked;
      ended = ended;
    }
