-- Blocks of sets that answer nothing, and what a change of one set leaves of that.
use Rattle.std.proofs.Common.{List, ℕ, length, get_or, ◌≡◌, ◌<◌, ◌+◌, Bool, true, false, Some, None, refl, sym, ap, ◌∙◌, arith, eqb, inl, inr}
use Rattle.std.specs.Prelude.{slice_get, slice_set, ◌&&◌, ◌||◌, not, if◌then◌else◌}
use Rattle.std.proofs.lemmas.Bool.Decides.{eqb_tells}
use Rattle.rx_term.specs.Store.{Store}
use Rattle.rec_memo.specs.Sets.{answer_of, look_up, place_of, block_of, pair_of, blank_entry, kept_by, is_held, is_free, held_pair}
use Rattle.rec_memo.specs.declared.sets.Set.{Set}
use Rattle.rec_memo.proofs.SetsLemmas.{kept-turn, look_up-set, look_up-set-other, hidden, set-same, set-other}

-- a set that answers nothing to its keys brings no answer
pub none-turn : (sets : List Set) (count k i : ℕ) (s : Set) → i < length sets → (place_of count k ≡ i → answer_of s k ≡ None)
    → look_up sets count k ≡ None → look_up (slice_set sets i s) count k ≡ None
none-turn sets count k i s lt free none = elim (eqb_tells (place_of count k) i) [
  | inl p ↦ look_up-set sets count k i s p.1 lt ∙ free p.1
  | inr p ↦ look_up-set-other sets count k i s p.1 ∙ none
]

-- nor does a set of which what is held was kept
pub kept-none : (w : Store) (sets : List Set) (count k i : ℕ) (d : Set) → 1 < count → i < length sets → look_up sets count k ≡ None
    → look_up (slice_set sets i (kept_by (is_held w) (blank_entry i) (get_or sets i d))) count k ≡ None
kept-none w sets count k i d many lt none = elim (eqb_tells (place_of count k) i) [
  | inl p ↦ kept-turn w sets count k i d many p.1 lt ∙ ap (held_pair w k) none
  | inr p ↦ look_up-set-other sets count k i _ p.1 ∙ none
]

both : (a b : Bool) → (a && b) ≡ true → (a ≡ true) × (b ≡ true)
both false b e = cc
both true b e = (refl, e)

pub neither : (a b : Bool) → (a || not b) ≡ false → (a ≡ false) × (b ≡ true)
neither true b e = cc
neither false true e = (refl, refl)
neither false false e = cc

same : (a b : ℕ) → eqb a b ≡ true → a ≡ b
same a b e = elim (eqb_tells a b) [
  | inl p ↦ p.1
  | inr p ↦ (let f : true ≡ false = sym e ∙ p.0 in cc)
]

-- a set of blanks answers nothing to its keys
pub free-answers : (count i k : ℕ) (s : Set) → 1 < count → is_free i s ≡ true → place_of count k ≡ i → answer_of s k ≡ None
free-answers count i k s many free at =
    let two = both _ _ free in
    let first : eqb k s.first.key.0 ≡ false = ap (eqb k) (same _ _ two.0) ∙ hidden count i k many at in
    let second : eqb k s.second.key.0 ≡ false = ap (eqb k) (same _ _ two.1) ∙ hidden count i k many at in
    ap (λ b. if b then Some (pair_of s.first) else if eqb k s.second.key.0 then Some (pair_of s.second) else None) first
    ∙ ap (λ b. if b then Some (pair_of s.second) else None) second

-- one turn within a block of which nothing was left so far, if nothing of the next set is
pub free-turn : (sets : List Set) (count k i : ℕ) (s : Set) → 1 < count → i < length sets → is_free i s ≡ true
    → (place_of count k < i → look_up sets count k ≡ None) → place_of count k < i + 1 → look_up (slice_set sets i s) count k ≡ None
free-turn sets count k i s many lt free none within = elim (eqb_tells (place_of count k) i) [
  | inl p ↦ look_up-set sets count k i s p.1 lt ∙ free-answers count i k s many free p.1
  | inr p ↦ look_up-set-other sets count k i s p.1 ∙ none (omega (arith, p.1))
]

same-some : {X : Type 0} (a b : X) → Some a ≡ Some b → a ≡ b
same-some a b e = cc

-- a block's flag is taken back if nothing of it answers
pub idle-after : (sets : List Set) (used : List Bool) (count k block : ℕ) (left : Bool) → block < length used
    → (left ≡ false → block_of (place_of count k) ≡ block → look_up sets count k ≡ None)
    → (slice_get used (block_of (place_of count k)) ≡ Some false → look_up sets count k ≡ None)
    → slice_get (slice_set used block left) (block_of (place_of count k)) ≡ Some false → look_up sets count k ≡ None
idle-after sets used count k block left lt here elsewhere flag = elim (eqb_tells (block_of (place_of count k)) block) [
  | inl p ↦ here (same-some left false (sym (set-same used block left lt) ∙ ap (slice_get (slice_set used block left)) (sym p.1) ∙ flag)) p.1
  | inr p ↦ elsewhere (sym (set-other used block (block_of (place_of count k)) left p.1) ∙ flag)
]
