-- A chain is popped slot by slot, and its marked slots go to the gray list.
use Rattle.std.proofs.Common.{◌≡◌, ◌≢◌, ℕ, ◌<◌, ◌≤◌, inl, inr, List, [], ◌∷◌, ◌++◌, length, get_or, set, Some, None, refl, sym, ap, subst, ◌∙◌, arith}
use Rattle.std.specs.Prelude.{Option, true, false, cond, filter, reverse, MatchOption, IfNone}
use Rattle.std.proofs.lemmas.List.{append-nil, append_assoc, reverse-append, length-set, set-set, set-get_or}
use Rattle.rx_arena.specs.declared.Slot.{Slot}
use Rattle.rx_arena.specs.Put.{times, times_in}
use Rattle.rx_arena.specs.Arena.{Taken, ArenaState, taken_at, chain_at, IsLoose, marked_at, is_marked, kept_in}
use Rattle.rx_arena.proofs.PutLemmas.{one_or_two, one_if-same, times_in-set, times_in-at}

-- what a chain's end says, of a loop that ends
pub at_none : {X : Type 0} (r : Option X) (P : Type 0) → ((x : X) → r ≡ Some x → ⊥) → IfNone r P → P
at_none None P none h = h
at_none (Some x) P none h = absurd (none x refl)

pub at_end : {X : Type 0} (r : Option X) (P : Type 0) (Q : X → Type 0) → ((x : X) → r ≡ Some x → ⊥) → MatchOption r P Q → P
at_end None P Q none h = h
at_end (Some x) P Q none h = absurd (none x refl)

-- a pop that gives no slot changes nothing, and the chain is empty
pub pop_ends : (r : Option Slot) (c : ℕ) (self one : ArenaState)
    → ((x : Slot) → r ≡ Some x → ⊥) → IfNone r (one ≡ self)
    → MatchOption r (chain_at self c ≡ []) (λ s. chain_at self c ≡ s.0 ∷ chain_at one c)
    → (one ≡ self) × (chain_at self c ≡ [])
pop_ends r c self one none same empty = (
  at_none r (one ≡ self) none same,
  at_end r (chain_at self c ≡ []) (λ s. chain_at self c ≡ s.0 ∷ chain_at one c) none empty,
)

-- a pop that gives a slot leaves the chain shorter, and so does what keeps the chains after it
pub pop_shortens : (c s : ℕ) (self one two : ArenaState)
    → chain_at self c ≡ s ∷ chain_at one c → two.chains ≡ one.chains
    → length (chain_at two c) < length (chain_at self c)
pop_shortens c s self one two split same =
    let a = ap length split in
    let b = ap (λ (z : List (List ℕ)). length (get_or z c [])) same in
    omega (arith, a, b)

-- of these slots, those that are marked in the arena, and those that are not
abbrev pub kept_of : ArenaState → List ℕ → List ℕ
kept_of a ss = filter (λ s. marked_at a s) ss

pub kept-yes : (a : ArenaState) (s : ℕ) (ss : List ℕ) → marked_at a s ≡ true
    → kept_of a (s ∷ ss) ≡ s ∷ kept_of a ss
kept-yes a s ss e = ap (λ b. cond b (s ∷ kept_of a ss) (kept_of a ss)) e

pub kept-no : (a : ArenaState) (s : ℕ) (ss : List ℕ) → marked_at a s ≡ false
    → kept_of a (s ∷ ss) ≡ kept_of a ss
kept-no a s ss e = ap (λ b. cond b (s ∷ kept_of a ss) (kept_of a ss)) e

pub reverse-cons : (s : ℕ) (ss ts : List ℕ) → reverse (s ∷ ss) ++ ts ≡ reverse ss ++ s ∷ ts
reverse-cons s ss ts = ap (λ z. z ++ ts) (reverse-append (s ∷ []) ss) ∙ append_assoc (reverse ss) (s ∷ []) ts

-- the chain is popped down to what is left of it
pub record Popping (init : ArenaState) (c : ℕ) (self : ArenaState) : Type 0 where
  pub within : c < length self.chains
  pub chains : self.chains ≡ set init.chains c (chain_at self c)
  pub cap : self.cap ≡ init.cap
  pub gray : reverse self.gray ++ kept_of init (chain_at self c) ≡ kept_in init c
  pub left : (t : ℕ) → 0 < times t (chain_at self c) → taken_at self t ≡ taken_at init t
  pub left_in : (t : ℕ) → 0 < times t (chain_at self c) → 0 < times t (chain_at init c)
  pub not_gray : (t : ℕ) → 0 < times t (chain_at self c) → times t self.gray ≡ 0
  pub loose : (t : ℕ) → 0 < times t self.gray → IsLoose self t

pub popping_begins : (init : ArenaState) (c : ℕ) → c < length init.chains → init.gray ≡ []
    → Popping init c init
popping_begins init c lt none = record {
  within = lt;
  chains = sym (set-get_or init.chains c []);
  cap = refl;
  gray = ap (λ z. reverse z ++ kept_in init c) none;
  left = λ t h. refl;
  left_in = λ t h. h;
  not_gray = λ t h. ap (times t) none;
  loose = λ t h. (let z : times t init.gray ≡ 0 = ap (times t) none in absurd (omega (arith, h, z)));
}

-- a slot is popped
module _ (init : ArenaState) (c : ℕ) (self : ArenaState) (inv : Popping init c self) (s : ℕ) (one : ArenaState)
    (split : chain_at self c ≡ s ∷ chain_at one c) (rest : one ≡ record self { chains = set self.chains c (chain_at one c) }) (free : IsLoose one s) where
  pub here : 0 < times s (chain_at self c)
  here = subst (λ z. 0 < times s z) (sym split) (omega (arith, one_if-same s))

  chains_are : one.chains ≡ set self.chains c (chain_at one c)
  chains_are = ap (λ (v : ArenaState). v.chains) rest

  pub cells_are : one.cells ≡ self.cells
  cells_are = ap (λ (v : ArenaState). v.cells) rest

  gray_is : one.gray ≡ self.gray
  gray_is = ap (λ (v : ArenaState). v.gray) rest

  pub same_cell : taken_at one s ≡ taken_at init s
  same_cell = ap (λ (z : List (Option Taken)). get_or z s None) cells_are ∙ inv.left s here

  pub same_mark : marked_at one s ≡ marked_at init s
  same_mark = ap is_marked same_cell

  pub away : times s one.gray ≡ 0
  away = ap (times s) gray_is ∙ inv.not_gray s here

  pub within_one : c < length one.chains
  within_one = omega (arith, inv.within, ap length chains_are, length-set self.chains c (chain_at one c))

  -- the popped slot is not in what is left
  gone : times s (chain_at one c) ≡ 0
  gone = omega (arith, free, times_in-at s one.chains c)

  other : (t : ℕ) → 0 < times t (chain_at one c) → t ≢ s
  other t h e = let z : 0 < times s (chain_at one c) = subst (λ u. 0 < times u (chain_at one c)) e h in absurd (omega (arith, z, gone))

  was_left : (t : ℕ) → 0 < times t (chain_at one c) → 0 < times t (chain_at self c)
  was_left t h = subst (λ z. 0 < times t z) (sym split) (omega (arith, h))

  chains_from : one.chains ≡ set init.chains c (chain_at one c)
  chains_from = chains_are ∙ ap (λ z. set z c (chain_at one c)) inv.chains ∙ set-set init.chains c (chain_at self c) (chain_at one c)

  stays_loose : (t : ℕ) → times_in t self.chains ≡ 0 → times_in t one.chains ≡ 0
  stays_loose t z =
      let count = times_in-set t self.chains c (chain_at one c) inv.within in
      let is : times_in t one.chains ≡ times_in t (set self.chains c (chain_at one c)) = ap (times_in t) chains_are in
      let less : times t (chain_at one c) ≤ times t (chain_at self c) = subst (λ y. times t (chain_at one c) ≤ times t y) (sym split) (omega arith) in
      omega (arith, z, count, is, less)

  -- a marked slot goes to the gray list
  pub popped_marked : (two : ArenaState) → marked_at one s ≡ true
      → two ≡ record one { gray = s ∷ one.gray } → Popping init c two
  popped_marked two m e =
      let mark : marked_at init s ≡ true = sym same_mark ∙ m in
      subst (Popping init c) (sym e) (record {
        within = within_one;
        chains = chains_from;
        cap = ap (λ (v : ArenaState). v.cap) rest ∙ inv.cap;
        gray = reverse-cons s one.gray (kept_of init (chain_at one c))
            ∙ (λ i. reverse (gray_is i) ++ sym (ap (kept_of init) split ∙ kept-yes init s (chain_at one c) mark) i) ∙ inv.gray;
        left = λ t h. ap (λ (z : List (Option Taken)). get_or z t None) cells_are ∙ inv.left t (was_left t h);
        left_in = λ t h. inv.left_in t (was_left t h);
        not_gray = λ t h. elim (one_or_two s t) [
          | inl y ↦ absurd (other t h (sym y.1))
          | inr y ↦ (let z = ap (times t) gray_is ∙ inv.not_gray t (was_left t h) in omega (arith, y.0, z))
        ];
        loose = λ t h. elim (one_or_two s t) [
          | inl y ↦ subst (λ z. times_in z one.chains ≡ 0) y.1 free
          | inr y ↦ stays_loose t (inv.loose t (let is = ap (times t) gray_is in omega (arith, h, y.0, is)))
        ];
      })

  -- a slot that is not marked goes elsewhere, and the other cells stay
  pub popped_unmarked : (two : ArenaState) (cells : List (Option Taken)) (spare : ℕ)
      → marked_at one s ≡ false → two ≡ record one { cells = cells; spare = spare }
      → ((t : ℕ) → t ≢ s → get_or cells t None ≡ taken_at one t) → Popping init c two
  popped_unmarked two cells spare m e same =
      let mark : marked_at init s ≡ false = sym same_mark ∙ m in
      subst (Popping init c) (sym e) (record {
        within = within_one;
        chains = chains_from;
        cap = ap (λ (v : ArenaState). v.cap) rest ∙ inv.cap;
        gray = (λ i. reverse (gray_is i) ++ sym (ap (kept_of init) split ∙ kept-no init s (chain_at one c) mark) i) ∙ inv.gray;
        left = λ t h. same t (other t h) ∙ ap (λ (z : List (Option Taken)). get_or z t None) cells_are ∙ inv.left t (was_left t h);
        left_in = λ t h. inv.left_in t (was_left t h);
        not_gray = λ t h. ap (times t) gray_is ∙ inv.not_gray t (was_left t h);
        loose = λ t h. stays_loose t (inv.loose t (let is = ap (times t) gray_is in omega (arith, h, is)));
      })

-- nothing is left of the chain
pub popped : (init : ArenaState) (c : ℕ) (self : ArenaState) → Popping init c self
    → chain_at self c ≡ []
    → (reverse self.gray ≡ kept_in init c) × (self.chains ≡ set init.chains c [])
popped init c self inv none = (
  sym (append-nil (reverse self.gray)) ∙ ap (λ z. reverse self.gray ++ z) (sym (ap (kept_of init) none)) ∙ inv.gray,
  inv.chains ∙ ap (λ z. set init.chains c z) none,
)
