-- A chain is sorted out: its slots are popped one by one, and go to the gray list or back.
use Rattle.std.proofs.Common.{◌≡◌, ℕ, ◌+◌, ◌<◌, inl, inr, List, [], ◌∷◌, ◌++◌, length, get_or, set, None, refl, sym, ap, subst, ◌∙◌, arith}
use Rattle.std.specs.Prelude.{true, false, cond, not, filter, reverse}
use Rattle.std.proofs.lemmas.List.{append-nil, length-set, get_or-set_same, set-set, set-get_or}
use Rattle.rx_arena.specs.Put.{times, times_in, put, emptied}
use Rattle.rx_arena.specs.Arena.{ArenaState, chain_at, IsLoose, marked_at, roots_at, root_count, kept_in, dropped_from, IsUnprotected}
use Rattle.rx_arena.proofs.PutLemmas.{one_or_two, one_if-same, get_or-put_other, times_in-set}
use Rattle.rx_arena.proofs.PoppingLemmas.{reverse-cons, Popping, popping_begins, here, cells_are, same_cell, same_mark, popped_marked, popped_unmarked, popped}

-- of these slots, those that are not marked in the arena
abbrev pub dropped_of : ArenaState → List ℕ → List ℕ
dropped_of a ss = filter (λ s. not (marked_at a s)) ss

dropped-yes : (a : ArenaState) (s : ℕ) (ss : List ℕ) → marked_at a s ≡ true → dropped_of a (s ∷ ss) ≡ dropped_of a ss
dropped-yes a s ss e = ap (λ b. cond (not b) (s ∷ dropped_of a ss) (dropped_of a ss)) e

dropped-no : (a : ArenaState) (s : ℕ) (ss : List ℕ) → marked_at a s ≡ false → dropped_of a (s ∷ ss) ≡ s ∷ dropped_of a ss
dropped-no a s ss e = ap (λ b. cond (not b) (s ∷ dropped_of a ss) (dropped_of a ss)) e

-- the chain is sorted out down to what is left of it
pub record Sorting (init : ArenaState) (c : ℕ) (self : ArenaState) : Type 0 where
  pub popping : Popping init c self
  pub cells : emptied self.cells (dropped_of init (chain_at self c)) ≡ emptied init.cells (dropped_from init c)
  pub spare : self.spare + length (dropped_of init (chain_at self c)) ≡ init.spare + length (dropped_from init c)

pub sorting_begins : (init : ArenaState) (c : ℕ) → c < length init.chains → init.gray ≡ [] → Sorting init c init
sorting_begins init c lt none = record { popping = popping_begins init c lt none; cells = refl; spare = refl }

-- a slot is popped
module _ (init : ArenaState) (c : ℕ) (self : ArenaState) (inv : Sorting init c self) (s : ℕ) (one : ArenaState)
    (split : chain_at self c ≡ s ∷ chain_at one c) (rest : one ≡ record self { chains = set self.chains c (chain_at one c) }) (free : IsLoose one s) where
  cells_stay : one.cells ≡ self.cells
  cells_stay = cells_are init c self inv.popping s one split rest free

  init_mark : marked_at one s ≡ marked_at init s
  init_mark = same_mark init c self inv.popping s one split rest free

  pub unprotected : IsUnprotected init c → marked_at one s ≡ false → roots_at one s ≡ 0
  unprotected h m =
      ap root_count (same_cell init c self inv.popping s one split rest free)
      ∙ h s (inv.popping.left_in s (here init c self inv.popping s one split rest free)) (sym init_mark ∙ m)

  -- a marked slot goes to the gray list
  pub sorted_marked : (two : ArenaState) → marked_at one s ≡ true → two ≡ record one { gray = s ∷ one.gray } → Sorting init c two
  sorted_marked two m e =
      let drops : dropped_of init (chain_at self c) ≡ dropped_of init (chain_at one c) =
      ap (dropped_of init) split ∙ dropped-yes init s (chain_at one c) (sym init_mark ∙ m) in
      subst (Sorting init c) (sym e) (record {
        popping = popped_marked init c self inv.popping s one split rest free (record one { gray = s ∷ one.gray }) m refl;
        cells = (λ i. emptied (cells_stay i) (sym drops i)) ∙ inv.cells;
        spare = (λ i. (ap (λ (v : ArenaState). v.spare) rest) i + length (sym drops i)) ∙ inv.spare;
      })

  -- a slot that is not marked is freed
  pub sorted_unmarked : (two : ArenaState) → marked_at one s ≡ false → two ≡ record one { cells = put one.cells s None; spare = one.spare + 1 }
      → Sorting init c two
  sorted_unmarked two m e =
      let drops : dropped_of init (chain_at self c) ≡ s ∷ dropped_of init (chain_at one c) =
      ap (dropped_of init) split ∙ dropped-no init s (chain_at one c) (sym init_mark ∙ m) in
      let spare_is : one.spare ≡ self.spare = ap (λ (v : ArenaState). v.spare) rest in
      let longer : length (dropped_of init (chain_at self c)) ≡ length (dropped_of init (chain_at one c)) + 1 = ap length drops ∙ (omega arith) in
      subst (Sorting init c) (sym e) (record {
        popping = popped_unmarked init c self inv.popping s one split rest free _ (put one.cells s None) (one.spare + 1) m refl (λ t ne.
            get_or-put_other one.cells s t None ne);
        cells = (λ i. emptied (put (cells_stay i) s None) (dropped_of init (chain_at one c))) ∙ ap (emptied self.cells) (sym drops) ∙ inv.cells;
        spare = omega (arith, spare_is, longer, inv.spare);
      })

-- nothing is left of the chain
pub sorted : (init : ArenaState) (c : ℕ) (self : ArenaState) → Sorting init c self → chain_at self c ≡ []
    → (self.cells ≡ emptied init.cells (dropped_from init c)) × (reverse self.gray ≡ kept_in init c) × (self.chains ≡ set init.chains c [])
    × (self.spare ≡ init.spare + length (dropped_from init c))
sorted init c self inv none =
    let drops : dropped_of init (chain_at self c) ≡ [] = ap (dropped_of init) none in
    let count : length (dropped_of init (chain_at self c)) ≡ 0 = ap length drops in
    let spare = inv.spare in
    let rest = popped init c self inv.popping none in (
      ap (emptied self.cells) (sym drops) ∙ inv.cells,
      rest.0,
      rest.1,
      omega (arith, spare, count),
    )

-- the gray list goes back to the chain
pub record Restoring (init : ArenaState) (c : ℕ) (self : ArenaState) : Type 0 where
  pub within : c < length self.chains
  pub same : self ≡ record init { chains = set init.chains c (chain_at self c); gray = self.gray }
  pub built : reverse self.gray ++ chain_at self c ≡ reverse init.gray
  pub loose : (t : ℕ) → 0 < times t self.gray → IsLoose self t

pub restoring_begins : (init : ArenaState) (c : ℕ) → c < length init.chains → chain_at init c ≡ []
    → ((t : ℕ) → 0 < times t init.gray → IsLoose init t) → Restoring init c init
restoring_begins init c lt none loose = record {
  within = lt;
  same = ap (λ z. record init { chains = z }) (sym (set-get_or init.chains c []));
  built = ap (λ z. reverse init.gray ++ z) none ∙ append-nil (reverse init.gray);
  loose = loose;
}

module _ (init : ArenaState) (c : ℕ) (self : ArenaState) (inv : Restoring init c self) (s : ℕ) (one : ArenaState) (split : self.gray ≡ s ∷ one.gray)
    (rest : one ≡ record self { gray = one.gray }) (away : times s one.gray ≡ 0) where
  one_chains : one.chains ≡ self.chains
  one_chains = ap (λ (v : ArenaState). v.chains) rest

  pub restored_within : c < length one.chains
  restored_within = omega (arith, inv.within, ap length one_chains)

  pub restored_loose : IsLoose one s
  restored_loose = ap (times_in s) one_chains ∙ inv.loose s (subst (λ z. 0 < times s z) (sym split) (omega (arith, one_if-same s)))

  pub restored : (two : ArenaState) → two ≡ record one { chains = set one.chains c (s ∷ chain_at one c) } → Restoring init c two
  restored two e =
      let lt = restored_within in
      let at : get_or (set one.chains c (s ∷ chain_at one c)) c [] ≡ s ∷ chain_at one c = get_or-set_same one.chains c (s ∷ chain_at one c) [] lt in
      let old : chain_at one c ≡ chain_at self c = ap (λ (z : List (List ℕ)). get_or z c []) one_chains in
      let chains : set one.chains c (s ∷ chain_at one c) ≡ set init.chains c (s ∷ chain_at one c) =
      ap (λ z. set z c (s ∷ chain_at one c)) (one_chains ∙ ap (λ (v : ArenaState). v.chains) inv.same)
      ∙ set-set init.chains c (chain_at self c) (s ∷ chain_at one c) in
      let base : record one { chains = set init.chains c (s ∷ chain_at one c) } ≡ record init {
        chains = set init.chains c (s ∷ chain_at one c);
        gray = one.gray;
      } =
      ap (λ (v : ArenaState). record v { chains = set init.chains c (s ∷ chain_at one c) })
      (rest ∙ ap (λ (v : ArenaState). record v { gray = one.gray }) inv.same) in
      subst (Restoring init c) (sym e) (record {
        within = omega (arith, lt, length-set one.chains c (s ∷ chain_at one c));
        same = ap (λ z. record one { chains = z }) chains ∙ base ∙ ap (λ z. record init { chains = set init.chains c z; gray = one.gray }) (sym at);
        built = ap (λ z. reverse one.gray ++ z) at ∙ sym (reverse-cons s one.gray (chain_at one c)) ∙ (λ i. reverse (sym split i) ++ old i) ∙ inv.built;
        loose = λ t h. elim (one_or_two s t) [
          | inl y ↦ (let here : 0 < times s one.gray = subst (λ z. 0 < times z one.gray) (sym y.1) h in absurd (omega (arith, here, away)))
          | inr y ↦ (let was : 0 < times t self.gray = subst (λ z. 0 < times t z) (sym split) (omega (arith, h)) in
              let none : times_in t one.chains ≡ 0 = ap (times_in t) one_chains ∙ inv.loose t was in
              let count = times_in-set t one.chains c (s ∷ chain_at one c) lt in
              omega (arith, none, count, y.0))
        ];
      })

pub restored_all : (init : ArenaState) (c : ℕ) (self : ArenaState) → Restoring init c self → self.gray ≡ []
    → self ≡ record init { chains = set init.chains c (reverse init.gray); gray = [] }
restored_all init c self inv none =
    let chain : chain_at self c ≡ reverse init.gray = ap (λ z. reverse z ++ chain_at self c) (sym none) ∙ inv.built in
    inv.same ∙ (λ i. record init { chains = set init.chains c (chain i); gray = none i })
