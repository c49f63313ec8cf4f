-- What two arenas share that differ in their marks and gray lists alone.
use Rattle.std.proofs.Common.{◌≡◌, ◌≢◌, ℕ, List, [], get_or, map, Some, None, refl, sym, ap, ◌∙◌}
use Rattle.std.specs.Prelude.{Option, Bool, false}
use Rattle.std.specs.Option.{option_map}
use Rattle.rx_arena.specs.Put.{put, filled, altered}
use Rattle.rx_arena.specs.Arena.{Taken, ArenaState, taken_at, IsTaken, taken_count, chain_at, is_marked, marked_at, root_count, roots_at, with_marking}
use Rattle.rx_arena.proofs.PutLemmas.{get_or-put_same, get_or-put_other, put-get_or, map-put, get_or-map_option, filled-map}
use Rattle.rx_sweep.specs.Reach.{unmarked, cell_names, named_at}
use Rattle.rx_sweep.specs.Inner.Marking.{SameButMarks}

pub same_refl : (a : ArenaState) → SameButMarks a a
same_refl a = record { bare_same = refl }

pub same_trans : (a b c : ArenaState) → SameButMarks a b → SameButMarks b c → SameButMarks a c
same_trans a b c p q = record { bare_same = q.bare_same ∙ p.bare_same }

pub names-unmarked : (c : Option Taken) → cell_names (unmarked c) ≡ cell_names c
names-unmarked None = refl
names-unmarked (Some t) = refl

root_count-unmarked : (c : Option Taken) → root_count (unmarked c) ≡ root_count c
root_count-unmarked None = refl
root_count-unmarked (Some t) = refl

some_unmarked : (c d : Option Taken) (t : Taken) → unmarked d ≡ unmarked c → c ≡ Some t → (u : Taken) × (d ≡ Some u)
some_unmarked c (Some u) t e s = (u, refl)
some_unmarked None None t e s = absurd (cc)
some_unmarked (Some v) None t e s = absurd (cc)

pub unmarked-with_marking : (y : Bool) (c : Option Taken) → unmarked (option_map (with_marking y) c) ≡ unmarked c
unmarked-with_marking y None = refl
unmarked-with_marking y (Some t) = refl

-- a cell that is not marked
pub unmarked-clear : (c : Option Taken) → is_marked c ≡ false → unmarked c ≡ c
unmarked-clear None e = refl
unmarked-clear (Some t) e = ap (λ y. Some (with_marking y t)) (sym e)

module _ (a b : ArenaState) (p : SameButMarks a b) where
  pub same_chains : b.chains ≡ a.chains
  same_chains = ap (λ (v : ArenaState). v.chains) p.bare_same

  pub same_chain : (c : ℕ) → chain_at b c ≡ chain_at a c
  same_chain c = ap (λ (z : List (List ℕ)). get_or z c []) same_chains

  pub same_spare : b.spare ≡ a.spare
  same_spare = ap (λ (v : ArenaState). v.spare) p.bare_same

  pub same_cap : b.cap ≡ a.cap
  same_cap = ap (λ (v : ArenaState). v.cap) p.bare_same

  pub same_count : taken_count b ≡ taken_count a
  same_count = sym (filled-map (with_marking false) b.cells) ∙ ap (λ (v : ArenaState). filled v.cells) p.bare_same ∙ filled-map (with_marking false) a.cells

  pub same_at : (s : ℕ) → unmarked (taken_at b s) ≡ unmarked (taken_at a s)
  same_at s = sym (get_or-map_option (with_marking false) b.cells s) ∙ ap (λ (v : ArenaState). get_or v.cells s None) p.bare_same
      ∙ get_or-map_option (with_marking false) a.cells s

  pub same_names : (s : ℕ) → named_at b s ≡ named_at a s
  same_names s = sym (names-unmarked (taken_at b s)) ∙ ap cell_names (same_at s) ∙ names-unmarked (taken_at a s)

  pub same_roots : (s : ℕ) → roots_at b s ≡ roots_at a s
  same_roots s = sym (root_count-unmarked (taken_at b s)) ∙ ap root_count (same_at s) ∙ root_count-unmarked (taken_at a s)

  pub same_taken : (s : ℕ) → IsTaken a s → IsTaken b s
  same_taken s h = some_unmarked (taken_at a s) (taken_at b s) h.0 (same_at s) h.1

  pub taken_same : (s : ℕ) → IsTaken b s → IsTaken a s
  taken_same s h = some_unmarked (taken_at b s) (taken_at a s) h.0 (sym (same_at s)) h.1

-- a mark that is written
module _ (a : ArenaState) (s : ℕ) (t : Taken) (here : taken_at a s ≡ Some t) (y : Bool) where
  pub bare-altered : map unmarked (altered s (with_marking y) a.cells) ≡ map unmarked a.cells
  bare-altered =
      map-put (with_marking false) a.cells s (option_map (with_marking y) (taken_at a s))
      ∙ ap (put (map unmarked a.cells) s) (unmarked-with_marking y (taken_at a s) ∙ ap unmarked here)
      ∙ put-get_or (map unmarked a.cells) s (with_marking false t) (get_or-map_option (with_marking false) a.cells s ∙ ap unmarked here)

  pub marked-altered_same : is_marked (get_or (altered s (with_marking y) a.cells) s None) ≡ y
  marked-altered_same = ap is_marked (get_or-put_same a.cells s (option_map (with_marking y) (taken_at a s)) ∙ ap (option_map (with_marking y)) here)

  pub marked-altered_other : (k : ℕ) → k ≢ s → is_marked (get_or (altered s (with_marking y) a.cells) k None) ≡ marked_at a k
  marked-altered_other k ne = ap is_marked (get_or-put_other a.cells s k (option_map (with_marking y) (taken_at a s)) ne)
