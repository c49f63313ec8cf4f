-- An arena stays one in which nothing is protected.
use Rattle.std.proofs.Common.{◌≡◌, ℕ, inl, inr, List, [], ◌∷◌, get_or, Some, None, ap, ◌∙◌}
use Rattle.std.specs.Prelude.{Option, true}
use Rattle.rx_arena.specs.declared.CellBody.{CellBody}
use Rattle.rx_arena.specs.Put.{put, altered, emptied}
use Rattle.rx_arena.specs.Arena.{Taken, ArenaState, roots_at, root_count, new_cell, with_marking}
use Rattle.test_store.specs.Samples.{HasNoRoots}
use Rattle.rx_arena.proofs.PutLemmas.{one_or_two, get_or-put_same, get_or-put_other}
use Rattle.rx_arena.proofs.ArenaCallLemmas.{just_taken, taken_else, roots_marked}

pub no_roots_taken : (old new : ArenaState) (k : ℕ) (b : CellBody) → HasNoRoots old → new.cells ≡ put old.cells k (Some (new_cell b)) → HasNoRoots new
no_roots_taken old new k b none is s = elim (one_or_two s k) [
  | inl h ↦ ap (λ (z : ℕ). roots_at new z) h.1 ∙ ap root_count (just_taken old new k (new_cell b) is)
  | inr h ↦ ap root_count (taken_else old new k (new_cell b) is s h.1) ∙ none s
]

pub no_roots_same : (old new : ArenaState) → HasNoRoots old → new.cells ≡ old.cells → HasNoRoots new
no_roots_same old new none is s = ap (λ (z : List (Option Taken)). root_count (get_or z s None)) is ∙ none s

pub no_roots_marked : (old new : ArenaState) (k : ℕ) → HasNoRoots old → new.cells ≡ altered k (with_marking true) old.cells → HasNoRoots new
no_roots_marked old new k none is s = roots_marked old new k true is s ∙ none s

put_none : (xs : List (Option Taken)) (k : ℕ) → ((s : ℕ) → root_count (get_or xs s None) ≡ 0) → (s : ℕ) → root_count (get_or (put xs k None) s None) ≡ 0
put_none xs k none s = elim (one_or_two s k) [
  | inl h ↦ ap (λ (z : ℕ). root_count (get_or (put xs k None) z None)) h.1 ∙ ap root_count (get_or-put_same xs k None)
  | inr h ↦ ap root_count (get_or-put_other xs k s None h.1) ∙ none s
]

emptied_none : (xs : List (Option Taken)) (ss : List ℕ) → ((s : ℕ) → root_count (get_or xs s None) ≡ 0) → (s : ℕ)
    → root_count (get_or (emptied xs ss) s None) ≡ 0
emptied_none xs [] none = none
emptied_none xs (k ∷ ss) none = emptied_none (put xs k None) ss (put_none xs k none)

pub no_roots_swept : (old new : ArenaState) (ss : List ℕ) → HasNoRoots old → new.cells ≡ emptied old.cells ss → HasNoRoots new
no_roots_swept old new ss none is s = ap (λ (z : List (Option Taken)). root_count (get_or z s None)) is ∙ emptied_none old.cells ss none s
