-- Marked symbols.
use Rattle.std.specs.Prelude.{ℕ, ◌≡◌, ◌≢◌, ◌<◌, Bool, true, false, List, Option, Some, None, All}
use Rattle.std.specs.Prelude.{length, get_or}
use Rattle.rec_match.specs.declared.marks.Marks.{Marks}

-- AreListed marks ks: each marked index is in the list
abbrev pub AreListed : List Bool → List ℕ → Type 0
AreListed marks ks = (j : ℕ) → get_or marks j false ≡ true
    → (i : ℕ) × (i < length ks) × (get_or ks i 0 ≡ j)

-- AreMarked m: marks, list and ranks of the symbols agree
pub record AreMarked (m : Marks) : Type 0 where
  pub within : All (λ k. k < length m.marked.items) m.symbols.items
  pub listed : AreListed m.marked.items m.symbols.items
  pub counted : length m.ranks.items ≡ length m.marked.items
  pub ranked : (i : ℕ) → i < length m.symbols.items
      → get_or m.ranks.items (get_or m.symbols.items i 0) 0 ≡ i

-- IsRank ks k o: `o` is the one index of `k` in the list; none if it is not in it
abbrev pub IsRank : List ℕ → ℕ → Option ℕ → Type 0
IsRank ks k (Some i) = (i < length ks) × ((j : ℕ) → j < length ks → get_or ks j 0 ≡ k → j ≡ i)
IsRank ks k None = (j : ℕ) → j < length ks → get_or ks j 0 ≢ k

-- HasMarks m n: the marks agree, and there are `n` symbols
pub record HasMarks (m : Marks) (n : ℕ) : Type 0 where
  pub marked : AreMarked m
  pub counted : length m.marked.items ≡ n
