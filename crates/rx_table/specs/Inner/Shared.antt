-- How often parts are used, by their indices.
use Rattle.std.specs.Prelude.{ℕ, ◌≡◌, ◌<◌, List, count_by, get_or, length, nat_eq}

-- AreCounts n is uses: how often each of the first `n` indices is among these
abbrev pub AreCounts : ℕ → List ℕ → List ℕ → Type 0
AreCounts n is uses = (length uses ≡ n) × ((i : ℕ) → i < n → get_or uses i 0 ≡ count_by (nat_eq i) is)
