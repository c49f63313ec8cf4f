-- Line ends in the bytes that a writer received.
use Rattle.std.specs.Prelude.{ℕ, List, ◌==◌, count_by}

-- newlines text: the number of line ends
abbrev pub newlines : List ℕ → ℕ
newlines text = count_by (λ b. b == 10) text
