-- What a listener reports of the requests that are rejected.
use Rattle.std.specs.Prelude.{◌≡◌, ◌++◌, ℕ, List, [], Option, Some, None}
use Rattle.rec_serve.specs.declared.ending.Refusal.{Refusal}

-- the bytes that it reports of the request with this number: none if it is accepted
abbrev pub heard_of : (ℕ → List ℕ → Refusal → List ℕ) → ℕ → List ℕ → Option Refusal → List ℕ
heard_of says number request None = []
heard_of says number request (Some refusal) = says number request refusal

-- it was told of the request with this number, if that is rejected, and of no other
abbrev pub Hears : (ℕ → List ℕ → Refusal → List ℕ) → ℕ → List ℕ → List ℕ → Type 0
Hears says number old new = (request : List ℕ) × (refusal : Option Refusal)
    × (new ≡ old ++ heard_of says number request refusal)
