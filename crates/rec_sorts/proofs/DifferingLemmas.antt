-- Words that are not repeated differ.
use Rattle.std.proofs.Common.{refl, sym, ap, arith, ◌∙◌}
use Rattle.std.specs.Prelude.{ℕ, zero, suc, ◌≡◌, ◌<◌, Bool, true, false, ◌||◌, List, [], ◌∷◌, length, bytes_eq}
use Rattle.rec_syntax.specs.Tokens.{Word}
use Rattle.rec_sorts.specs.Lookup.{mentions, repeated}
use Rattle.rec_sorts.specs.Laws.{Every}
use Rattle.rec_sorts.specs.Numbering.{bytes_at}
use Rattle.rec_sorts.proofs.KeptLemmas.{repeated_none}
use Rattle.rec_sorts.proofs.BindingLemmas.{bytes_eq-refl}

-- the word at a number is mentioned
pub mentions_at : (ws : List Word) (k : ℕ) → k < length ws → mentions ws (bytes_at ws k) ≡ true
mentions_at [] k h = absurd (let no : ⊥ = omega arith in no)
mentions_at (w ∷ ws) zero h = ap (λ b. b || mentions ws w.bytes) (bytes_eq-refl w.bytes)
mentions_at (w ∷ ws) (suc k) h = later (bytes_eq w.bytes (bytes_at ws k)) (mentions_at ws k (omega arith))
  where
    later : (a : Bool) → mentions ws (bytes_at ws k) ≡ true → a || mentions ws (bytes_at ws k) ≡ true
    later true e = refl
    later false e = e

at_of : (P : List ℕ → Type 0) (ws : List Word) (k : ℕ) → k < length ws → Every (λ w. P w.bytes) ws → P (bytes_at ws k)
at_of P [] k h all = absurd (let no : ⊥ = omega arith in no)
at_of P (w ∷ ws) zero h all = all.0
at_of P (w ∷ ws) (suc k) h all = at_of P ws k (omega arith) all.1

not_repeated : (before : List Word) (w : Word) (ws : List Word) → repeated before (w ∷ ws) ≡ [] → repeated (w ∷ before) ws ≡ []
not_repeated before w ws e = by (mentions before w.bytes) e
  where
    by : (b : Bool) → ◌≡◌ {A = List Word} (elim b [ true ↦ w ∷ repeated before ws | false ↦ repeated (w ∷ before) ws ]) [] → repeated (w ∷ before) ws ≡ []
    by true e = absurd (cc e)
    by false e = e

-- a word that is not repeated stands nowhere after
clash : (w : Word) (before ws : List Word) (j : ℕ) → j < length ws → repeated (w ∷ before) ws ≡ [] → w.bytes ≡ bytes_at ws j → ⊥
clash w before ws j h e same =
    let apart : bytes_eq w.bytes (bytes_at ws j) || mentions before (bytes_at ws j) ≡ false =
    at_of (λ n. mentions (w ∷ before) n ≡ false) ws j h (repeated_none (w ∷ before) ws e) in
    let equal : bytes_eq w.bytes (bytes_at ws j) ≡ true = ap (bytes_eq w.bytes) (sym same) ∙ bytes_eq-refl w.bytes in
    cc (sym (ap (λ b. b || mentions before (bytes_at ws j)) equal) ∙ apart)

-- words that are not repeated differ
pub differ : (before ws : List Word) → repeated before ws ≡ [] → (k j : ℕ) → k < length ws → j < length ws → bytes_at ws k ≡ bytes_at ws j → k ≡ j
differ before [] e k j hk hj same = absurd (let no : ⊥ = omega arith in no)
differ before (w ∷ ws) e zero zero hk hj same = refl
differ before (w ∷ ws) e zero (suc j) hk hj same = absurd (clash w before ws j (omega arith) (not_repeated before w ws e) same)
differ before (w ∷ ws) e (suc k) zero hk hj same = absurd (clash w before ws k (omega arith) (not_repeated before w ws e) (sym same))
differ before (w ∷ ws) e (suc k) (suc j) hk hj same = ap suc (differ (w ∷ before) ws (not_repeated before w ws e) k j (omega arith) (omega arith) same)
