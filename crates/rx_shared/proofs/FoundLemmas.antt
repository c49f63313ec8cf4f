-- What the words of cells tell of their bodies.
use Rattle.std.proofs.Common.{◌≡◌, ◌≢◌, ℕ, Option, Some, None, sym, ◌∙◌}
use Rattle.std.specs.Prelude.{IfSome, ◌↔◌}
use Rattle.rx_arena.specs.declared.CellBody.{CellBody}
use Rattle.rx_arena.specs.Faces.{ask, face_of, word_of}
use Rattle.rx_arena.specs.Arena.{Taken}
use Rattle.rx_shared.proofs.BodyLemmas.{same-word, face-word}

-- words that say all of the bodies are the same
pub words-same : (o : Option Taken) (w v : ℕ) (body : CellBody) (P : Type 0) → P → IfSome o (λ t. w ≡ word_of t.body) → w ≡ v → v ≡ word_of body
    → v ≢ ask → IfSome o (λ t. P ↔ (face_of t.body ≡ face_of body))
words-same None w v body P p is same e ne = tt
words-same (Some t) w v body P p is same e ne = ((λ _. same-word v t.body body ne (sym same ∙ is) e), (λ _. p))

-- words differ
pub words-differ : (o : Option Taken) (w v : ℕ) (body : CellBody) (P : Type 0) → (P → w ≡ v) → IfSome o (λ t. w ≡ word_of t.body) → w ≢ v
    → v ≡ word_of body → IfSome o (λ t. P ↔ (face_of t.body ≡ face_of body))
words-differ None w v body P has is differ e = tt
words-differ (Some t) w v body P has is differ e = ((λ p. absurd (differ (has p))), (λ f. absurd (differ (is ∙ face-word t.body body f ∙ sym e))))
