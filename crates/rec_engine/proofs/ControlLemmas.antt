-- Whether an evaluation obeys its control, from one answer to the next.
use Rattle.std.proofs.Common.{◌≡◌, ◌∙◌, refl, sym, subst, inl, inr, Result, Ok, Err}
use Rattle.std.specs.Result.{IsErrAnd}
use Rattle.std.specs.Prelude.{◌⊎◌}
use Rattle.rec_engine.specs.Control.{Obeys}
use Rattle.rec_engine.specs.declared.engine.errors.EngineFault.{EngineFault}

-- nothing was requested, and it does not stop
pub obeys-none : {A : Type 0} {a : Type 0} (s : A) (r : Result A EngineFault) → (r ≡ Ok s → ⊥) → Obeys s a a r
obeys-none s r other = record { only = λ e. absurd (other e); always = λ h. inl h }

-- it stopped, and that was requested
pub obeys-stop : {A : Type 0} {a b : Type 0} (s : A) (r : Result A EngineFault) → r ≡ Ok s → b → Obeys s a b r
obeys-stop s r e h = record { only = λ _. h; always = λ _. inr e }

module _ {A B : Type 0} {a b : Type 0} {s : A} {x : Result A EngineFault} {s' : B} {r : Result B EngineFault} (h : Obeys s a b x) where
  pub obeys-as : (r ≡ Ok s' → x ≡ Ok s) → (x ≡ Ok s → r ≡ Ok s') → Obeys s' a b r
  obeys-as back forth = record { only = λ e. h.only (back e); always = λ k. by (h.always k) }
    where
      by : a ⊎ (x ≡ Ok s) → a ⊎ (r ≡ Ok s')
      by (inl k) = inl k
      by (inr e) = inr (forth e)

  -- neither is a stop
  pub obeys-other : (x ≡ Ok s → ⊥) → (r ≡ Ok s' → ⊥) → Obeys s' a b r
  obeys-other other other' = obeys-as (λ e. absurd (other' e)) (λ e. absurd (other e))

-- an error that is passed on is no stop
pub obeys-failed : {A B : Type 0} {a b : Type 0} {s : A} {s' : B} {x : Result A EngineFault} {f : EngineFault} (f' : EngineFault) {r : Result B EngineFault}
    → Obeys s a b x → x ≡ Err f → IsErrAnd r (λ e. e ≡ f') → Obeys s' a b r
obeys-failed f' h e is = obeys-other h (λ q. cc (sym e ∙ q)) (λ q. subst (λ z. IsErrAnd z (λ e. e ≡ f')) q is)

pub obeys-stopped : {A B : Type 0} {a b : Type 0} {s : A} {s' : B} {x : Result A EngineFault} → Obeys s a b x → x ≡ Ok s → Obeys s' a b (Ok s')
obeys-stopped h e = record { only = λ _. h.only e; always = λ _. inr refl }

-- requests since the start of an evaluation
pub obeys-since : {A : Type 0} {a b d : Type 0} {s : A} {r : Result A EngineFault} → (b → a) → Obeys s b d r → Obeys s a d r
obeys-since {a = a} {b = b} {s = s} {r = r} back h = record { only = h.only; always = λ k. by (h.always k) }
  where
    by : b ⊎ (r ≡ Ok s) → a ⊎ (r ≡ Ok s)
    by (inl k) = inl (back k)
    by (inr e) = inr e
