-- How a run of a specification relates to its specified output, and causes of its errors.
use Rattle.std.specs.Prelude.{◌≡◌, ◌⊎◌, ◌||◌, ℕ, Bool, List, [], Option, Some, None, IfSome}
use Rattle.std.specs.Prelude.{Result, option_map}
use Rattle.std.proofs.Common.{inl, inr}
use Rattle.std.specs.Borrow.{MutBor}
use Rattle.rx_term.specs.Steps.{IsExhausted}
use Rattle.rx_term.specs.Store.{Store}
use Rattle.rx_term.specs.Walks.{AllHeld}
use Rattle.rx_term.specs.declared.Term.{Term}
use Rattle.rx_text.specs.declared.input.Input.{Input}
use Rattle.rx_run.specs.Due.{Due}
use Rattle.rx_run.specs.Run.{IsFilled}
use Rattle.rx_run.specs.Streams.{is_read, returns}
use Rattle.rx_run.specs.declared.ending.RunFault.{RunFault}
use Rattle.rx_run.specs.declared.ending.RunFault.TheVariants.{Room, Deep}
use Rattle.rec_run.specs.Output.{Shown, IsDue}

-- Texts: the text of a specification, and the text of input terms, if any
pub record Texts : Type 0 where
  pub spec : List ℕ
  pub terms : Option (List ℕ)

-- IsDueFor shown n texts d: `d` is the specified output for both texts
abbrev pub IsDueFor : Shown → ℕ → Texts → Due → Type 0
IsDueFor shown n texts d = IsDue texts.spec texts.terms shown n d

-- terms_text remaining terms: the text of input terms, if any, as their reader describes it
abbrev pub terms_text : {T : Type 0} → (T → Option (List ℕ)) → Option (MutBor T)
    → Option (Option (List ℕ))
terms_text remaining None = Some None
terms_text remaining (Some reader) = option_map (λ bytes. Some bytes) (remaining reader.now)

-- both_texts spec terms: both texts, if their readers describe them
abbrev pub both_texts : Option (List ℕ) → Option (Option (List ℕ)) → Option Texts
both_texts None terms = None
both_texts (Some spec) None = None
both_texts (Some spec) (Some terms) = Some (record { spec = spec; terms = terms })

-- Leads Related now last first: `Related` holds for the first and the last target of an optional
-- reference, if there is one
abbrev pub Leads : {X F Z T : Type 0} → (T → T → Type 0) → (F → T) → X ⊎ (F ⊎ Z) → Option T → Type 0
Leads Related now (inl none) first = Unit {0}
Leads Related now (inr (inl some)) first = IfSome first (λ old. Related old (now some))
Leads Related now (inr (inr never)) first = Unit {0}

-- Stays now last first: the target of an optional reference, if there is one, is unchanged
abbrev pub Stays : {X F Z T : Type 0} → (F → T) → X ⊎ (F ⊎ Z) → Option T → Type 0
Stays now last first = Leads (λ old new. new ≡ old) now last first

-- HasRoom fault: the error is neither `Room` nor `Deep`
abbrev pub HasRoom : RunFault → Type 0
HasRoom (Room lines) = ⊥
HasRoom (Deep lines) = ⊥
HasRoom f = Unit {0}

-- NeedsAll w needed: the store is full, and each of its trees is a part of a protected one or of
-- one in `needed`; the store has these
pub record NeedsAll (w : Store) (needed : List Term) : Type 0 where
  pub exhausted : IsExhausted w needed
  pub held : AllHeld w needed

-- RoomExhausts w needed fault: `Room` implies that the store is full of protected and needed terms
abbrev pub RoomExhausts : Store → List Term → RunFault → Type 0
RoomExhausts w needed (Room lines) = NeedsAll w needed
RoomExhausts w needed f = Unit {0}

-- RoomIn old new needed fault: `Room` implies that a text filled the store before anything was
-- needed, or that the store is full of protected and needed terms
abbrev pub RoomIn : Store → Store → List Term → RunFault → Type 0
RoomIn old new needed (Room lines) = (IsFilled old new × (needed ≡ [])) ⊎ NeedsAll new needed
RoomIn old new needed f = Unit {0}

-- ReportsReadsBy old new r: the reader of input terms, if any, has failed exactly if it had before
-- or `r` is the error `Read`
abbrev pub ReportsReadsBy : {T : Type 0} → Bool → Bool → Result T RunFault → Type 0
ReportsReadsBy old new r = new ≡ (returns is_read r || old)

-- ReportsReadsOf old new terms terms' r: the reader of the specification or that of the input terms
-- has failed exactly if one had before or `r` is the error `Read`
module _ {R : Type 0} where
  abbrev pub ReportsReadsOf : {T : Type 0} → Input R → Input R → Bool → Bool → Result T RunFault
      → Type 0
  ReportsReadsOf old new terms terms' r =
      (new.refused || terms') ≡ (returns is_read r || (old.refused || terms))
