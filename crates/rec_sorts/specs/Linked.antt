-- The symbols of a specification in a term store.
use Rattle.std.specs.Prelude.{ℕ, ◌≡◌, ◌<◌, not, List, Option, Some, length, get_or}
use Rattle.rx_term.specs.Name.{Signature, plain_name}
use Rattle.rx_term.specs.Store.{Store, signature_of}
use Rattle.rx_term.specs.declared.Symbol as bank
use Rattle.rec_syntax.specs.Syntax.{Spec}
use Rattle.rec_sorts.specs.Lookup.{symbols}
use Rattle.rec_sorts.specs.Numbering.{name_of, arity_of}
use Rattle.rec_sorts.specs.declared.letters.Meaning.TheVariants.{Symbol}

-- signature y k: the signature of a symbol in a store: its name is quoted only if it is not plain
abbrev pub signature : Spec → ℕ → Signature
signature y k = record {
  name = name_of y (Symbol k);
  quoted = not (plain_name (name_of y (Symbol k)));
  arity = arity_of y k;
}

-- AreLinked y w ss: `ss` are the symbols of the specification in store `w`, by their numbers
pub record AreLinked (y : Spec) (w : Store) (ss : List bank.Symbol) : Type 0 where
  pub counted : length ss ≡ length (symbols y)
  pub linked : (k : ℕ) (d : bank.Symbol) → k < length (symbols y)
      → signature_of w (get_or ss k d) ≡ Some (signature y k)

-- NumberOf ss s o: `o` is the one index of `s` in the list; none if it is not in the list
pub record NumberOf (ss : List bank.Symbol) (s : bank.Symbol) (o : Option ℕ) : Type 0 where
  pub found : (k : ℕ) → o ≡ Some k → (k < length ss) × (get_or ss k s ≡ s)
  pub each : (k : ℕ) → k < length ss → get_or ss k s ≡ s → o ≡ Some k

-- AllDiffer ss: no symbol is in the list twice
abbrev pub AllDiffer : List bank.Symbol → Type 0
AllDiffer ss = (i j : ℕ) (d : bank.Symbol) → i < length ss → j < length ss
    → get_or ss i d ≡ get_or ss j d → i ≡ j

-- NumbersOf ss numbers: `numbers` has the index of each symbol in the list
abbrev pub NumbersOf : List bank.Symbol → (ℕ → Option ℕ) → Type 0
NumbersOf ss numbers = (s : bank.Symbol) → NumberOf ss s (numbers s.0)

-- HasMoreSymbols old new: the stores are equal, except that `new` can have more symbols
pub record HasMoreSymbols (old new : Store) : Type 0 where
  pub content : new.content ≡ old.content
  pub roots : new.roots ≡ old.roots
  pub cap : new.cap ≡ old.cap
  pub spare : new.spare ≡ old.spare
  pub symbols : (s : bank.Symbol) (g : Signature) → signature_of old s ≡ Some g
      → signature_of new s ≡ Some g
