-- The table of symbols that is made at the limit.
use Rattle.std.specs.Prelude.{◌≡◌, ◌≢◌, ℕ, Option, Some, None, IfSome}
use Rattle.std.specs.Ordering.{nat_cmp}
use Rattle.std.specs.FinMap as map
use Rattle.rx_term.specs.Name.{Signature}
use Rattle.rx_names.specs.Names.{symbols_of}
use Rattle.rx_names.specs.declared.names.Names.{Names}

-- Symbols: signatures by number
abbrev pub Symbols : Type 0
Symbols = map.FinMap nat_cmp Signature

-- LacksToo a b: each signature that the first table lacks, the second one lacks too
abbrev pub LacksToo : Symbols → Symbols → Type 0
LacksToo a b = (g : Signature) → ((s : ℕ) → map.get a s ≢ Some g) → (s : ℕ) → map.get b s ≢ Some g

-- SameSignatures a b: the two tables have the same signatures
abbrev pub SameSignatures : Symbols → Symbols → Type 0
SameSignatures a b = LacksToo a b × LacksToo b a

-- IsTableOf known m: the table, if there is one, has the signatures of these symbols
abbrev pub IsTableOf : Option Names → Symbols → Type 0
IsTableOf known m = IfSome known (λ n. SameSignatures (symbols_of n) m)

-- lacks-prop: two proofs of LacksToo are equal
lacks-prop : (a b : Symbols) (x y : LacksToo a b) → x ≡ y
lacks-prop a b x y =
    λ i g h s e. let p : x g h s e ≡ y g h s e = absurd (x g h s e) in p i

-- known-prop: two proofs of IsTableOf are equal
pub known-prop : (known : Option Names) (m : Symbols) (x y : IsTableOf known m) → x ≡ y
known-prop (Some n) m x y =
    λ i. (lacks-prop (symbols_of n) m x.0 y.0 i, lacks-prop m (symbols_of n) x.1 y.1 i)
known-prop None m x y = λ i. tt
