-- The numbers of the symbols that C knows.
use Rattle.std.proofs.Common.{◌≡◌, ◌≢◌, ℕ, zero, suc, Bool, true, false, List, [], ◌∷◌, ◌++◌, length, Option, Some, None, refl, sym, ap, ◌∙◌, subst, slice_get, eq-eqb}
use Rattle.std.specs.Prelude.{Result, Ok, Err, IsSome, IfOk, IfErr, OnErr, T, nat_eq, option_map, if◌then◌else◌}
use Rattle.std.proofs.Math.Facts.{eqb_yes}
use Rattle.std.specs.List.{IsDistinct, AllByRecursion}
use Rattle.std.specs.Option.{option_and_then}
use Rattle.std.specs.FinMap as map
use Rattle.rx_term.specs.Name.{Signature}
use Rattle.rx_term.specs.Store.{Store, signature_of, tree_at}
use Rattle.rx_term.specs.Steps.{Adds, Grows, IsSound}
use Rattle.rx_term.specs.declared.Term.{Term}
use Rattle.rx_term.specs.declared.Symbol.{Symbol}
use Rattle.rx_term.specs.declared.faults.BankFault.{BankFault}
use Rattle.rx_term.specs.declared.faults.BankFault.TheVariants as bank
use Rattle.rx_term.proofs.StoreLemmas.{kept-Adds}
use Rattle.rec_sorts.specs.Linked.{HasMoreSymbols}
use Rattle.psilt_core.specs.Banks.{BankState, AreSymbols, signature_at, store_of}
use Rattle.psilt_core.specs.Answers.{Has, IsApplication, Applies}
use Rattle.psilt_core.specs.Names.{KeepsLimit, IsNameFault, NamesOrRefuses}
use Rattle.psilt_core.specs.Codes.{made_of}
use Rattle.psilt_core.specs.Evaluating.{IsRoomFault}
use Rattle.psilt_core.specs.Symbols.{AppliesSymbol, IsNumberOf, KeepsNumbers, RefusesNumber}

all_at : (P : ℕ → Type 0) (ns : List ℕ) (i n : ℕ) → AllByRecursion P ns → slice_get ns i ≡ Some n → P n
all_at P [] i n all e = cc
all_at P (m ∷ ns) zero n all e = let same : m ≡ n = cc in subst P same all.0
all_at P (m ∷ ns) (suc i) n all e = all_at P ns i n all.1 e

-- in a list in which no two are equal, each stands at one place
pub one_place : (eq : ℕ → ℕ → Bool) → ((n : ℕ) → eq n n ≡ true) → (ns : List ℕ) → IsDistinct eq ns → (i j n : ℕ) → slice_get ns i ≡ Some n
    → slice_get ns j ≡ Some n → i ≡ j
unfolding IsDistinct
one_place eq is [] d i j n a b = cc
one_place eq is (m ∷ ns) d zero zero n a b = refl
one_place eq is (m ∷ ns) d zero (suc j) n a b = let same : m ≡ n = cc in let f : eq m n ≡ false = all_at (λ y. eq m y ≡ false) ns j n d.0 b in
    let t : eq m n ≡ true = ap (λ k. eq k n) same ∙ is n in cc
one_place eq is (m ∷ ns) d (suc i) zero n a b = let same : m ≡ n = cc in let f : eq m n ≡ false = all_at (λ y. eq m y ≡ false) ns i n d.0 a in
    let t : eq m n ≡ true = ap (λ k. eq k n) same ∙ is n in cc
one_place eq is (m ∷ ns) d (suc i) (suc j) n a b = ap suc (one_place eq is ns d.1 i j n a b)

-- what stands in a list with one more behind
at_push : (P : ℕ → Type 0) (ns : List ℕ) (s i n : ℕ) → ((j m : ℕ) → slice_get ns j ≡ Some m → P m) → P s → slice_get (ns ++ s ∷ []) i ≡ Some n → P n
at_push P [] s zero n h p e = let same : s ≡ n = cc in subst P same p
at_push P [] s (suc i) n h p e = cc
at_push P (k ∷ ns) s zero n h p e = h zero n e
at_push P (k ∷ ns) s (suc i) n h p e = at_push P ns s i n (λ j m. h (suc j) m) p e

push_kept : (ns : List ℕ) (s i n : ℕ) → slice_get ns i ≡ Some n → slice_get (ns ++ s ∷ []) i ≡ Some n
push_kept [] s i n e = cc
push_kept (k ∷ ns) s zero n e = e
push_kept (k ∷ ns) s (suc i) n e = push_kept ns s i n e

-- a symbol's number is put behind the others, or is there
pub added_symbols : (w : Store) (found : Bool) (ns ms : List ℕ) (s : ℕ) → ms ≡ (if found then ns else ns ++ s ∷ []) → AreSymbols w ns
    → IsSome (map.get w.symbols s) → AreSymbols w ms
added_symbols w true ns ms s e h here = subst (AreSymbols w) (sym e) h
added_symbols w false ns ms s e h here = subst (AreSymbols w) (sym e) (λ i n. at_push (λ m. IsSome (map.get w.symbols m)) ns s i n h here)

pub added_keeps : (found : Bool) (ns ms : List ℕ) (s : ℕ) → ms ≡ (if found then ns else ns ++ s ∷ []) → (i n : ℕ) → slice_get ns i ≡ Some n
    → slice_get ms i ≡ Some n
added_keeps true ns ms s e i n at = subst (λ xs. slice_get xs i ≡ Some n) (sym e) at
added_keeps false ns ms s e i n at = subst (λ xs. slice_get xs i ≡ Some n) (sym e) (push_kept ns s i n at)

-- the same of what an insertion does, whether it was refused or not
pub added : {A E : Type 0} (r : Result A E) (found : Bool) (ns ms : List ℕ) (s : ℕ) → IfOk r (λ _. ms ≡ (if found then ns else ns ++ s ∷ []))
    → OnErr r (ms ≡ ns) → (b : Bool) × (ms ≡ (if b then ns else ns ++ s ∷ []))
added (Ok a) found ns ms s e f = (found, e)
added (Err a) found ns ms s e f = (true, f)

pub same_number : (s k : ℕ) → nat_eq s k ≡ true → s ≡ k
same_number s k h = eqb_yes (subst T (sym h) tt)

pub equal_number : (n : ℕ) → nat_eq n n ≡ true
equal_number n = eq-eqb n n refl

-- a place of the one number of a symbol is its number for C
pub number_is : (b : BankState) (g : Signature) (n s : ℕ) → IsSound (store_of b)
    → ((i j m : ℕ) → slice_get b.symbols i ≡ Some m → slice_get b.symbols j ≡ Some m → i ≡ j)
    → slice_get b.symbols n ≡ Some s → map.get (store_of b).symbols s ≡ Some g → IsNumberOf b g n
number_is b g n s sound apart at here = (
  ap (option_and_then (λ m. map.get (store_of b).symbols m)) at ∙ here,
  λ k h.
      by_place k (slice_get b.symbols k) refl h,
) where
  by_place : (k : ℕ) (o : Option ℕ) → slice_get b.symbols k ≡ o → option_and_then (λ m. map.get (store_of b).symbols m) o ≡ Some g → k ≡ n
  by_place k None e h = cc
  by_place k (Some m) e h = let same : m ≡ s = ap (λ (y : Symbol). y.0) (sound.symbols_one_to_one (record { 0 = m }) (record { 0 = s }) g h here) in
      apart k n s (e ∙ ap (λ x. Some x) same) at

-- numbers stay where places and symbols do
pub keeps_numbers : (old new : BankState) → ((i n : ℕ) → slice_get old.symbols i ≡ Some n → slice_get new.symbols i ≡ Some n)
    → ((s : Symbol) (g : Signature) → signature_of (store_of old) s ≡ Some g → signature_of (store_of new) s ≡ Some g) → KeepsNumbers old new
keeps_numbers old new places stays k g h = by_place (slice_get old.symbols k) refl h where
  by_place : (o : Option ℕ) → slice_get old.symbols k ≡ o → option_and_then (λ m. map.get (store_of old).symbols m) o ≡ Some g → signature_at new k ≡ Some g
  by_place None e q = cc
  by_place (Some m) e q = ap (option_and_then (λ x. map.get (store_of new).symbols x)) (places k m e) ∙ stays (record { 0 = m }) g q

-- a symbol more, or none
adds_more : (old new : Store) (g : Signature) (s : Symbol) → Adds old new g s → HasMoreSymbols old new
adds_more old new g s a = record { content = a.content; roots = a.roots; cap = a.cap; spare = a.spare; symbols = kept-Adds a }

same_symbols : (old new : Store) → new ≡ old → HasMoreSymbols old new
same_symbols old new e = subst (HasMoreSymbols old) (sym e) (record { content = refl; roots = refl; cap = refl; spare = refl; symbols = λ s g e'. e' })

pub more_symbols : (most : ℕ) (old new : Store) (g : Signature) (r : Result Symbol BankFault) → NamesOrRefuses most old new g r → HasMoreSymbols old new
more_symbols most old new g (Ok s) a = adds_more old new g s a.0
more_symbols most old new g (Err bank.Memory) a = same_symbols old new a
more_symbols most old new g (Err bank.Full) a = same_symbols old new a.1

-- what the symbol of a number stands for
pub symbol_at_is : (b : BankState) (n : ℕ) (s : Symbol) → Some s ≡ option_map (λ m. record { 0 = m }) (slice_get b.symbols n)
    → signature_at b n ≡ signature_of (store_of b) s
symbol_at_is b n s e = by_place (slice_get b.symbols n) e where
  by_place : (o : Option ℕ) → Some s ≡ option_map (λ m. record { 0 = m }) o
      → option_and_then (λ m. map.get (store_of b).symbols m) o ≡ signature_of (store_of b) s
  by_place None q = cc
  by_place (Some m) q = let same : s ≡ record { 0 = m } = cc in ap (λ (y : Symbol). map.get (store_of b).symbols y.0) (sym same)

-- it takes another number of arguments than were given
pub other_arity : (o : Option Signature) (given a : ℕ) → IsSome o → option_and_then (λ g. Some g.arity) o ≡ Some a → (a ≡ given → ⊥)
    → Has o (λ g. given ≢ g.arity)
other_arity (Some g) given a h e ne = let same : g.arity ≡ a = cc in (g, refl, λ q. ne (sym same ∙ sym q))
other_arity None given a h e ne = cc

pub as_many : (o : Option Signature) (given a : ℕ) → option_and_then (λ g. Some g.arity) o ≡ Some a → a ≡ given → (g : Signature) → o ≡ Some g → g.arity ≡ given
as_many o given a e n g h = let both : Some g.arity ≡ Some a = sym (ap (option_and_then (λ (x : Signature). Some x.arity)) h) ∙ e in
    let same : g.arity ≡ a = cc in same ∙ n

-- what is told of its application
pub applies_symbol : (o : Option Signature) (old new : Store) (args : List ℕ) (r : Result Term BankFault) → IsSome o → Grows old new
    → IfOk r (λ t. (g : Signature) → o ≡ Some g → IsApplication old g.name g.quoted args (tree_at new t)) → IfErr r (IsRoomFault new)
    → AppliesSymbol o old new args (made_of r)
applies_symbol (Some g) old new args (Ok t) h grows is full = ((g, refl, is g refl), grows)
applies_symbol None old new args (Ok t) h grows is full = cc
applies_symbol o old new args (Err bank.Memory) h grows is full = grows
applies_symbol o old new args (Err bank.Full) h grows is full = (full, grows)

-- what is told of the application of a name
pub applies_name : (most : ℕ) (old new : Store) (name : List ℕ) (quoted : Bool) (args : List ℕ) (r : Result Term BankFault) → Grows old new
    → IfOk r (λ t. IsApplication old name quoted args (tree_at new t)) → IfOk r (λ t. KeepsLimit most old new)
    → IfErr r (IsNameFault most old new (record { name = name; quoted = quoted; arity = length args })) → Applies most old new name quoted args (made_of r)
applies_name most old new name quoted args (Ok t) grows is limit full = (is, grows, limit)
applies_name most old new name quoted args (Err bank.Memory) grows is limit full = grows
applies_name most old new name quoted args (Err bank.Full) grows is limit full = (full, grows)

-- why a symbol has no number
pub refuses_number : (old new : BankState) (g : Signature) (fault : BankFault) → new.symbols ≡ old.symbols
    → NamesOrRefuses old.most_names (store_of old) (store_of new) g (Err fault) → RefusesNumber old new g fault
refuses_number old new g bank.Memory e h = e
refuses_number old new g bank.Full e h = (h.0, h.1, e)
