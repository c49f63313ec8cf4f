-- What the calls of a bank leave of what is prepared for it.
use Rattle.std.proofs.Common.{◌≡◌, ◌≤◌, ℕ, List, refl, is_some, sym, ap, ◌∙◌, subst, arith}
use Rattle.std.specs.Prelude.{Option, Some, None, Result, Ok, Err, IsSome, IfSome}
use Rattle.std.specs.FinMap as map
use Rattle.rx_term.specs.Name.{Signature}
use Rattle.rx_term.specs.Tree.{Tree}
use Rattle.rx_term.specs.Store.{Store, signature_of}
use Rattle.rx_term.specs.Steps.{Grows, MakesOrRefuses, ReservesOrRefuses, ProtectsOrRefuses, SameBesideContent, with_count}
use Rattle.rx_term.proofs.StoreLemmas.{Grows-made}
use Rattle.rx_term.specs.declared.Term.{Term}
use Rattle.rx_term.specs.declared.Symbol.{Symbol}
use Rattle.rx_term.specs.declared.faults.BankFault.{BankFault}
use Rattle.rx_term.specs.declared.faults.RootsFull.{RootsFull}
use Rattle.rec_sorts.specs.Linked.{HasMoreSymbols}
use Rattle.rec_engine.specs.Prepared.{FitsIn}
use Rattle.rec_engine.specs.declared.engine.prepared.Prepared.{Prepared}
use Rattle.rec_engine.proofs.BankLemmas.{fits-grown, fits-counted}
use Rattle.psilt_core.specs.Banks.{AreSymbols, BankState, IsSameButTerms}
use Rattle.psilt_core.specs.Names.{NamesOrRefuses}
use Rattle.psilt_core.proofs.NameLemmas.{grows_named}

-- what is prepared for a bank fits in it, and it has the symbols that C knows
abbrev pub IsWhole : Store → Option Prepared → List ℕ → Type 0
IsWhole w o symbols = IfSome o (FitsIn w) × AreSymbols w symbols

some-then : {X : Type 0} (a b : Option X) → ((x : X) → a ≡ Some x → b ≡ Some x) → IsSome a → IsSome b
some-then (Some x) b f h = ap is_some (f x refl)
some-then None b f h = cc

-- symbols that stay
pub same_symbols : (old new : Store) (symbols : List ℕ) → new.symbols ≡ old.symbols → AreSymbols old symbols → AreSymbols new symbols
same_symbols old new symbols e h n s at = subst (λ m. IsSome (map.get m s)) (sym e) (h n s at)

pub grown_symbols : (old new : Store) (symbols : List ℕ) → ((s : Symbol) (g : Signature) → signature_of old s ≡ Some g → signature_of new s ≡ Some g)
    → AreSymbols old symbols → AreSymbols new symbols
grown_symbols old new symbols f h n s at = some-then (map.get old.symbols s) (map.get new.symbols s) (λ g e. f (record { 0 = s }) g e) (h n s at)

-- in a bank that grows
fits_still : (old new : Store) (o : Option Prepared) → Grows old new → IfSome o (FitsIn old) → IfSome o (FitsIn new)
fits_still old new (Some p) g h = fits-grown old new p g h
fits_still old new None g h = tt

pub still_fits : (old new : Store) (o : Option Prepared) (symbols : List ℕ) → Grows old new → IsWhole old o symbols → IsWhole new o symbols
still_fits old new o symbols g h = (fits_still old new o g h.0, grown_symbols old new symbols g.symbols h.1)

pub fits_made : (old new : Store) (o : Option Prepared) (symbols : List ℕ) (tree : Option Tree) (x : Result Term BankFault)
    → MakesOrRefuses old new tree x → IsWhole old o symbols → IsWhole new o symbols
fits_made old new o symbols tree x m = still_fits old new o symbols (Grows-made old new tree x m)

pub fits_named : (most : ℕ) (old new : Store) (o : Option Prepared) (symbols : List ℕ) (g : Signature) (x : Result Symbol BankFault)
    → NamesOrRefuses most old new g x → IsWhole old o symbols → IsWhole new o symbols
fits_named most old new o symbols g x m = still_fits old new o symbols (grows_named most old new g x m)

-- a bank of the same trees and with more room
same-grows : (old new : Store) → new.content ≡ old.content → SameBesideContent old new → old.spare ≤ new.spare → Grows old new
same-grows old new content beside room = record {
  trees = λ t u h. ap (λ m. map.get m t.0) content ∙ h;
  symbols = λ s g h. ap (λ m. map.get m s.0) beside.symbols ∙ h;
  roots = beside.roots;
  cap = beside.cap;
  room = let e = ap map.len content in omega arith;
}

grows_reserved : (old new : Store) (k : ℕ) (x : Result (Unit {0}) BankFault) → ReservesOrRefuses old new k x → Grows old new
grows_reserved old new k (Ok u) m = same-grows old new m.content m.beside m.room
grows_reserved old new k (Err e) m = same-grows old new m.content m.beside m.room

pub fits_reserved : (old new : Store) (o : Option Prepared) (symbols : List ℕ) (k : ℕ) (x : Result (Unit {0}) BankFault)
    → ReservesOrRefuses old new k x → IsWhole old o symbols → IsWhole new o symbols
fits_reserved old new o symbols k x m = still_fits old new o symbols (grows_reserved old new k x m)

-- where a root is counted otherwise
fits_with : (old new : Store) (o : Option Prepared) (t : Term) (n : ℕ) → new ≡ with_count old t n → IfSome o (FitsIn old) → IfSome o (FitsIn new)
fits_with old new (Some p) t n e h = fits-counted old new p t n e h
fits_with old new None t n e h = tt

pub fits_counted : (old new : Store) (o : Option Prepared) (symbols : List ℕ) (t : Term) (n : ℕ) → new ≡ with_count old t n → IsWhole old o symbols
    → IsWhole new o symbols
fits_counted old new o symbols t n e h = (fits_with old new o t n e h.0, same_symbols old new symbols (ap (λ (w : Store). w.symbols) e) h.1)

pub fits_protected : (old new : Store) (o : Option Prepared) (symbols : List ℕ) (t : Term) (x : Result (Unit {0}) RootsFull)
    → ProtectsOrRefuses old new t x → IsWhole old o symbols → IsWhole new o symbols
fits_protected old new o symbols t (Ok u) m h = fits_counted old new o symbols t _ m.1 h
fits_protected old new o symbols t (Err e) m h = subst (λ w. IsWhole w o symbols) (sym m.1) h

-- in a bank with more symbols
pub grows_linked : (old new : Store) → HasMoreSymbols old new → Grows old new
grows_linked old new m = record {
  trees = λ t u h. ap (λ n. map.get n t.0) m.content ∙ h;
  symbols = m.symbols;
  roots = m.roots;
  cap = m.cap;
  room = let e = ap map.len m.content in let f = m.spare in omega arith;
}

-- changes of terms alone, one after the other
pub same_trans : (a b c : BankState) → IsSameButTerms a b → IsSameButTerms b c → IsSameButTerms a c
same_trans a b c e f = f ∙ ap (λ (x : BankState). record x { shared = c.shared; memo = c.memo }) e

pub fits_more : (old new : Store) (o : Option Prepared) (symbols : List ℕ) → HasMoreSymbols old new → IsWhole old o symbols → IsWhole new o symbols
fits_more old new o symbols m h = still_fits old new o symbols (grows_linked old new m) h
