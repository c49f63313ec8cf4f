-- A store's symbols are numbered without gaps, in the order in which they were made.
use Rattle.std.proofs.Common.{◌≡◌, ◌≢◌, ℕ, zero, suc, ◌<◌, ◌≤◌, ◌⊎◌, inl, inr, Bool, true, false, ◌&&◌, nat_lt, List, length, Option, Some, None}
use Rattle.std.proofs.Common.{IsSome, is_some, refl, sym, ap, ◌∙◌, subst, arith, slice_get}
use Rattle.std.specs.Prelude.{Result, Ok, Err, IfOk}
use Rattle.std.proofs.lemmas.Bool.Decides.{eqb_tells}
use Rattle.std.specs.Ordering.{nat_cmp}
use Rattle.std.specs.Option.{option_and_then, option_map}
use Rattle.std.specs.FinMap as map
use Rattle.std.proofs.lemmas.Option.{slice_get_cases}
use Rattle.std.specs.List.{list_all}
use Rattle.rx_term.specs.Name.{Signature, IsAllowed, is_allowed}
use Rattle.rx_term.specs.Heap.{tabulate, put_some}
use Rattle.rx_term.specs.Tree.{Tree}
use Rattle.rx_term.specs.Store.{Store, signature_of, name_at, quoted_at, arity_at}
use Rattle.rx_term.specs.Steps.{Adds, AddsOrRefuses, MakesOrRefuses, ReservesOrRefuses, ProtectsOrRefuses, Grows, with_count}
use Rattle.rx_term.specs.declared.Term.{Term}
use Rattle.rx_term.specs.declared.Symbol.{Symbol}
use Rattle.rx_term.specs.declared.faults.BankFault.{BankFault}
use Rattle.rx_term.specs.declared.faults.BankFault.TheVariants as bank
use Rattle.rx_term.specs.declared.faults.RootsFull.{RootsFull}
use Rattle.rx_term.proofs.HeapLemmas.{lt_or_le, past-tabulate}
use Rattle.rx_term.proofs.StoreLemmas.{len-insert-new, Grows-added}
use Rattle.rx_names.specs.Words.{words_of}
use Rattle.rx_names.specs.Entries.{signature_in, signature_at, is_allowed_word}
use Rattle.rx_names.specs.Names.{FindsOrLacks, Interns}
use Rattle.rx_names.specs.declared.names.Entry.{Entry}
use Rattle.rx_names.specs.declared.names.Names.{Names}
use Rattle.rx_names.proofs.NameLemmas.{symbols-at}
use Rattle.rx_shared.specs.State.{store_of}
use Rattle.rx_shared.specs.Inner.Soundness.{sound}
use Rattle.rx_shared.specs.declared.bank.SharedBank.{SharedBank}
use Rattle.psilt_core.specs.Names.{names_of, KeepsLimit, NamesOrRefuses}
use Rattle.psilt_core.specs.Inner.Known.{Symbols, SameSignatures, IsTableOf}

-- a table that has a value at each of its numbers
len_table : (n : ℕ) (f : ℕ → Option Signature) → ((t : ℕ) → t < n → IsSome (f t)) → map.len (tabulate n f) ≡ n
len_table zero f each = map.len-empty nat_cmp Signature
len_table (suc k) f each = put_len (f k) (each k (omega arith)) (len_table k f (λ t lt. each t (omega arith))) where
  put_len : (o : Option Signature) → IsSome o → map.len (tabulate k f) ≡ k → map.len (put_some (tabulate k f) k o) ≡ suc k
  put_len None some e = cc
  put_len (Some v) some e = let q = len-insert-new (tabulate k f) k v (past-tabulate k k f (omega arith)) in omega arith

-- each entry of a table of names has its word
has_word : (o : Option (List ℕ)) (e : Entry) → is_allowed_word o e.quoted ≡ true
    → IsSome (option_map (λ w. let g : Signature = record { name = w; quoted = e.quoted; arity = e.arity } in g) o)
has_word (Some w) e h = refl
has_word None e h = cc

at_entry : (n : Names) (i : ℕ) → i < length n.entries.keys → IsSome (signature_at (words_of n.words) n.entries.keys i)
at_entry n i lt = elim (slice_get_cases n.entries.keys i).1 [
  | inl x ↦ (
      let e = x.0 in
      subst (λ o. IsSome (option_and_then (signature_in (words_of n.words)) o)) (sym x.2)
      (has_word (slice_get (words_of n.words) e.word) e (n.allowed i e x.2))
      )
  | inr p ↦ absurd (omega (arith, p.0, lt))
]

names_are : (b : SharedBank) → names_of (store_of b) ≡ length b.names.entries.keys
names_are b = len_table (length b.names.entries.keys) (signature_at (words_of b.names.words) b.names.entries.keys) (at_entry b.names)

-- the symbols that are there are those of the numbers below their count
pub there_below : (b : SharedBank) (s : ℕ) → s < names_of (store_of b) → IsSome (map.get (store_of b).symbols s)
there_below b s lt = let e = names_are b in
    subst IsSome (sym (symbols-at (words_of b.names.words) b.names.entries.keys s)) (at_entry b.names s (omega (arith, e, lt)))

pub only_below : (b : SharedBank) (s : ℕ) → IsSome (map.get (store_of b).symbols s) → s < names_of (store_of b)
only_below b s h = let e = names_are b in elim (slice_get_cases b.names.entries.keys s).1 [
  | inl x ↦ omega (arith, e, x.1)
  | inr p ↦ (
      let none : signature_at (words_of b.names.words) b.names.entries.keys s ≡ None = ap (option_and_then (signature_in (words_of b.names.words))) p.1 in
      let some = subst IsSome (symbols-at (words_of b.names.words) b.names.entries.keys s ∙ none) h in cc
      )
]

-- a symbol that was there before, and one that was not
module _ (old new : SharedBank) (g : Signature) (s : Symbol) (a : Adds (store_of old) (store_of new) g s) where
  pub known_before : s.0 < names_of (store_of old) → store_of new ≡ store_of old
  known_before lt = a.there (there_below old s.0 lt)

  -- another number below the new count is below the old one
  others_before : (t : ℕ) → (t ≡ s.0 → ⊥) → t < names_of (store_of new) → t < names_of (store_of old)
  others_before t ne lt = only_below old t (subst IsSome (a.others (record { 0 = t }) (λ e. ne (ap (λ (x : Symbol). x.0) e))) (there_below new t lt))

  pub one_more_name : names_of (store_of old) ≤ s.0 → names_of (store_of new) ≡ suc (names_of (store_of old))
  one_more_name le = let n = names_of (store_of old) in let here = only_below new s.0 (ap is_some a.added) in
      elim (lt_or_le (suc n) (names_of (store_of new))) [
        | inr most ↦ omega (arith, here, le, most)
        | inl more ↦ elim (lt_or_le n s.0) [
          | inl lt ↦ absurd (omega (arith, others_before n (λ e. omega (arith, e, lt)) (omega (arith, more))))
          | inr same ↦ absurd (omega (arith, others_before (suc n) (λ e. omega (arith, e, same)) more))
        ]
      ]

  -- a symbol that did not lack was there
  pub not_lacking : (((t : ℕ) → map.get (store_of old).symbols t ≢ Some g) → ⊥) → store_of new ≡ store_of old
  not_lacking has = elim (lt_or_le s.0 (names_of (store_of old))) [
    | inl lt ↦ known_before lt
    | inr le ↦ absurd (has (λ t e.
        let lt = only_below old t (ap is_some e) in
        let other : record { 0 = t } ≢ s = λ same. omega (arith, lt, le, ap (λ (x : Symbol). x.0) same) in
        other ((sound new).symbols_one_to_one (record { 0 = t }) s g (a.others (record { 0 = t }) other ∙ e) a.added)))
  ]

pub found_symbols : (old new : SharedBank) (g : Signature) (r : Result Symbol BankFault) → AddsOrRefuses (store_of old) (store_of new) g r
    → (((t : ℕ) → map.get (store_of old).symbols t ≢ Some g) → ⊥) → (store_of new).symbols ≡ (store_of old).symbols
found_symbols old new g (Ok s) a has = ap (λ (w : Store). w.symbols) (not_lacking old new g s a has)
found_symbols old new g (Err e) a has = ap (λ (w : Store). w.symbols) a.0

-- what is counted, and what is known, of a store whose symbols stay
pub still_counted : (names : ℕ) (old new : Store) → new.symbols ≡ old.symbols → names ≡ names_of old → names ≡ names_of new
still_counted names old new e h = h ∙ sym (ap map.len e)

pub still_same : (known : Option Names) (old new : Store) → new.symbols ≡ old.symbols → IsTableOf known old.symbols → IsTableOf known new.symbols
still_same known old new e h = subst (IsTableOf known) (sym e) h

-- calls that leave the symbols
pub made_symbols : (old new : Store) (tree : Option Tree) (r : Result Term BankFault) → MakesOrRefuses old new tree r → new.symbols ≡ old.symbols
made_symbols old new tree (Ok t) m = m.beside.symbols
made_symbols old new tree (Err e) m = m.beside.symbols

pub reserved_symbols : (old new : Store) (k : ℕ) (r : Result (Unit {0}) BankFault) → ReservesOrRefuses old new k r → new.symbols ≡ old.symbols
reserved_symbols old new k (Ok u) m = m.beside.symbols
reserved_symbols old new k (Err e) m = m.beside.symbols

pub counted_symbols : (old new : Store) (t : Term) (n : ℕ) → new ≡ with_count old t n → new.symbols ≡ old.symbols
counted_symbols old new t n e = ap (λ (w : Store). w.symbols) e

pub protected_symbols : (old new : Store) (t : Term) (r : Result (Unit {0}) RootsFull) → ProtectsOrRefuses old new t r → new.symbols ≡ old.symbols
protected_symbols old new t (Ok u) m = counted_symbols old new t _ m.1
protected_symbols old new t (Err e) m = ap (λ (w : Store). w.symbols) m.1

-- a store that gets a name, or is refused one, grows
pub grows_named : (most : ℕ) (old new : Store) (g : Signature) (r : Result Symbol BankFault) → NamesOrRefuses most old new g r → Grows old new
grows_named most old new g (Ok s) m = Grows-added old new g (Ok s) m.0
grows_named most old new g (Err bank.Memory) m = Grows-added old new g (Err bank.Memory) (m, refl)
grows_named most old new g (Err bank.Full) m = Grows-added old new g (Err bank.Memory) (m.1, refl)

-- a signature of three parts
pub signature_is : (w : Store) (s : Symbol) (name : List ℕ) (quoted : Bool) (arity : ℕ) → name_at w s ≡ Some name → quoted_at w s ≡ Some quoted
    → arity_at w s ≡ Some arity → signature_of w s ≡ Some (record { name = name; quoted = quoted; arity = arity })
signature_is w s name quoted arity n q a = by_value (signature_of w s) refl n q a where
  by_value : (o : Option Signature) → signature_of w s ≡ o → option_and_then (λ (g : Signature). Some g.name) o ≡ Some name
      → option_and_then (λ (g : Signature). Some g.quoted) o ≡ Some quoted → option_and_then (λ (g : Signature). Some g.arity) o ≡ Some arity
      → signature_of w s ≡ Some (record { name = name; quoted = quoted; arity = arity })
  by_value None e n q a = cc
  by_value (Some g) e n q a = let x : g.name ≡ name = cc in let y : g.quoted ≡ quoted = cc in let z : g.arity ≡ arity = cc in
      e ∙ (λ i. Some (record { name = x i; quoted = y i; arity = z i }))

-- the limit is kept where the symbols stay
pub keeps_still : {A E : Type 0} (most : ℕ) (old mid new : Store) (r : Result A E) → new.symbols ≡ mid.symbols → KeepsLimit most old mid
    → IfOk r (λ a. KeepsLimit most old new)
keeps_still most old mid new (Ok a) e k = subst (λ (m : map.FinMap nat_cmp Signature). names_of old < map.len m → map.len m ≤ most) (sym e) k
keeps_still most old mid new (Err f) e k = tt

-- what is taken in stays, and nothing else is new
module _ (old new : map.FinMap nat_cmp Signature) (g : Signature) (s : Symbol) (a : Interns old new g s) where
  same_or_not : (t : ℕ) → (t ≡ s.0) ⊎ (t ≢ s.0)
  same_or_not t = elim (eqb_tells t s.0) [ inl p ↦ inl p.1 | inr p ↦ inr p.1 ]

  pub interned_kept : (t : ℕ) (v : Signature) → map.get old t ≡ Some v → map.get new t ≡ Some v
  interned_kept t v e = elim (same_or_not t) [
    | inl same ↦ ap (λ m. map.get m t) (a.there (subst (λ k. IsSome (map.get old k)) same (ap is_some e))) ∙ e
    | inr other ↦ a.others t other ∙ e
  ]

  pub interned_only : (t : ℕ) (v : Signature) → map.get new t ≡ Some v → (v ≡ g) ⊎ (map.get old t ≡ Some v)
  interned_only t v e = elim (same_or_not t) [
    | inl same ↦ (let both : Some v ≡ Some g = sym e ∙ ap (map.get new) same ∙ a.added in let is : v ≡ g = cc in inl is)
    | inr other ↦ inr (sym (a.others t other) ∙ e)
  ]

-- a table of the first symbols of a store
pub record IsTableTo (n : ℕ) (table m : Symbols) : Type 0 where
  pub covers : (s : ℕ) (g : Signature) → s < n → map.get m s ≡ Some g → (t : ℕ) × (map.get table t ≡ Some g)
  pub only : (t : ℕ) (g : Signature) → map.get table t ≡ Some g → (s : ℕ) × (map.get m s ≡ Some g)

pub no_table : (table m : Symbols) → table ≡ map.empty → IsTableTo 0 table m
no_table table m e = record {
  covers = λ s g lt at. absurd (omega (arith, lt));
  only = λ t g at.
      let none : map.get {X = Signature} (map.empty {R = nat_cmp}) t ≡ None = map.get-empty nat_cmp t in
      let both : None ≡ Some g = sym none ∙ subst (λ (x : Symbols). map.get x t ≡ Some g) e at in let wrong : ⊥ = cc in absurd wrong;
}

pub next_table : (n : ℕ) (old new m : Symbols) (g : Signature) (s : Symbol) → map.get m n ≡ Some g → Interns old new g s → IsTableTo n old m
    → IsTableTo (suc n) new m
next_table n old new m g s here a h = record {
  covers = λ k v lt at. elim (lt_or_le k n) [
    | inl before ↦ (let x = h.covers k v before at in (x.0, interned_kept old new g s a x.0 v x.1))
    | inr now ↦ (
        let same : k ≡ n = omega (arith, lt, now) in
        let both : Some v ≡ Some g = sym at ∙ ap (map.get m) same ∙ here in let is : v ≡ g = cc in (s.0, a.added ∙ ap (λ x. Some x) (sym is))
        )
  ];
  only = λ t v at. elim (interned_only old new g s a t v at) [
    | inl is ↦ (n, here ∙ ap (λ x. Some x) (sym is))
    | inr was ↦ h.only t v was
  ];
}

pub whole_table : (b : SharedBank) (table : Symbols) → IsTableTo (names_of (store_of b)) table (store_of b).symbols
    → SameSignatures table (store_of b).symbols
whole_table b table h = (
  λ g lacks s e. let x = h.covers s g (only_below b s (ap is_some e)) e in lacks x.0 x.1,
  λ g lacks t e.
      let x = h.only t g e in lacks x.0 x.1,
)

-- what a second table finds
pub lacks_by : (table m : Symbols) (g : Signature) (r : Option Symbol) → SameSignatures table m → FindsOrLacks table g r → is_some r ≡ false → (s : ℕ)
    → map.get m s ≢ Some g
lacks_by table m g None same f e = same.0 g (λ s. f (record { 0 = s }))
lacks_by table m g (Some s) same f e = cc

pub has_by : (table m : Symbols) (g : Signature) (r : Option Symbol) → SameSignatures table m → FindsOrLacks table g r → is_some r ≡ true
    → ((s : ℕ) → map.get m s ≢ Some g) → ⊥
has_by table m g None same f e = cc
has_by table m g (Some s) same f e = λ lacks. same.1 g lacks s.0 f

both-second : (a b : Bool) → (a && b) ≡ true → b ≡ true
both-second true b h = h
both-second false b h = cc

-- a symbol's name may be one
pub allowed_name : (b : SharedBank) (s : Symbol) (g : Signature) → signature_of (store_of b) s ≡ Some g → IsAllowed g.name g.quoted
allowed_name b s g e = both-second (list_all (λ n. nat_lt n 256) g.name) (is_allowed g.name g.quoted) ((sound b).valid_names s g e)

-- a limit that is kept, seen of other stores and limits that are the same
pub limit_told : {A E : Type 0} (r : Result A E) (before most most' : ℕ) (old new w : Store) → before ≡ names_of old → most ≡ most' → w ≡ new
    → IfOk r (λ a. before < names_of w → names_of w ≤ most) → IfOk r (λ a. KeepsLimit most' old new)
limit_told (Ok a) before most most' old new w e f g h = λ lt. let n = ap names_of g in let k = h (omega (arith, e, lt, n)) in omega (arith, k, n, f)
limit_told (Err x) before most most' old new w e f g h = tt
