-- The view of the work of a handle in contracts.
use Rattle.std.specs.Prelude.{◌≡◌, ℕ, Bool, true, false, ◌&&◌, nat_le, List, [], None, Result, Ok, Err}
use Rattle.rx_term.specs.declared.Term.{Term}
use Rattle.psilt_core.specs.declared.fault.Fault.{Fault}
use Rattle.psilt_core.specs.declared.fault.Fault.TheVariants.{Memory, Stale, Range, Unspecified}
use Rattle.psilt_core.specs.declared.fault.Fault.TheVariants.{Syntax, Rule, Unknown}
use Rattle.psilt_core.specs.declared.work.Work.{Work}
use Rattle.psilt_core.specs.Banks.{BankState}

-- IsFresh w: there is no specification, no symbol, pattern or binding, and the limit on names is
-- the highest
abbrev pub IsFresh : Work → Type 0
IsFresh w = (w.bank.specified ≡ None) × (w.bank.symbols ≡ []) × (w.patterns ≡ [])
    × (w.bound.items ≡ []) × (w.bank.most_names ≡ 4294967295)

-- with_terms v w: the bank of v with the terms and memoized results of w
abbrev pub with_terms : Work → Work → BankState
with_terms v w = record v.bank { shared = w.bank.shared; memo = w.bank.memo }

-- IsSameButBank v w: only terms and memoized results changed, not the specification, the numbers of
-- symbols or the limit on symbols
abbrev pub IsSameButBank : Work → Work → Type 0
IsSameButBank v w = w ≡ record v { bank = with_terms v w }

-- IsSameButLimit v w most: only the limit on symbols changed, to `most`
abbrev pub IsSameButLimit : Work → Work → ℕ → Type 0
IsSameButLimit v w most = w ≡ record v { bank = record v.bank { most_names = most } }

-- IsSameButText v w: only the text changed
abbrev pub IsSameButText : Work → Work → Type 0
IsSameButText v w = w ≡ record v { text = w.text }

-- IsSameButRead v w: only terms and the offset and rule of a rejected text changed
abbrev pub IsSameButRead : Work → Work → Type 0
IsSameButRead v w =
    w ≡ record v { bank = with_terms v w; place = w.place; rule = w.rule }

-- IsSameButSpec v w: only terms, the specification and the offset and rule of a rejected text
-- changed
abbrev pub IsSameButSpec : Work → Work → Type 0
IsSameButSpec v w = w ≡ record v {
  bank = record v.bank {
    shared = w.bank.shared;
    specified = w.bank.specified;
    memo = w.bank.memo;
  };
  place = w.place;
  rule = w.rule;
}

-- IsSameButBound v w: only terms and bindings changed
abbrev pub IsSameButBound : Work → Work → Type 0
IsSameButBound v w = w ≡ record v { bank = with_terms v w; bound = w.bound }

-- IsSameButRun v w: only terms, bindings and the offset and rule of a rejected text changed
abbrev pub IsSameButRun : Work → Work → Type 0
IsSameButRun v w = w ≡ record v {
  bank = with_terms v w;
  bound = w.bound;
  place = w.place;
  rule = w.rule;
}

-- IsSameButPatterns v w: only patterns and the offset and rule of a rejected text changed
abbrev pub IsSameButPatterns : Work → Work → Type 0
IsSameButPatterns v w = w ≡ record v { patterns = w.patterns; place = w.place; rule = w.rule }

-- IsSameRefusal v w: the offset and the rule are unchanged
abbrev pub IsSameRefusal : Work → Work → Type 0
IsSameRefusal v w = (w.place ≡ v.place) × (w.rule ≡ v.rule)

-- KeepsRefusalFor v w e: they change only if a text leaves its grammar or a rule is violated
abbrev pub KeepsRefusalFor : Work → Work → Fault → Type 0
KeepsRefusalFor v w Syntax = Unit {0}
KeepsRefusalFor v w Rule = Unit {0}
KeepsRefusalFor v w e = IsSameRefusal v w

-- KeepsRefusal v w r: the offset and the rule change only after such an error
abbrev pub KeepsRefusal : {X : Type 0} → Work → Work → Result X Fault → Type 0
KeepsRefusal v w (Ok x) = IsSameRefusal v w
KeepsRefusal v w (Err e) = KeepsRefusalFor v w e

-- IsSameButSymbols v w: only the store and the numbers of symbols changed
abbrev pub IsSameButSymbols : Work → Work → Type 0
IsSameButSymbols v w =
    w ≡ record v { bank = record v.bank { shared = w.bank.shared; symbols = w.bank.symbols } }

-- Forgets before after r: the bindings are dropped, except after `Unspecified`, `Unknown`, `Range` and
-- `Stale`
abbrev pub Forgets : {X : Type 0} → List Term → List Term → Result X Fault → Type 0
Forgets before after (Err Unspecified) = after ≡ before
Forgets before after (Err Unknown) = after ≡ before
Forgets before after (Err Stale) = after ≡ before
Forgets before after (Err Range) = after ≡ before
Forgets before after r = after ≡ []

-- is_cap cap: whether the number may be the cell limit of a store
abbrev pub is_cap : ℕ → Bool
is_cap cap = nat_le 1 cap && nat_le cap 1073741824

-- IsOpeningFault cap e: why no store with this cell limit was opened: out of memory, or the limit
-- is outside its range
abbrev pub IsOpeningFault : ℕ → Fault → Type 0
IsOpeningFault cap Memory = is_cap cap ≡ true
IsOpeningFault cap Range = is_cap cap ≡ false
IsOpeningFault cap e = ⊥
