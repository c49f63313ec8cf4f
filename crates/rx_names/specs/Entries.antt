-- The signatures of the entries of a symbol table.
use Rattle.std.specs.Prelude.{ℕ, ◌≡◌, Bool, true, false, List, length, Option, Some, None}
use Rattle.std.specs.Prelude.{slice_get}
use Rattle.std.specs.Option.{option_and_then, option_map}
use Rattle.std.specs.Ordering.{nat_cmp}
use Rattle.std.specs.FinMap as map
use Rattle.rx_term.specs.Name.{Signature, is_allowed}
use Rattle.rx_term.specs.Heap.{tabulate}
use Rattle.rx_names.specs.declared.names.Entry.{Entry}

-- signature_in words e: the word of an entry, with its flag and its number of arguments
abbrev pub signature_in : List (List ℕ) → Entry → Option Signature
signature_in words e = option_map (λ w. record { name = w; quoted = e.quoted; arity = e.arity })
    (slice_get words e.word)

-- signature_at words entries s: the signature of the symbol with this number
abbrev pub signature_at : List (List ℕ) → List Entry → ℕ → Option Signature
signature_at words entries s = option_and_then (signature_in words) (slice_get entries s)

-- symbols_from words entries: the signatures of all symbols, by their numbers
abbrev pub symbols_from : List (List ℕ) → List Entry → map.FinMap nat_cmp Signature
symbols_from words entries = tabulate (length entries) (signature_at words entries)

-- is_allowed_word w quoted: the word exists, and may be a name with this flag
abbrev pub is_allowed_word : Option (List ℕ) → Bool → Bool
is_allowed_word None quoted = false
is_allowed_word (Some w) quoted = is_allowed w quoted

-- AllAllowed words entries: this holds for each entry
abbrev pub AllAllowed : List (List ℕ) → List Entry → Type 0
AllAllowed words entries = (i : ℕ) (e : Entry) → slice_get entries i ≡ Some e
    → is_allowed_word (slice_get words e.word) e.quoted ≡ true
