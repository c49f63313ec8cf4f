-- More symbols leave a heap's trees.
use Rattle.std.proofs.Common.{ℕ, ◌≡◌, Some, refl, ap, ◌∙◌}
use Rattle.std.specs.FinMap as map
use Rattle.rx_term.specs.Name.{Signature}
use Rattle.rx_term.specs.Steps.{Adds}
use Rattle.rx_term.specs.Heap.{Heap, Least, is_whole, IsHeap, content_by}
use Rattle.rx_term.specs.Bank.{table_of, heap_store}
use Rattle.rx_term.specs.declared.Symbol.{Symbol}
use Rattle.rx_term.proofs.HeapLemmas.{least}
use Rattle.rx_term.proofs.ContentLemmas.{table-whole, table-content}
use Rattle.rx_term.proofs.BankLemmas.{same_sign}
use Rattle.rx_names.specs.Names.{symbols_of, Interns}
use Rattle.rx_names.specs.declared.names.Names.{Names}
use Rattle.rx_names.proofs.NameLemmas.{table}

module _ (h : Heap) (len : ℕ) (old new : Names) (w : Least (is_whole h (table_of (symbols_of old)) len))
    (heap : IsHeap h (table_of (symbols_of old)) len w.0) where
  module _ (grows : (s : ℕ) (g : Signature) → map.get (symbols_of old) s ≡ Some g → map.get (symbols_of new) s ≡ Some g) where
    pub renamed-whole : Least (is_whole h (table_of (symbols_of new)) len)
    renamed-whole = least (is_whole h (table_of (symbols_of new)) len) w.0
        (table-whole h (table_of (symbols_of old)) (table_of (symbols_of new)) len w.0 heap grows (table new))

    module _ (v : Least (is_whole h (table_of (symbols_of new)) len)) where
      pub renamed-content : content_by h (table_of (symbols_of new)) len v ≡ content_by h (table_of (symbols_of old)) len w
      unfolding content_by
      renamed-content = table-content h (table_of (symbols_of old)) (table_of (symbols_of new)) len w.0 heap grows (table new) v.0 v.1.passes

      module _ (roots : ℕ → ℕ) (cap spare : ℕ) where
        renamed-store : symbols_of new ≡ symbols_of old → heap_store (symbols_of new) h len v roots cap spare ≡ heap_store (symbols_of old) h len w
            roots cap spare
        renamed-store e j = record { content = renamed-content j; symbols = e j; roots = roots; cap = cap; spare = spare }

        pub renamed-adds : (g : Signature) (s : Symbol) → Interns (symbols_of old) (symbols_of new) g s
            → Adds (heap_store (symbols_of old) h len w roots cap spare) (heap_store (symbols_of new) h len v roots cap spare) g s
        renamed-adds g s m = record {
          added = m.added;
          others = λ t ne. m.others t.0 (λ e. ne (same_sign t s e));
          there = λ held. renamed-store (m.there held);
          content = renamed-content;
          roots = refl;
          cap = refl;
          spare = refl;
        }

  -- the same symbols
  pub renamed-same : (v : Least (is_whole h (table_of (symbols_of new)) len)) (roots : ℕ → ℕ) (cap spare : ℕ) → symbols_of new ≡ symbols_of old
      → heap_store (symbols_of new) h len v roots cap spare ≡ heap_store (symbols_of old) h len w roots cap spare
  renamed-same v roots cap spare e = renamed-store (λ s g q. ap (λ n. map.get n s) e ∙ q) v roots cap spare e
