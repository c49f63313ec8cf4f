use Rattle.std.proofs.Common.{ℕ, ◌≡◌, ◌≤◌, [], arith, refl, sym, ap, ◌∙◌, subst, None}
use Rattle.std.specs.FinMap as map
use Rattle.rx_term.specs.Heap.{IsDistinct}
use Rattle.rx_names.specs.Names.{symbols_of}
use Rattle.rx_plain.specs.Slots.{heap_of, roots_of}
use Rattle.rx_term.specs.Bank.{table_of}
use Rattle.rx_plain.proofs.ContentLemmas.{same-whole, same-content, empty-whole, empty-len, empty-content}
use Rattle.rx_plain.proofs.bank.PlainBank.new.Goals as goal

pub invariant_of-result : goal.invariant_of-result
invariant_of-result c =
    let e = c.new-in-Ok.ensures.items in
    let m = table_of (symbols_of c.in-Ok.names) in
    let whole = same-whole m [] c.new-in-Ok.result.items e (empty-whole m) in
    let content = same-content m [] c.new-in-Ok.result.items e (empty-whole m) whole in
    record {
      limited = c.requires.1;
      bounded = rw e (omega arith);
      distinct = subst (λ xs. IsDistinct (heap_of xs)) (sym e) (λ s t held q. cc);
      whole = whole;
      unrooted = subst (λ xs. (t : ℕ) → heap_of xs t ≡ None → roots_of xs t ≡ 0) (sym e) (λ t q. refl);
      counts = subst (λ xs. (t : ℕ) → roots_of xs t ≤ 65535) (sym e) (λ t. omega arith);
      counted = sym (ap map.len content ∙ empty-len m);
    }

pub returns-in-Ok-clause-empty : goal.returns-in-Ok-clause-empty
returns-in-Ok-clause-empty c = (
  empty-content (table_of (symbols_of c.in-Ok.names)) c.new-in-Ok.result.items c.new-in-Ok.ensures.items _,
  c.in-Ok.ensures,
  subst (λ xs. (t : ℕ) → roots_of xs t ≡ 0) (sym c.new-in-Ok.ensures.items) (λ t. refl),
  refl,
)
