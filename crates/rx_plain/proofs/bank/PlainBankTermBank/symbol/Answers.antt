-- A larger table of names leaves the slots and their trees.
use Rattle.std.proofs.Common.{sym, ap, ◌∙◌, refl}
use Rattle.std.specs.FinMap as map
use Rattle.rx_term.specs.Name.{Signature}
use Rattle.rx_names.specs.Names.{symbols_of}
use Rattle.std.proofs.Common.{length}
use Rattle.rx_plain.specs.Slots.{heap_of, roots_of}
use Rattle.rx_plain.specs.State.{store_of}
use Rattle.rx_plain.specs.Inner.Soundness.{bank-heap}
use Rattle.rx_names.proofs.NameLemmas.{kept-interned}
use Rattle.rx_names.proofs.RenamingLemmas.{renamed-whole, renamed-content, renamed-adds, renamed-same}
use Rattle.rx_plain.proofs.bank.PlainBankTermBank.symbol.Goals as goal

pub invariant_of-self : goal.invariant_of-self
invariant_of-self c =
    let b = c.args.self.now in
    let g : Signature = record { name = c.args.name.now; quoted = c.args.quoted; arity = c.args.arity } in
    let grows = kept-interned (symbols_of b.names) (symbols_of c.intern.new.self) g c.intern.result c.intern.ensures in
    let whole = renamed-whole (heap_of b.slots.items) (length b.slots.items) b.names c.intern.new.self b.whole (bank-heap b) grows in
    record {
      limited = b.limited;
      bounded = b.bounded;
      distinct = b.distinct;
      whole = whole;
      unrooted = b.unrooted;
      counts = b.counts;
      counted = b.counted ∙ sym (ap map.len (renamed-content (heap_of b.slots.items) (length b.slots.items) b.names c.intern.new.self b.whole
          (bank-heap b) grows whole));
    }

pub returns-in-Ok : goal.returns-in-Ok
returns-in-Ok c =
    let b = c.args.self.now in
    let g : Signature = record { name = c.args.name.now; quoted = c.args.quoted; arity = c.args.arity } in
    renamed-adds (heap_of b.slots.items) (length b.slots.items) b.names c.intern.new.self b.whole (bank-heap b)
    (kept-interned (symbols_of b.names) (symbols_of c.intern.new.self) g c.intern.result c.intern.ensures) _ (roots_of b.slots.items) b.cap
    (store_of b).spare g c.in-Ok.symbol c.in-Ok.ensures

pub returns-in-Err : goal.returns-in-Err
returns-in-Err c = let b = c.args.self.now in (
  renamed-same (heap_of b.slots.items) (length b.slots.items) b.names c.intern.new.self b.whole (bank-heap b) _ (roots_of b.slots.items) b.cap
      (store_of b).spare c.in-Err.ensures,
  refl,
)
