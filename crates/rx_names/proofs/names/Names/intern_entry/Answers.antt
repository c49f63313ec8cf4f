-- The words only grow, and the entry is put last or is there.
use Rattle.std.proofs.Common.{◌≡◌, true, Some, refl, sym, ap, ◌∙◌, slice_get, subst}
use Rattle.rx_term.specs.Name.{Signature}
use Rattle.rx_names.specs.Words.{words_of}
use Rattle.rx_names.specs.Entries.{is_allowed_word, symbols_from}
use Rattle.rx_names.specs.Names.{Interns}
use Rattle.rx_names.specs.declared.names.Entry.{Entry}
use Rattle.rx_names.proofs.PlaceLemmas.{inserted-once, Placed-apart, lacks-itself}
use Rattle.rx_names.proofs.NameLemmas.{kept-allowed, kept-symbols, Placed-allowed, Interns-placed, entry_eq-Decides}
use Rattle.rx_names.proofs.names.Names.intern_entry.Goals as goal

pub invariant_of-self : goal.invariant_of-self
invariant_of-self c =
    let n = c.args.self.now in
    record { apart = n.apart; allowed = kept-allowed (words_of n.words) (words_of c.intern.new.self) n.entries.keys c.intern.ensures.kept n.allowed }

pub returns-in-Err : goal.returns-in-Err
returns-in-Err c =
    let n = c.args.self.now in
    kept-symbols (words_of n.words) (words_of c.intern.new.self) n.entries.keys c.intern.ensures.kept n.allowed

pub invariant_of-self-2 : goal.invariant_of-self-2
invariant_of-self-2 c =
    let n = c.args.self.now in
    let e : Entry = record { word = c.in-Ok.word; quoted = c.args.quoted; arity = c.args.arity } in
    let es = c.insert_full.new.self.keys in
    let placed = inserted-once c.insert_full.result _ n.entries.keys es e c.insert_full.ensures.keys c.insert_full.ensures.err
    (lacks-itself e _ (entry_eq-Decides e) n.entries.keys) in
    let allowed = kept-allowed (words_of n.words) (words_of c.intern.new.self) n.entries.keys c.intern.ensures.kept n.allowed in
    let ok : is_allowed_word (slice_get (words_of c.intern.new.self) c.in-Ok.word) c.args.quoted ≡ true = rw c.in-Ok.ensures.stands c.requires in
    record {
      apart = Placed-apart n.entries.keys es e placed n.apart;
      allowed = Placed-allowed (words_of c.intern.new.self) n.entries.keys es e placed allowed ok;
    }

pub returns-in-Ok-insert_full : goal.returns-in-Ok-insert_full
returns-in-Ok-insert_full c =
    let n = c.args.self.now in
    let g : Signature = record { name = c.args.name.now; quoted = c.args.quoted; arity = c.args.arity } in
    let e : Entry = record { word = c.in-Ok.word; quoted = c.args.quoted; arity = c.args.arity } in
    let vs = words_of c.intern.new.self in
    let es = c.insert_full.new.self.keys in
    let place = c.in-Ok-insert_full.place in
    let placed = inserted-once c.insert_full.result _ n.entries.keys es e c.insert_full.ensures.keys c.insert_full.ensures.err
    (lacks-itself e _ (entry_eq-Decides e) n.entries.keys) in
    let k = c.in-Ok-insert_full.ensures.stored in
    let at : slice_get es place ≡ Some e = k.1 ∙ ap (λ z. Some z) (sym ((entry_eq-Decides e k.0).0 k.2)) in
    subst (λ m. Interns m (symbols_from vs es) g (record { 0 = place })) (kept-symbols (words_of n.words) vs n.entries.keys c.intern.ensures.kept n.allowed)
    (Interns-placed vs n.entries.keys es e place placed at g c.intern.new.self.apart (Placed-apart n.entries.keys es e placed n.apart)
    c.in-Ok.ensures.stands refl refl)

pub returns-in-Err-insert_full : goal.returns-in-Err-insert_full
returns-in-Err-insert_full c =
    let n = c.args.self.now in
    ap (symbols_from (words_of c.intern.new.self)) c.in-Err-insert_full.ensures.err
    ∙ kept-symbols (words_of n.words) (words_of c.intern.new.self) n.entries.keys c.intern.ensures.kept n.allowed
