use Rattle.std.proofs.Common.{ℕ, ap, is_some, refl, sym, subst, ◌∙◌, Some, Err}
use Rattle.std.specs.Prelude.{option_map}
use Rattle.rx_term.specs.Name.{Signature}
use Rattle.rx_shared.specs.State.{store_of}
use Rattle.rx_shared.specs.Inner.Soundness.{sound}
use Rattle.rx_shared.specs.declared.bank.SharedBank.{SharedBank}
use Rattle.rec_engine.specs.Prepared.{memo_of}
use Rattle.psilt_core.specs.Banks.{BankState, specified_by}
use Rattle.psilt_core.specs.Names.{NamesOrRefuses}
use Rattle.psilt_core.specs.Symbols.{KeepsNumbers, RefusesNumber}
use Rattle.psilt_core.proofs.BankLemmas.{fits_named}
use Rattle.psilt_core.proofs.SymbolLemmas.{added, added_symbols, added_keeps, number_is, keeps_numbers, more_symbols, one_place, equal_number, same_number, refuses_number}
use Rattle.psilt_core.proofs.bank.Bank.number.Goals.{in-Ok-insert_full, in-Err-insert_full}
use Rattle.psilt_core.proofs.bank.Bank.number.Goals as goal

pub invariant_of-self-2 : goal.invariant_of-self-2
invariant_of-self-2 c =
    let ns = c.self.inside.symbols.keys in let ms = c.insert_full.new.self.keys in let new = store_of c.intern.new.self.shared in
    let g : Signature = record { name = c.args.name.now; quoted = c.args.quoted; arity = c.args.arity } in
    let named = subst (λ (b : SharedBank). NamesOrRefuses c.allow.new.self.most (store_of b) new g c.intern.result) c.allow.ensures.shared
    c.intern.ensures.answer in
    let whole = fits_named c.allow.new.self.most (store_of c.self.inside.shared.shared) new c.self.inside.prepared ns g c.intern.result named
    c.self.invariant in
    let p = added c.insert_full.result _ ns ms c.in-Ok.symbol.0 c.insert_full.ensures.keys c.insert_full.ensures.err in
    (whole.0, added_symbols new p.0 ns ms c.in-Ok.symbol.0 p.1 whole.1 (ap is_some c.in-Ok.ensures.answer.0.added))

pub returns-clause-number : goal.returns-clause-number
returns-clause-number c =
    let ms = c.insert_full.new.self.keys in
    let b : BankState = record {
      shared = c.intern.new.self.shared;
      most_names = c.self.inside.most_names;
      specified = option_map specified_by c.self.inside.prepared;
      memo = option_map memo_of c.self.inside.prepared;
      symbols = ms;
    } in
    elim c.match-insert_full.branch [
      | in-Ok-insert_full w ↦ (
          let k = w.in-Ok-insert_full.ensures.stored in
          rw w.result-is (number_is b _ w.in-Ok-insert_full.place c.in-Ok.symbol.0 (sound c.intern.new.self.shared)
          (one_place _ equal_number ms c.insert_full.ensures.unique) (k.1 ∙ ap (λ x. Some x) (sym (same_number c.in-Ok.symbol.0 k.0 k.2)))
          c.in-Ok.ensures.answer.0.added)
          )
      | in-Err-insert_full w ↦ rw w.result-is tt
    ]

pub returns-clause-keeps : goal.returns-clause-keeps
returns-clause-keeps c =
    let ns = c.self.inside.symbols.keys in let ms = c.insert_full.new.self.keys in let new = store_of c.intern.new.self.shared in
    let g : Signature = record { name = c.args.name.now; quoted = c.args.quoted; arity = c.args.arity } in
    let named = subst (λ (b : SharedBank). NamesOrRefuses c.allow.new.self.most (store_of b) new g c.intern.result) c.allow.ensures.shared
    c.intern.ensures.answer in
    let p = added c.insert_full.result _ ns ms c.in-Ok.symbol.0 c.insert_full.ensures.keys c.insert_full.ensures.err in
    let before : BankState = record {
      shared = c.self.inside.shared.shared;
      most_names = c.self.inside.most_names;
      specified = option_map specified_by c.self.inside.prepared;
      memo = option_map memo_of c.self.inside.prepared;
      symbols = ns;
    } in
    let after : BankState = record before { shared = c.intern.new.self.shared; symbols = ms } in
    subst (λ (b : BankState). KeepsNumbers b after) c.self.view_is
    (keeps_numbers before after (added_keeps p.0 ns ms c.in-Ok.symbol.0 p.1)
    (more_symbols c.allow.new.self.most (store_of c.self.inside.shared.shared) new g c.intern.result named).symbols)

pub returns-in-Err-clause-refused : goal.returns-in-Err-clause-refused
returns-in-Err-clause-refused c =
    let g : Signature = record { name = c.args.name.now; quoted = c.args.quoted; arity = c.args.arity } in
    let before : BankState = record {
      shared = c.self.inside.shared.shared;
      most_names = c.self.inside.most_names;
      specified = option_map specified_by c.self.inside.prepared;
      memo = option_map memo_of c.self.inside.prepared;
      symbols = c.self.inside.symbols.keys;
    } in
    let after : BankState = record before { shared = c.intern.new.self.shared } in let new = store_of c.intern.new.self.shared in
    let named = subst (λ (b : SharedBank). NamesOrRefuses c.allow.new.self.most (store_of b) new g (Err c.in-Err.fault)) c.allow.ensures.shared
    c.in-Err.ensures.answer in
    subst (λ (b : BankState). RefusesNumber b after g c.in-Err.fault) c.self.view_is (refuses_number before after g c.in-Err.fault refl
    (subst (λ (n : ℕ). NamesOrRefuses n (store_of c.self.inside.shared.shared) new g (Err c.in-Err.fault)) c.allow.ensures.most named))
