use Rattle.std.proofs.Common.{◌≡◌, subst, arith}
use Rattle.rx_term.specs.Name.{Signature}
use Rattle.rx_term.specs.declared.Symbol.{Symbol}
use Rattle.rx_names.specs.Names.{symbols_of}
use Rattle.rx_shared.specs.State.{store_of}
use Rattle.psilt_core.specs.Names.{names_of}
use Rattle.psilt_core.proofs.NameLemmas.{IsTableTo, no_table, there_below, allowed_name, signature_is, whole_table}
use Rattle.psilt_core.proofs.limited.table_of.Goals as goal

pub loop-number-init : goal.loop-number-init
loop-number-init c =
    record { within = omega arith; table = no_table (symbols_of c.in-Ok.table) (store_of c.args.shared.now).symbols c.in-Ok.ensures }

pub name_of-name-requires : goal.name_of-name-requires
name_of-name-requires c = there_below c.args.shared.now c.from.result (omega (arith, c.from.ensures, c.loop-number-test.true, c.requires))

pub intern-added-requires : goal.intern-added-requires
intern-added-requires c =
    let s : Symbol = record { 0 = c.from.result } in
    let g : Signature = record { name = c.name_of-name.result.now; quoted = c.quoted_of.result; arity = c.arity_of.result } in
    allowed_name c.args.shared.now s g (signature_is (store_of c.args.shared.now) s c.name_of-name.result.now c.quoted_of.result c.arity_of.result
    c.name_of-name.ensures c.quoted_of.ensures c.arity_of.ensures)

pub returns : goal.returns
returns c =
    let n : c.loop-number.number ≡ names_of (store_of c.args.shared.now) =
    omega (arith, c.loop-number.invariant.within, c.loop-number-test.false, c.requires) in
    whole_table c.args.shared.now (symbols_of c.loop-number.table)
    (subst (λ k. IsTableTo k (symbols_of c.loop-number.table) (store_of c.args.shared.now).symbols) n c.loop-number.invariant.table)
