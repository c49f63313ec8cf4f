use Rattle.std.proofs.Common.{◌≡◌, ◌-◌, ap, arith, get_or, length, subst, sym, take}
use Rattle.std.proofs.lemmas.List.{take_all}
use Rattle.rx_term.proofs.StoreLemmas.{Grows-Refuses, Grows-trans}
use Rattle.rx_term.specs.declared.Term.{Term}
use Rattle.rx_table.proofs.MadeLemmas.{Making, making-begins, making-ends, making-longer, making-next, taken-last}
use Rattle.rx_table.proofs.made.make_list.Goals as goal

pub loop-end-init : goal.loop-end-init
loop-end-init g c =
    let w = g.C.TermBank.store c.args.to.now in
    let v = g.C.TermBank.store c.nil.new.self in
    let items = c.args.items.now in
    record {
      made = subst (λ z. Making w items z v c.in_ok-list.list) (sym (take_all (length items) items (omega arith)))
          (making-begins w v items c.in_ok-list.list c.requires.0 c.requires.1 c.in_ok-list.ensures);
      within = omega arith;
    }

pub cons-requires : goal.cons-requires
cons-requires g c =
    let w = g.C.TermBank.store c.args.to.now in
    let items = c.args.items.now in
    let l = c.loop-end in
    let d : Term = record { 0 = 0 } in
    let test = c.loop-end-test.true in
    let within = l.invariant.within in
    making-longer w items (take l.end items) (take (l.end - 1) items) (g.C.TermBank.store l.to) l.list (get_or items (l.end - 1) d) l.invariant.made
    (taken-last items l.end (l.end - 1) d (omega (arith, test)) within)

pub loop-end-preserved : goal.loop-end-preserved
loop-end-preserved g c =
    let w = g.C.TermBank.store c.args.to.now in
    let items = c.args.items.now in
    let l = c.loop-end in
    let d : Term = record { 0 = 0 } in
    let test = c.loop-end-test.true in
    let within = l.invariant.within in
    record {
      made = making-next w items (take l.end items) (take (l.end - 1) items) (g.C.TermBank.store l.to) l.list (get_or items (l.end - 1) d) l.invariant.made
          (taken-last items l.end (l.end - 1) d (omega (arith, test)) within) (g.C.TermBank.store c.cons.new.self) c.in_ok-list-2.list
          c.in_ok-list-2.ensures;
      within = omega (arith, within);
    }

pub returns-clause-list : goal.returns-clause-list
returns-clause-list g c = λ us h.
    let items = c.args.items.now in
    let l = c.loop-end in
    let test = c.loop-end-test.false in
    let e : l.end ≡ 0 = omega (arith, test) in
    making-ends (g.C.TermBank.store c.args.to.now) items (take l.end items) (g.C.TermBank.store l.to) l.list l.invariant.made
    (ap (λ z. take z items) e) us h

pub returns-in_err-list-clause-grows : goal.returns-in_err-list-clause-grows
returns-in_err-list-clause-grows g c = Grows-Refuses c.in_err-list.ensures

pub returns-in_err-list-2-clause-grows : goal.returns-in_err-list-2-clause-grows
returns-in_err-list-2-clause-grows g c = Grows-trans c.loop-end.invariant.made.grows (Grows-Refuses c.in_err-list-2.ensures)

pub returns-clause-grows : goal.returns-clause-grows
returns-clause-grows g c = c.loop-end.invariant.made.grows
