use Rattle.std.proofs.Common.{sym, length, ◌-◌}
use Rattle.std.proofs.lemmas.Option.{get_or_from_slice_get}
use Rattle.rec_engine.proofs.KnownConstantLemmas.{known-trans}
use Rattle.rec_engine.proofs.LentLemmas.{below-kept, held-above, can-top, top-keeps, top-applied}
use Rattle.rec_engine.proofs.StayLemmas.{stays-kept}
use Rattle.rec_engine.proofs.TurnLemmas.{ok-map}
use Rattle.rec_engine.proofs.vm.Machine.apply_top.Goals as goal

pub returns-in_err-push_nil-clause-stays : goal.returns-in_err-push_nil-clause-stays
returns-in_err-push_nil-clause-stays g c =
    let work = c.args.self.now.heap.work.items in
    stays-kept c.requires.ready (below-kept (g.B.TermBank.store c.args.self.now.heap.bank) (g.B.TermBank.store c.push_nil.new.self.bank)
    (length work - c.args.count) work c.push_nil.ensures.kept.keeps) c.push_nil.ensures.kept.known

pub apply_apart-requires-clause-held : goal.apply_apart-requires-clause-held
apply_apart-requires-clause-held g c =
    held-above (g.B.TermBank.store c.args.self.now.heap.bank) (g.B.TermBank.store c.push_nil.new.self.bank) c.args.self.now.heap.work.items
    c.push_nil.new.self.work.items _ c.push_nil.ensures.kept.keeps c.requires.held c.in_ok-push_nil.ensures.pushed c.in_ok-push_nil.ensures.empty

pub apply_apart-requires-clause-fits : goal.apply_apart-requires-clause-fits
apply_apart-requires-clause-fits g c =
    can-top c.args.self.now.checked.spec (g.B.TermBank.store c.args.self.now.heap.bank) (g.B.TermBank.store c.push_nil.new.self.bank) c.args.symbol
    c.args.count c.args.self.now.heap.work.items c.push_nil.new.self.work.items _ c.symbol_of.result c.args.self.now.code.links c.requires.symbol
    c.requires.arity c.requires.count c.requires.ready.linked (sym (get_or_from_slice_get _ c.args.symbol _ c.symbol_of.result c.symbol_of.ensures))
    c.push_nil.ensures.kept.keeps c.in_ok-push_nil.ensures.empty c.in_ok-push_nil.ensures.pushed

pub returns-clause-stays : goal.returns-clause-stays
returns-clause-stays g c =
    let keeps = top-keeps c.args.self.now.checked.spec (g.B.TermBank.store c.args.self.now.heap.bank) (g.B.TermBank.store c.push_nil.new.self.bank)
    c.args.symbol c.args.count c.args.self.now.heap.work.items c.push_nil.new.self.work.items _ c.symbol_of.result c.args.self.now.code.links
    c.requires.symbol c.requires.arity c.requires.count c.requires.ready.linked
    (sym (get_or_from_slice_get _ c.args.symbol _ c.symbol_of.result c.symbol_of.ensures))
    c.push_nil.ensures.kept.keeps c.in_ok-push_nil.ensures.empty c.in_ok-push_nil.ensures.pushed (g.B.TermBank.store c.apply_apart.new.self.bank)
    c.apply_apart.ensures.below in
    stays-kept c.requires.ready keeps (known-trans c.push_nil.ensures.kept.known c.apply_apart.ensures.kept.known)

pub returns-clause-applied : goal.returns-clause-applied
returns-clause-applied g c = ok-map c.apply_apart.result (λ u applies.
    top-applied c.args.self.now.checked.spec (g.B.TermBank.store c.args.self.now.heap.bank) (g.B.TermBank.store c.push_nil.new.self.bank)
    c.args.symbol c.args.count c.args.self.now.heap.work.items c.push_nil.new.self.work.items _ c.symbol_of.result c.args.self.now.code.links
    c.requires.symbol c.requires.arity c.requires.count c.requires.ready.linked
    (sym (get_or_from_slice_get _ c.args.symbol _ c.symbol_of.result c.symbol_of.ensures))
    c.push_nil.ensures.kept.keeps c.in_ok-push_nil.ensures.empty c.in_ok-push_nil.ensures.pushed (g.B.TermBank.store c.apply_apart.new.self.bank)
    c.apply_apart.new.self.work.items c.requires.held applies) c.apply_apart.ensures.applies
