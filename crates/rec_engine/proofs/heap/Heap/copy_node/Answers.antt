use Rattle.std.proofs.Common.{arith, subst, sym, Contains}
use Rattle.rx_term.specs.Tree.{to_list}
use Rattle.rx_term.specs.Steps.{Keeps}
use Rattle.rx_term.specs.Walks.{AllHeld, held_tree}
use Rattle.rec_sorts.proofs.WalkedLemmas.{items_of-args}
use Rattle.rec_engine.specs.Inner.Copied.{AreCopies, ArePartsOf, HasNilFirst, HasSymbol}
use Rattle.rec_engine.specs.Inner.Pace.{KeepsKnown}
use Rattle.rec_engine.proofs.CopiedLemmas.{copies-some, copy-can, copy-held, copy-made, copy-room, symbol-same}
use Rattle.rec_engine.proofs.TurnLemmas.{ok-map}
use Rattle.rec_engine.proofs.heap.Heap.copy_node.Goals as goal

pub push_copies-requires-clause-known : goal.push_copies-requires-clause-known
push_copies-requires-clause-known g c x inside =
    let own = g.N.TermBank.store c.args.own.now in
    c.requires.known x (subst (λ ts. Contains (to_list ts) x)
    (items_of-args own c.args.node c.args-2.result c.in-Appl.symbol c.in-Appl.ensures c.args-2.ensures) inside)

pub index-empty-requires : goal.index-empty-requires
index-empty-requires g c =
    let own = g.N.TermBank.store c.args.own.now in
    let old = g.B.TermBank.store c.args.self.now.bank in
    let some = copies-some own c.args.copies.now old _ c.args.self.now.work.items c.push_copies.new.work.items c.requires.nil
    (c.in_ok-push_copies.ensures.pushed old c.requires.copies) in
    let long = c.push_copies.new.work.ok.0 in
    omega (arith, some, long)

pub apply_apart-requires-clause-held : goal.apply_apart-requires-clause-held
apply_apart-requires-clause-held g c =
    let own = g.N.TermBank.store c.args.own.now in
    let old = g.B.TermBank.store c.args.self.now.bank in
    let w = g.B.TermBank.store c.symbol.new.self in
    let node = c.args.node in
    let name = c.name_of-name.result.now in
    let quoted = c.quoted_of.result in
    let count = c.arity_of-count.result in
    let same = symbol-same own old node c.in-Appl.symbol name quoted count c.requires.node c.in-Appl.ensures c.name_of-name.ensures
    c.quoted_of.ensures
    c.arity_of-count.ensures w c.in-Ok.symbol (g.met.B.TermBank.sound c.symbol.new.self) c.in-Ok.ensures in
    let h = subst (λ z. HasSymbol z (held_tree own node)) (sym same) c.requires.node in
    let nil = subst (λ z. HasNilFirst z c.args.self.now.work.items) (sym same) c.requires.nil in
    let p = c.in_ok-push_copies.ensures.pushed w (subst (λ z. AreCopies own z c.args.self.now.work.items c.args.copies.now) (sym same)
    c.requires.copies) in
    copy-held own w node c.in-Appl.symbol name quoted count h c.in-Appl.ensures c.name_of-name.ensures c.quoted_of.ensures
    c.arity_of-count.ensures c.args-2.result
    c.index-empty.result.now c.in-Ok.symbol c.args.self.now.work.items c.push_copies.new.work.items c.push.new.work.items c.args-2.ensures
    c.in-Ok.ensures.added p nil c.index-empty.ensures c.in_ok-push.ensures.pushed
    (subst (λ z. AllHeld z c.args.self.now.work.items) (sym same) c.requires.held)

pub apply_apart-requires-clause-fits : goal.apply_apart-requires-clause-fits
apply_apart-requires-clause-fits g c =
    let own = g.N.TermBank.store c.args.own.now in
    let old = g.B.TermBank.store c.args.self.now.bank in
    let w = g.B.TermBank.store c.symbol.new.self in
    let node = c.args.node in
    let name = c.name_of-name.result.now in
    let quoted = c.quoted_of.result in
    let count = c.arity_of-count.result in
    let same = symbol-same own old node c.in-Appl.symbol name quoted count c.requires.node c.in-Appl.ensures c.name_of-name.ensures
    c.quoted_of.ensures
    c.arity_of-count.ensures w c.in-Ok.symbol (g.met.B.TermBank.sound c.symbol.new.self) c.in-Ok.ensures in
    let h = subst (λ z. HasSymbol z (held_tree own node)) (sym same) c.requires.node in
    let nil = subst (λ z. HasNilFirst z c.args.self.now.work.items) (sym same) c.requires.nil in
    let p = c.in_ok-push_copies.ensures.pushed w (subst (λ z. AreCopies own z c.args.self.now.work.items c.args.copies.now) (sym same)
    c.requires.copies) in
    copy-can own w node c.in-Appl.symbol name quoted count h c.in-Appl.ensures c.name_of-name.ensures c.quoted_of.ensures
    c.arity_of-count.ensures c.args-2.result
    c.index-empty.result.now c.in-Ok.symbol c.args.self.now.work.items c.push_copies.new.work.items c.push.new.work.items c.args-2.ensures
    c.in-Ok.ensures.added p nil c.index-empty.ensures c.in_ok-push.ensures.pushed

pub returns-clause-kept : goal.returns-clause-kept
returns-clause-kept g c =
    let own = g.N.TermBank.store c.args.own.now in
    let old = g.B.TermBank.store c.args.self.now.bank in
    let w = g.B.TermBank.store c.symbol.new.self in
    let node = c.args.node in
    let name = c.name_of-name.result.now in
    let quoted = c.quoted_of.result in
    let count = c.arity_of-count.result in
    let same = symbol-same own old node c.in-Appl.symbol name quoted count c.requires.node c.in-Appl.ensures c.name_of-name.ensures
    c.quoted_of.ensures
    c.arity_of-count.ensures w c.in-Ok.symbol (g.met.B.TermBank.sound c.symbol.new.self) c.in-Ok.ensures in
    let h = subst (λ z. HasSymbol z (held_tree own node)) (sym same) c.requires.node in
    let nil = subst (λ z. HasNilFirst z c.args.self.now.work.items) (sym same) c.requires.nil in
    let p = c.in_ok-push_copies.ensures.pushed w (subst (λ z. AreCopies own z c.args.self.now.work.items c.args.copies.now) (sym same)
    c.requires.copies) in
    let new = g.B.TermBank.store c.apply_apart.new.self.bank in
    let can = copy-can own w node c.in-Appl.symbol name quoted count h c.in-Appl.ensures c.name_of-name.ensures c.quoted_of.ensures
    c.arity_of-count.ensures c.args-2.result
    c.index-empty.result.now c.in-Ok.symbol c.args.self.now.work.items c.push_copies.new.work.items c.push.new.work.items c.args-2.ensures
    c.in-Ok.ensures.added p nil c.index-empty.ensures c.in_ok-push.ensures.pushed in
    record {
      keeps = subst (λ z. Keeps z new c.args.self.now.work.items) same (c.apply_apart.ensures.below can);
      known = subst (λ z. KeepsKnown z new c.args.self.now.pace c.apply_apart.new.self.pace) same c.apply_apart.ensures.kept.known;
    }

pub returns-clause-made : goal.returns-clause-made
returns-clause-made g c =
    let own = g.N.TermBank.store c.args.own.now in
    let old = g.B.TermBank.store c.args.self.now.bank in
    let w = g.B.TermBank.store c.symbol.new.self in
    let node = c.args.node in
    let name = c.name_of-name.result.now in
    let quoted = c.quoted_of.result in
    let count = c.arity_of-count.result in
    let same = symbol-same own old node c.in-Appl.symbol name quoted count c.requires.node c.in-Appl.ensures c.name_of-name.ensures
    c.quoted_of.ensures
    c.arity_of-count.ensures w c.in-Ok.symbol (g.met.B.TermBank.sound c.symbol.new.self) c.in-Ok.ensures in
    let h = subst (λ z. HasSymbol z (held_tree own node)) (sym same) c.requires.node in
    let nil = subst (λ z. HasNilFirst z c.args.self.now.work.items) (sym same) c.requires.nil in
    let p = c.in_ok-push_copies.ensures.pushed w (subst (λ z. AreCopies own z c.args.self.now.work.items c.args.copies.now) (sym same)
    c.requires.copies) in
    ok-map c.apply_apart.result (λ u applies. copy-made own w node c.in-Appl.symbol name quoted count h c.in-Appl.ensures
    c.name_of-name.ensures c.quoted_of.ensures c.arity_of-count.ensures c.args-2.result
    c.index-empty.result.now c.in-Ok.symbol c.args.self.now.work.items c.push_copies.new.work.items c.push.new.work.items c.args-2.ensures
    c.in-Ok.ensures.added p nil c.index-empty.ensures c.in_ok-push.ensures.pushed
    (g.B.TermBank.store c.apply_apart.new.self.bank) c.apply_apart.new.self.work.items applies) c.apply_apart.ensures.applies

pub returns-clause-room : goal.returns-clause-room
returns-clause-room g c whole below inside =
    let own = g.N.TermBank.store c.args.own.now in
    let old = g.B.TermBank.store c.args.self.now.bank in
    let w = g.B.TermBank.store c.symbol.new.self in
    let node = c.args.node in
    let name = c.name_of-name.result.now in
    let quoted = c.quoted_of.result in
    let count = c.arity_of-count.result in
    let same = symbol-same own old node c.in-Appl.symbol name quoted count c.requires.node c.in-Appl.ensures c.name_of-name.ensures
    c.quoted_of.ensures
    c.arity_of-count.ensures w c.in-Ok.symbol (g.met.B.TermBank.sound c.symbol.new.self) c.in-Ok.ensures in
    let h = subst (λ z. HasSymbol z (held_tree own node)) (sym same) c.requires.node in
    let nil = subst (λ z. HasNilFirst z c.args.self.now.work.items) (sym same) c.requires.nil in
    let p = c.in_ok-push_copies.ensures.pushed w (subst (λ z. AreCopies own z c.args.self.now.work.items c.args.copies.now) (sym same)
    c.requires.copies) in
    copy-room own w node c.in-Appl.symbol name quoted count h c.in-Appl.ensures c.name_of-name.ensures c.quoted_of.ensures
    c.arity_of-count.ensures c.args-2.result
    c.index-empty.result.now c.in-Ok.symbol c.args.self.now.work.items c.push_copies.new.work.items c.push.new.work.items c.args-2.ensures
    c.in-Ok.ensures.added p nil c.index-empty.ensures c.in_ok-push.ensures.pushed
    (g.B.TermBank.store c.apply_apart.new.self.bank) c.apply_apart.new.self.work.items c.apply_apart.new.self.pace.memo whole c.apply_apart.result
    (subst (λ z. ArePartsOf z c.args.self.now.work.items whole) (sym same) below) inside c.apply_apart.ensures.parts c.apply_apart.ensures.room
