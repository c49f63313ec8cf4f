use Rattle.std.proofs.Common.{◌++◌, ◌∷◌, [], ◌∙◌, sym}
use Rattle.rx_term.specs.Store.{tree_at}
use Rattle.rx_text.specs.Canon.{canon}
use Rattle.rx_text.specs.Numbered.{written}
use Rattle.rx_text.specs.Inner.Jobs.{seen, entry_text, source_of}
use Rattle.rx_text.proofs.AppendingLemmas.{err_front, on_err, front_of}
use Rattle.rx_text.proofs.LeavingLemmas.{hole_front, listed_front, listed_leaves}
use Rattle.rx_text.proofs.writer.Printer.write_placeholder.Goals as goal

pub returns-in_err-put-clause-front : goal.returns-in_err-put-clause-front
returns-in_err-put-clause-front g c =
    let v = source_of g.B.TermBank.store g.N.Numbers.style c.args.self.now in
    let h = c.requires.job in
    on_err _ (front_of (g.W.Write.contents c.args.out.now.writer.now) (g.W.Write.contents c.put.new.self.writer.now)
    (seen [] (entry_text v.style) (tree_at v.store c.args.term)) (60 ∷ 91 ∷ []) ((canon (written v.style h.inside) ++ 93 ∷ []) ++ 62 ∷ [])
    (listed_front v c.args.term h (sym (c.are_some.ensures v.store) ∙ c.if-are_some.true)) c.in_err-put.ensures.front)

pub returns-in_ok-put-clause-written : goal.returns-in_ok-put-clause-written
returns-in_ok-put-clause-written g c =
    let v = source_of g.B.TermBank.store g.N.Numbers.style c.args.self.now in
    listed_leaves v c.args.term c.inner-inner.result c.requires.job c.inner-inner.ensures (g.W.Write.contents c.args.out.now.writer.now)
    (g.W.Write.contents c.put.new.self.writer.now) c.args.jobs.now.items c.push.new.self.items c.leave.new.jobs.items
    (sym (c.are_some.ensures v.store) ∙ c.if-are_some.true) c.in_ok-push.ensures.items c.in_ok-leave.ensures.left c.in_ok-put.ensures.written

pub returns-else-are_some-clause-front : goal.returns-else-are_some-clause-front
returns-else-are_some-clause-front g c =
    let v = source_of g.B.TermBank.store g.N.Numbers.style c.args.self.now in
    let h = c.requires.job in
    err_front c.put_mark.result (g.W.Write.contents c.args.out.now.writer.now) (g.W.Write.contents c.put_mark.new.out.writer.now)
    (seen [] (entry_text v.style) (tree_at v.store c.args.term)) (60 ∷ []) (canon (written v.style h.inside) ++ 62 ∷ [])
    (hole_front v c.args.term h (sym (c.are_some.ensures v.store) ∙ c.if-are_some.false)) c.put_mark.ensures.front
