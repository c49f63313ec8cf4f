use Rattle.std.proofs.Common.{◌++◌, ◌∷◌, []}
use Rattle.rx_term.specs.Store.{tree_at}
use Rattle.rx_term.specs.Tree.{more}
use Rattle.rx_text.specs.Canon.{canon_all}
use Rattle.rx_text.specs.Numbered.{written_all}
use Rattle.rx_text.specs.Inner.Jobs.{seen, entry_text, source_of}
use Rattle.rx_text.proofs.AppendingLemmas.{err_front}
use Rattle.rx_text.proofs.LeavingLemmas.{list_front}
use Rattle.rx_text.proofs.writer.Printer.write_body.Goals as goal

pub returns-in-Cons-clause-front : goal.returns-in-Cons-clause-front
returns-in-Cons-clause-front g c =
    let v = source_of g.B.TermBank.store g.N.Numbers.style c.args.self.now in
    let h = c.in-Cons.ensures in
    err_front c.put_mark.result (g.W.Write.contents c.args.out.now.writer.now) (g.W.Write.contents c.put_mark.new.out.writer.now)
    (seen [] (entry_text v.style) (tree_at v.store c.args.term)) (91 ∷ []) (canon_all (written_all v.style (more h.first h.rest)) ++ 93 ∷ [])
    (list_front v c.args.term h) c.put_mark.ensures.front
