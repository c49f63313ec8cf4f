use Rattle.std.proofs.Common.{◌∙◌}
use Rattle.rx_term.specs.Walks.{held_tree}
use Rattle.rx_text.specs.Canon.{canon}
use Rattle.rx_text.specs.Output.{Writes, WritesFront}
use Rattle.rx_table.specs.Table.{table}
use Rattle.rx_table.proofs.ElementLemmas.{each-number, held_err, held_ok, list-is-table}
use Rattle.rx_table.proofs.table.write_table_to.Goals as goal

pub write_list-requires-clause-can : goal.write_list-requires-clause-can
write_list-requires-clause-can g c =
    let w = g.B.TermBank.store c.args.bank.now in
    record {
      in_store = record { there = c.in-Ok.ensures.indexed.there; sound = g.met.B.TermBank.sound c.args.bank.now };
      each = each-number w (held_tree w c.args.t) c.in-Ok.parts c.in-Ok.ensures c.deref.result.now
          (c.deref.ensures.value ∙ c.in-Ok-find_numbers.ensures);
    }

pub returns-clause-written : goal.returns-clause-written
returns-clause-written g c =
    let w = g.B.TermBank.store c.args.bank.now in
    held_ok c.write_list.result w c.args.t (λ text. Writes g.W.Write.contents c.args.out.now c.write_list.new.out text) (λ u. canon (table u)) _
    (list-is-table w (held_tree w c.args.t) c.in-Ok.parts c.in-Ok.ensures c.deref.result.now (c.deref.ensures.value ∙ c.in-Ok-find_numbers.ensures))
    c.write_list.ensures.written

pub returns-clause-front : goal.returns-clause-front
returns-clause-front g c =
    let w = g.B.TermBank.store c.args.bank.now in
    held_err c.write_list.result w c.args.t (λ text. WritesFront g.W.Write.contents c.args.out.now c.write_list.new.out text) (λ u. canon (table u)) _
    (list-is-table w (held_tree w c.args.t) c.in-Ok.parts c.in-Ok.ensures c.deref.result.now (c.deref.ensures.value ∙ c.in-Ok-find_numbers.ensures))
    c.write_list.ensures.front
