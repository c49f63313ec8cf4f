use Rattle.std.proofs.Common.{rules}
use Rattle.rx_term.specs.Tree.{Tree}
use Rattle.rx_text.specs.Canon.{canon}
use Rattle.rx_table.specs.Table.{table}
use Rattle.rx_run.specs.Run.{fault_of_write}
use Rattle.rx_run.specs.declared.ending.RunFault.TheVariants.{Write}
use Rattle.rx_run.proofs.ErrorLemmas.{if_err_at}
use Rattle.rx_run.proofs.PatternLineLemmas.{end_refused, stops_first}
use Rattle.rx_run.proofs.TableLineLemmas.{table_none}
use Rattle.rx_run.proofs.TermLineLemmas.{text_stops}
use Rattle.rx_run.proofs.term.output.write_table_line.Goals as goal

pub returns-in_err-write_table_to : goal.returns-in_err-write_table_to
returns-in_err-write_table_to g c =
    let w = g.B.TermBank.store c.args.bank.now in
    let f = c.in_err-write_table_to.field-0.0 in
    record {
      ok = search rules;
      err = if_err_at c.from_residual.result _ (fault_of_write f) c.from_residual.ensures.1
          (text_stops (λ (u : Tree). canon (table u)) w c.args.t f _ _ (g.met.B.TermBank.sound c.args.bank.now) table_none c.requires
          c.in_err-write_table_to.ensures.front);
      writing = search rules;
      reports = search rules;
    }

pub returns-in_err-put : goal.returns-in_err-put
returns-in_err-put g c =
    let w = g.B.TermBank.store c.args.bank.now in
    record {
      ok = search rules;
      err = if_err_at c.from_residual-in_err-put.result _ Write c.from_residual-in_err-put.ensures.1
          (stops_first Write _ _ _ (end_refused (λ (u : Tree). canon (table u)) w c.args.t 0 _ _ _ c.requires c.in_ok-write_table_to.ensures.written
          c.in_err-put.ensures.front));
      writing = search rules;
      reports = search rules;
    }
