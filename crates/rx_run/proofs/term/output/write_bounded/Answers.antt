use Rattle.std.proofs.Common.{◌≡◌, ◌≤◌, ◌++◌, IfSome, length, rules, subst, sym}
use Rattle.std.specs.Prelude.{codes, decimal}
use Rattle.std.specs.Io.KnownBytes.{Appends}
use Rattle.rx_term.specs.Store.{tree_at}
use Rattle.rx_text.specs.Canon.{canon}
use Rattle.rx_text.specs.declared.output.Output.{Output}
use Rattle.rx_run.specs.declared.ending.RunFault.TheVariants.{Write}
use Rattle.rx_run.proofs.ErrorLemmas.{if_err_at}
use Rattle.rx_run.proofs.PatternLineLemmas.{end_refused, stops_first}
use Rattle.rx_run.proofs.TermLineLemmas.{bounded, wrote_bound, wrote_short}
use Rattle.rx_run.proofs.term.output.write_bounded.Goals as goal
use Rattle.rx_run.proofs.term.output.write_bounded.Goals.{in-Some+in_ok-put-in-Some, in-None+in_ok-put_numbered_to-in-None}

pub returns-in_err-put : goal.returns-in_err-put
returns-in_err-put g c =
    let w = g.B.TermBank.store c.args.bank.now in
    let old = g.W.Write.contents c.args.out.now.writer.now in
    let wrote : IfSome (tree_at w c.args.t) (λ u. Appends old (g.W.Write.contents c.match-branch-2.out.writer.now) (bounded c.args.most u)) =
    elim c.match-branch-2.branch [
      | in-Some+in_ok-put-in-Some b ↦ (
          let short = subst (λ o. IfSome o (λ v. length v.items ≤ c.args.most)) b.in-Some.is c.in_ok-text.ensures.within in
          let is = subst (λ o. IfSome o (λ v. IfSome (tree_at w c.args.t) (λ u. v.items ≡ canon u))) b.in-Some.is c.in_ok-text.ensures.whole in
          let out = subst (λ x. Appends old (g.W.Write.contents b.put.new.self.writer.now) x) b.deref.ensures.value b.in_ok-put-in-Some.ensures.written in
          wrote_short (tree_at w c.args.t) c.args.most b.in-Some.text.items old _ short is
          (subst (λ (o : Output g.row.W.Denot). Appends old (g.W.Write.contents o.writer.now) b.in-Some.text.items) (sym b.out-is) out))
      | in-None+in_ok-put_numbered_to-in-None b ↦ wrote_bound (tree_at w c.args.t) c.args.most old _ (c.in_ok-text.ensures.longer b.in-None.is)
          (subst (λ (o : Output g.row.W.Denot). Appends old (g.W.Write.contents o.writer.now) (codes "!bytes " ++ decimal c.args.most)) (sym b.out-is)
          b.in_ok-put_numbered_to-in-None.ensures.ok)
    ] in
    record {
      ok = search rules;
      err = if_err_at c.from_residual-in_err-put.result _ Write c.from_residual-in_err-put.ensures.1
          (stops_first Write _ _ _ (end_refused (bounded c.args.most) w c.args.t 0 _ _ _ c.requires wrote c.in_err-put.ensures.front));
      writing = search rules;
      reports = search rules;
    }
