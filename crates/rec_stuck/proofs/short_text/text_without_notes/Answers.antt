use Rattle.std.proofs.Common.{ap, ◌∙◌, arith}
use Rattle.std.specs.Io.KnownBytes.{Appends}
use Rattle.std.specs.Prelude.{Some}
use Rattle.rx_term.specs.Store.{tree_at}
use Rattle.rx_term.specs.Walks.{held_tree}
use Rattle.rx_text.specs.Canon.{canon}
use Rattle.rx_term.specs.Tree.{annotations}
use Rattle.rec_run.specs.Output.{notes_text}
use Rattle.rec_run.proofs.EvaluatedLemmas.{of_held}
use Rattle.rec_stuck.proofs.TextLemmas.{without-notes}
use Rattle.std.specs.Prelude.{◌++◌}
use Rattle.rec_stuck.proofs.short_text.text_without_notes.Goals as goal

pub returns : goal.returns
returns g c =
    let w = g.B.TermBank.store c.args.bank.now in
    let u = held_tree w c.args.t in
    let a = of_held (tree_at w c.args.t) (λ t. Appends (Some c.new-text.result.items) (Some c.write.new.out.items) (canon t)) c.requires
    c.in-Ok.ensures.written in
    let b = c.in-Ok-write_notes.ensures.ok in
    let m = c.len.ensures in
    let n = c.len-2.ensures in
    let k = c.saturating_sub.ensures in
    let p = c.write.new.out.ok.0 in
    let q = c.write_notes.new.out.ok.0 in
    without-notes u c.write.new.out.items c.write_notes.new.out.items c.truncate.new.self.items c.saturating_sub.result
    (a ∙ ap (λ xs. xs ++ canon u) c.new-text.ensures.items) (b ∙ ap (λ xs. xs ++ notes_text (annotations u)) c.new-notes.ensures.items)
    (omega (arith, m, n, k, p, q)) c.truncate.ensures.items
