use Rattle.std.proofs.Common.{subst}
use Rattle.std.specs.Prelude.{Option}
use Rattle.rx_term.specs.Kinds.{HasAnns}
use Rattle.rx_term.specs.declared.Term.{Term}
use Rattle.rx_run.proofs.PatternDueLemmas.{if_ok_map}
use Rattle.rx_term.specs.Walks.{held_tree}
use Rattle.rec_stuck.specs.Stuck.{bare_of}
use Rattle.rec_stuck.proofs.TextLemmas.{begins-bare, begins-whole}
use Rattle.rec_stuck.proofs.short_text.bare_beginning.Goals as goal

pub returns-in-None : goal.returns-in-None
returns-in-None g c =
    let w = g.B.TermBank.store c.args.bank.now in
    if_ok_map c.beginning.result _ _ (λ text h. begins-bare w c.args.t text.items c.requires
    (subst (λ (o : Option Term). HasAnns w c.args.t o) c.in-None.is c.anns.ensures) h) c.beginning.ensures

pub returns-in-Some : goal.returns-in-Some
returns-in-Some g c =
    let w = g.B.TermBank.store c.args.bank.now in
    if_ok_map c.text_without_notes.result _ _ (λ text e. begins-whole (bare_of (held_tree w c.args.t)) text.items e) c.text_without_notes.ensures
