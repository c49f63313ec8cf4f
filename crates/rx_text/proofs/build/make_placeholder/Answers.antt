use Rattle.std.proofs.Common.{◌≡◌, ◌++◌, ◌∷◌, [], ap, ◌∙◌}
use Rattle.std.specs.Prelude.{option_to_list}
use Rattle.rx_term.proofs.StoreLemmas.{Grows-Makes, Grows-Refuses}
use Rattle.rx_text.proofs.MakingLemmas.{placeholder_made}
use Rattle.rx_text.proofs.build.make_placeholder.Goals as goal

pub returns-clause-made : goal.returns-clause-made
returns-clause-made g c = λ trees held.
    let popped : c.args.made.now.items ≡ c.pop.new.self.items ++ c.unwrap-inner.result ∷ [] =
    c.pop.ensures.items ∙ ap (λ o. c.pop.new.self.items ++ option_to_list o) c.unwrap-inner.ensures in
    placeholder_made (g.B.TermBank.store c.args.bank.now) (g.B.TermBank.store c.hole.new.self) c.args.made.now.items c.pop.new.self.items
    c.unwrap-inner.result c.in_ok-hole.field-0 trees popped c.in_ok-hole.ensures held

pub returns-in_err-hole-clause-grows : goal.returns-in_err-hole-clause-grows
returns-in_err-hole-clause-grows g c = Grows-Refuses c.in_err-hole.ensures

pub returns-clause-grows : goal.returns-clause-grows
returns-clause-grows g c = Grows-Makes c.in_ok-hole.ensures
