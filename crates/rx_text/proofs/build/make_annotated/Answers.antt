use Rattle.std.proofs.Common.{◌≡◌, ◌++◌, ◌∷◌, [], ap, ◌∙◌}
use Rattle.std.specs.Prelude.{option_to_list}
use Rattle.rx_term.proofs.StoreLemmas.{Grows-Makes, Grows-Refuses, Grows-trans}
use Rattle.rx_text.proofs.MakingLemmas.{annotations_made}
use Rattle.rx_text.proofs.build.make_annotated.Goals as goal

pub returns-clause-made : goal.returns-clause-made
returns-clause-made g c = λ trees held.
    let popped : c.take_list.new.made.items ≡ c.pop.new.self.items ++ c.unwrap-term.result ∷ [] =
    c.pop.ensures.items ∙ ap (λ o. c.pop.new.self.items ++ option_to_list o) c.unwrap-term.ensures in
    annotations_made (g.B.TermBank.store c.take_list.new.bank) (g.B.TermBank.store c.annotated.new.self) c.take_list.new.made.items
    c.pop.new.self.items c.unwrap-term.result c.in_ok-anns.anns c.in_ok-annotated.field-0 c.args.count trees popped
    (c.in_ok-anns.ensures.list trees held) c.in_ok-annotated.ensures (c.in_ok-anns.ensures.left trees held)

pub returns-in_err-annotated-clause-grows : goal.returns-in_err-annotated-clause-grows
returns-in_err-annotated-clause-grows g c = Grows-trans c.take_list.ensures.grows (Grows-Refuses c.in_err-annotated.ensures)

pub returns-clause-grows : goal.returns-clause-grows
returns-clause-grows g c = Grows-trans c.take_list.ensures.grows (Grows-Makes c.in_ok-annotated.ensures)
