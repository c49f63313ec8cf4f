use Rattle.std.proofs.Common.{ap, append_assoc, ◌∙◌, ◌++◌, ◌∷◌, []}
use Rattle.std.proofs.lemmas.List.{take_all}
use Rattle.std.specs.Prelude.{flat_map}
use Rattle.rx_text.specs.Canon.{quoted_byte}
use Rattle.rec_check.proofs.printed.push_quoted.Goals as goal

pub returns : goal.returns
returns c =
    let name = c.args.name.now in
    let text = c.args.text.now.items in
    let quoted = flat_map quoted_byte name in
    c.in_ok-push-2.ensures.items
    ∙ ap (λ xs. xs ++ 34 ∷ [])
    (c.loop-byte.invariant ∙ ap (λ ns. c.push.new.self.items ++ flat_map quoted_byte ns) (take_all c.loop-byte.byte-index name c.loop-byte-test.false)
    ∙ ap (λ xs. xs ++ quoted) c.in_ok-push.ensures.items)
    ∙ append_assoc (text ++ 34 ∷ []) quoted (34 ∷ [])
    ∙ append_assoc text (34 ∷ []) (quoted ++ 34 ∷ [])
