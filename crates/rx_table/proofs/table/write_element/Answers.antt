use Rattle.std.proofs.Common.{◌≡◌, List, ℕ, None, [], ◌∷◌, ◌++◌, ◌∙◌, ap, get_or, sym}
use Rattle.std.specs.Prelude.{not}
use Rattle.rx_text.specs.Canon.{canon}
use Rattle.rx_text.specs.Numbered.{entry}
use Rattle.rx_text.proofs.AppendingLemmas.{front_of, front_within, on_err}
use Rattle.rx_table.specs.Inner.Elements.{element_of, style_of}
use Rattle.rx_table.specs.Inner.Walk.{part_tree}
use Rattle.rx_table.proofs.ElementLemmas.{some-text}
use Rattle.rx_table.proofs.table.write_element.Goals as goal

pub returns-in_err-write_entry-clause-front : goal.returns-in_err-write_entry-clause-front
returns-in_err-write_entry-clause-front g c =
    let p = c.args.printer.now in
    let w = g.B.TermBank.store p.bank.now in
    let s = style_of p.numbers w in
    let i = c.args.index in
    let keys = p.numbers.parts.now.terms.keys in
    let element : List ℕ = canon (entry s (part_tree w c.as_slice.result.now i)) in
    let text : element_of g.B.TermBank.store p i ≡ element ++ 44 ∷ [] =
    some-text s (part_tree w keys i) (get_or p.numbers.numbers.now i None) (c.is_none.ensures ∙ ap not c.if-is_none.false)
    ∙ ap (λ ks. canon (entry s (part_tree w ks i)) ++ 44 ∷ []) (sym c.as_slice.ensures) in
    on_err _ (front_of (g.W.Write.contents c.args.out.now.writer.now) (g.W.Write.contents c.write_entry.new.out.writer.now)
    (element_of g.B.TermBank.store p i) element (44 ∷ []) text c.in_err-write_entry.ensures.front)

pub returns-in_err-put-clause-front : goal.returns-in_err-put-clause-front
returns-in_err-put-clause-front g c =
    let p = c.args.printer.now in
    let w = g.B.TermBank.store p.bank.now in
    let s = style_of p.numbers w in
    let i = c.args.index in
    let keys = p.numbers.parts.now.terms.keys in
    let element : List ℕ = canon (entry s (part_tree w c.as_slice.result.now i)) in
    let text : element_of g.B.TermBank.store p i ≡ element ++ 44 ∷ [] =
    some-text s (part_tree w keys i) (get_or p.numbers.numbers.now i None) (c.is_none.ensures ∙ ap not c.if-is_none.false)
    ∙ ap (λ ks. canon (entry s (part_tree w ks i)) ++ 44 ∷ []) (sym c.as_slice.ensures) in
    on_err _ (front_within (g.W.Write.contents c.args.out.now.writer.now) (g.W.Write.contents c.write_entry.new.out.writer.now)
    (g.W.Write.contents c.put.new.self.writer.now) (element_of g.B.TermBank.store p i) element (44 ∷ []) [] text
    c.in_ok-write_entry.ensures.written c.in_err-put.ensures.front)
