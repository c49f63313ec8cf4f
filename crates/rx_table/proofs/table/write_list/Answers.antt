use Rattle.std.proofs.Common.{[], ◌∷◌, ◌++◌, append_assoc, ap, refl}
use Rattle.rx_term.specs.Walks.{held_tree}
use Rattle.rx_text.specs.Canon.{canon}
use Rattle.rx_text.specs.Numbered.{written}
use Rattle.rx_text.proofs.AppendingLemmas.{appends_both, front_of, front_within, on_err}
use Rattle.rx_table.specs.Inner.Elements.{elements_of, list_text, style_of}
use Rattle.rx_table.proofs.table.write_list.Goals as goal

pub returns-in_err-put-clause-front : goal.returns-in_err-put-clause-front
returns-in_err-put-clause-front g c =
    let p = c.args.printer.now in
    let w = g.B.TermBank.store p.bank.now in
    let t = canon (written (style_of p.numbers w) (held_tree w c.args.t)) in
    let es = elements_of g.B.TermBank.store p in
    on_err _ (front_of (g.W.Write.contents c.args.out.now.writer.now) (g.W.Write.contents c.put.new.self.writer.now)
    (list_text g.B.TermBank.store p (held_tree w c.args.t)) (91 ∷ []) ((es ++ t) ++ 93 ∷ []) refl c.in_err-put.ensures.front)

pub returns-in_err-write_elements-clause-front : goal.returns-in_err-write_elements-clause-front
returns-in_err-write_elements-clause-front g c =
    let p = c.args.printer.now in
    let w = g.B.TermBank.store p.bank.now in
    let t = canon (written (style_of p.numbers w) (held_tree w c.args.t)) in
    let es = elements_of g.B.TermBank.store p in
    on_err _ (front_within (g.W.Write.contents c.args.out.now.writer.now) (g.W.Write.contents c.put.new.self.writer.now)
    (g.W.Write.contents c.write_elements.new.out.writer.now) (list_text g.B.TermBank.store p (held_tree w c.args.t)) (91 ∷ []) es (t ++ 93 ∷ [])
    (ap (λ xs. 91 ∷ xs) (append_assoc es t (93 ∷ []))) c.in_ok-put.ensures.written c.in_err-write_elements.ensures.front)

pub returns-in_err-write_term-clause-front : goal.returns-in_err-write_term-clause-front
returns-in_err-write_term-clause-front g c =
    let p = c.args.printer.now in
    let w = g.B.TermBank.store p.bank.now in
    let t = canon (written (style_of p.numbers w) (held_tree w c.args.t)) in
    let es = elements_of g.B.TermBank.store p in
    let old = g.W.Write.contents c.args.out.now.writer.now in
    let between = g.W.Write.contents c.write_elements.new.out.writer.now in
    on_err _ (front_within old between (g.W.Write.contents c.write_term.new.out.writer.now)
    (list_text g.B.TermBank.store p (held_tree w c.args.t)) (91 ∷ es) t (93 ∷ []) (append_assoc (91 ∷ es) t (93 ∷ []))
    (appends_both old (g.W.Write.contents c.put.new.self.writer.now) between (91 ∷ []) es c.in_ok-put.ensures.written
    c.in_ok-write_elements.ensures.written) c.in_err-write_term.ensures.front)

pub returns-in_err-put-2-clause-front : goal.returns-in_err-put-2-clause-front
returns-in_err-put-2-clause-front g c =
    let p = c.args.printer.now in
    let w = g.B.TermBank.store p.bank.now in
    let t = canon (written (style_of p.numbers w) (held_tree w c.args.t)) in
    let es = elements_of g.B.TermBank.store p in
    let old = g.W.Write.contents c.args.out.now.writer.now in
    let elements = g.W.Write.contents c.write_elements.new.out.writer.now in
    let between = g.W.Write.contents c.write_term.new.out.writer.now in
    on_err _ (front_within old between (g.W.Write.contents c.put-2.new.self.writer.now)
    (list_text g.B.TermBank.store p (held_tree w c.args.t)) ((91 ∷ es) ++ t) (93 ∷ []) [] refl
    (appends_both old elements between (91 ∷ es) t (appends_both old (g.W.Write.contents c.put.new.self.writer.now) elements (91 ∷ []) es
    c.in_ok-put.ensures.written c.in_ok-write_elements.ensures.written) c.in_ok-write_term.ensures.written) c.in_err-put-2.ensures.front)
