use Rattle.std.proofs.Common.{◌≡◌, ◌∷◌, [], ◌++◌, ◌∙◌, sym, ap}
use Rattle.std.specs.Fmt.{decimal}
use Rattle.rx_text.specs.Canon.{canon}
use Rattle.rx_text.specs.Numbered.{reference}
use Rattle.rx_text.proofs.AppendingLemmas.{appends_both, err_within, front_of, front_within, ok_after, on_err}
use Rattle.rx_text.proofs.LeavingLemmas.{reference_text}
use Rattle.rx_text.proofs.writer.put_number.Goals as goal

pub returns-in_err-put-clause-front : goal.returns-in_err-put-clause-front
returns-in_err-put-clause-front g c =
    on_err _ (front_of (g.W.Write.contents c.args.out.now.writer.now) (g.W.Write.contents c.put.new.self.writer.now) (canon (reference c.args.number))
    (60 ∷ []) (decimal c.args.number ++ 62 ∷ []) (reference_text c.args.number) c.in_err-put.ensures.front)

pub returns-in_err-put-2-clause-front : goal.returns-in_err-put-2-clause-front
returns-in_err-put-2-clause-front g c =
    let digits = c.as_bytes.result.now in
    let same : digits ≡ decimal c.args.number = c.as_bytes.ensures.value ∙ c.format.ensures.text in
    on_err _ (front_within (g.W.Write.contents c.args.out.now.writer.now) (g.W.Write.contents c.put.new.self.writer.now)
    (g.W.Write.contents c.put-2.new.self.writer.now) (canon (reference c.args.number)) (60 ∷ []) digits (62 ∷ [])
    (reference_text c.args.number ∙ ap (λ xs. (60 ∷ []) ++ (xs ++ 62 ∷ [])) (sym same)) c.in_ok-put.ensures.written c.in_err-put-2.ensures.front)

pub returns-clause-written : goal.returns-clause-written
returns-clause-written g c =
    let old = g.W.Write.contents c.args.out.now.writer.now in
    let between = g.W.Write.contents c.put-2.new.self.writer.now in
    let digits = c.as_bytes.result.now in
    let same : digits ≡ decimal c.args.number = c.as_bytes.ensures.value ∙ c.format.ensures.text in
    ok_after c.put-3.result old between (g.W.Write.contents c.put-3.new.self.writer.now) (canon (reference c.args.number))
    (60 ∷ digits) (62 ∷ []) (reference_text c.args.number ∙ ap (λ xs. (60 ∷ []) ++ (xs ++ 62 ∷ [])) (sym same))
    (appends_both old (g.W.Write.contents c.put.new.self.writer.now) between (60 ∷ []) digits c.in_ok-put.ensures.written
    c.in_ok-put-2.ensures.written) c.put-3.ensures.written

pub returns-clause-front : goal.returns-clause-front
returns-clause-front g c =
    let old = g.W.Write.contents c.args.out.now.writer.now in
    let between = g.W.Write.contents c.put-2.new.self.writer.now in
    let digits = c.as_bytes.result.now in
    let same : digits ≡ decimal c.args.number = c.as_bytes.ensures.value ∙ c.format.ensures.text in
    err_within c.put-3.result old between (g.W.Write.contents c.put-3.new.self.writer.now) (canon (reference c.args.number))
    (60 ∷ digits) (62 ∷ []) [] (reference_text c.args.number ∙ ap (λ xs. (60 ∷ []) ++ (xs ++ 62 ∷ [])) (sym same))
    (appends_both old (g.W.Write.contents c.put.new.self.writer.now) between (60 ∷ []) digits c.in_ok-put.ensures.written
    c.in_ok-put-2.ensures.written) c.put-3.ensures.front
