use Rattle.std.proofs.Common.{◌≢◌, sym, ◌∙◌, arith}
use Rattle.std.specs.Prelude.{vec_len}
use Rattle.std.proofs.lemmas.Bool.{eqb-false}
use Rattle.rx_text.proofs.SteppingLemmas.{text_refused}
use Rattle.rx_text.proofs.reader.Reader.whole.Goals as goal

pub returns-else-is_empty-clause-moves : goal.returns-else-is_empty-clause-moves
returns-else-is_empty-clause-moves c =
    let r = c.args.self.now in
    let filled : vec_len r.frames ≢ 0 = eqb-false _ _ (sym c.is_empty.ensures ∙ c.if-is_empty.false) in
    rw c.in-End.is (text_refused r.bytes.now r.frames.items _ _ (omega (arith, r.frames.ok.0)))
