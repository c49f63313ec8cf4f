use Rattle.std.proofs.Common.{◌≡◌, ◌++◌, ◌∙◌, Option, Some, ap, arith, inl, inr, refl, subst, sym}
use Rattle.std.proofs.lemmas.List.{length-append}
use Rattle.rx_text.specs.Input.{remaining_in}
use Rattle.std.specs.Prelude.{MatchOption, Ok}
use Rattle.rec_serve.specs.Inner.Reading.{left_of}
use Rattle.rec_serve.proofs.CauseLemmas.{on_read, told_at, uncounted_line, write_on}
use Rattle.rec_serve.proofs.KeptLemmas.{at_end, begins_keeps, begins_taken, keeps_both, splits_taken}
use Rattle.rec_serve.proofs.requests.next_request.Goals as goal

pub returns-in_err-refill-clause-kept : goal.returns-in_err-refill-clause-kept
returns-in_err-refill-clause-kept g c = keeps_both _ _ _ c.loop-piece.invariant.kept c.refill.ensures.kept

pub returns-then-not-branch-clause-request : goal.returns-then-not-branch-clause-request
returns-then-not-branch-clause-request g c =
    let old = left_of c.args.ahead.now (remaining_in g.R.Read.remaining c.args.reader.now) in
    let mid = left_of c.loop-piece.ahead (remaining_in g.R.Read.remaining c.loop-piece.reader) in
    let known = remaining_in g.R.Read.remaining c.refill.new.reader in
    let a = c.refill.new.self in
    let inv = c.loop-piece.invariant in
    at_end c.last.result c.loop-piece.request old known a inv.line
    (begins_keeps old mid (left_of a known) inv.line inv.begins c.refill.ensures.left)
    (c.in_ok-refill.ensures.none (ap Ok c.if-not-branch.true)) (c.in_ok-refill.ensures.end (ap Ok c.if-not-branch.true)) inv.is c.last.ensures

pub returns-then-not-branch-clause-kept : goal.returns-then-not-branch-clause-kept
returns-then-not-branch-clause-kept g c = keeps_both _ _ _ c.loop-piece.invariant.kept c.refill.ensures.kept

-- a request that was found
found_some : {X : Type 0} (P : Type 0) (Q : X → Type 0) (o : Option X) (x : X) → o ≡ Some x → Q x → MatchOption o P Q
found_some P Q o x e h = subst (λ z. MatchOption z P Q) (sym e) h

pub returns-then-take_piece-clause-request : goal.returns-then-take_piece-clause-request
returns-then-take_piece-clause-request g c =
    let old = left_of c.args.ahead.now (remaining_in g.R.Read.remaining c.args.reader.now) in
    let mid = left_of c.loop-piece.ahead (remaining_in g.R.Read.remaining c.loop-piece.reader) in
    let known = remaining_in g.R.Read.remaining c.refill.new.reader in
    let inv = c.loop-piece.invariant in
    let piece = c.if-take_piece.ensures in
    found_some _ _ c.ended.result c.take_piece.new.request c.ended.ensures (
      inv.line ++ piece.0,
      piece.2 inv.line inv.is,
      splits_taken old known c.refill.new.self c.take_piece.new.self inv.line piece.0
          (begins_keeps old mid (left_of c.refill.new.self known) inv.line inv.begins c.refill.ensures.left) piece.1,
    )

pub returns-then-take_piece-clause-kept : goal.returns-then-take_piece-clause-kept
returns-then-take_piece-clause-kept g c = keeps_both _ _ _ c.loop-piece.invariant.kept c.refill.ensures.kept

pub loop-piece-preserved : goal.loop-piece-preserved
loop-piece-preserved g c =
    let old = left_of c.args.ahead.now (remaining_in g.R.Read.remaining c.args.reader.now) in
    let mid = left_of c.loop-piece.ahead (remaining_in g.R.Read.remaining c.loop-piece.reader) in
    let known = remaining_in g.R.Read.remaining c.refill.new.reader in
    let inv = c.loop-piece.invariant in
    let piece = c.if-take_piece.ensures in
    let size = length-append inv.line piece.0 in
    let some = piece.1.some refl (c.in_ok-refill.ensures.some (ap Ok c.if-not-branch.false)) in
    let long = inv.long in
    record {
      line = inv.line ++ piece.0;
      is = piece.2 inv.line inv.is;
      begins = begins_taken old known c.refill.new.self c.take_piece.new.self inv.line piece.0
          (begins_keeps old mid (left_of c.refill.new.self known) inv.line inv.begins c.refill.ensures.left) piece.1;
      kept = keeps_both _ _ _ inv.kept c.refill.ensures.kept;
      long = omega (arith, long, size, some);
      read = c.in_ok-refill.ensures.read_reports.1 ∙ inv.read;
      wrote = c.in_ok-refill.ensures.write_reports.1 ∙ inv.wrote;
      same_input = c.in_ok-refill.ensures.read_reports.0 ∙ inv.same_input;
      same_output = c.in_ok-refill.ensures.write_reports.0 ∙ inv.same_output;
    }

pub returns-in_err-refill-clause-read_reports : goal.returns-in_err-refill-clause-read_reports
returns-in_err-refill-clause-read_reports g c =
    let inv = c.loop-piece.invariant in
    let h = c.in_err-refill.ensures.read_reports in (
      h.0 ∙ inv.same_input,
      told_at c.from_residual.result _ _ _ c.from_residual.ensures.1 (on_read _ _ _ (λ k. inl k) h.1),
    )

pub returns-in_err-refill-clause-write_reports : goal.returns-in_err-refill-clause-write_reports
returns-in_err-refill-clause-write_reports g c =
    let inv = c.loop-piece.invariant in
    let h = c.in_err-refill.ensures.write_reports in (
      h.0 ∙ inv.same_output,
      write_on c.from_residual.result _ _ _ _ c.from_residual.ensures.1 inv.wrote h.1,
    )

pub returns-clause-read_reports : goal.returns-clause-read_reports
returns-clause-read_reports g c =
    let inv = c.loop-piece.invariant in
    let many = c.loop-piece-test.false in
    let long = inv.long in (
      inv.same_input,
      inr (uncounted_line _ _ inv.line inv.begins (omega (arith, many, long))),
    )
