use Rattle.std.proofs.Common.{List, ℕ, ◌++◌, subst}
use Rattle.std.specs.Prelude.{codes}
use Rattle.std.specs.Io.KnownBytes.{Appends}
use Rattle.rx_text.specs.Written.{AppendsFront}
use Rattle.rx_text.proofs.AppendingLemmas.{appends_both, front_after, front_before, on_err}
use Rattle.rec_check.specs.Lines.{code_of, label_of, severity_of, shown_text, spot_text}
use Rattle.rec_check.specs.declared.finding.Kind.{Kind}
use Rattle.rec_check.proofs.lines.write_diagnostic.Goals as goal

abbrev label_text : Kind → List ℕ
label_text k = severity_of k ++ label_of k

abbrev code_text : Kind → List ℕ
code_text k = codes " [" ++ code_of k ++ codes "]\n"

pub returns-in_err-put-clause-err : goal.returns-in_err-put-clause-err
returns-in_err-put-clause-err g c =
    let name = c.args.name.now in
    let two = name ++ spot_text c.args.spot in
    let three = two ++ label_text c.args.diagnostic.now.kind in
    let four = three ++ shown_text c.args.diagnostic.now.shown.items in
    on_err c.from_residual.result
    (front_before _ _ four (code_text c.args.diagnostic.now.kind) (front_before _ _ three (shown_text c.args.diagnostic.now.shown.items)
    (front_before _ _ two (label_text c.args.diagnostic.now.kind) (front_before _ _ name (spot_text c.args.spot) c.in_err-put.ensures.front))))

pub returns-in_err-write_spot-clause-err : goal.returns-in_err-write_spot-clause-err
returns-in_err-write_spot-clause-err g c =
    let name = c.args.name.now in
    let two = name ++ spot_text c.args.spot in
    let three = two ++ label_text c.args.diagnostic.now.kind in
    let four = three ++ shown_text c.args.diagnostic.now.shown.items in
    on_err c.from_residual-in_err-write_spot.result
    (front_before _ _ four (code_text c.args.diagnostic.now.kind) (front_before _ _ three (shown_text c.args.diagnostic.now.shown.items)
    (front_before _ _ two (label_text c.args.diagnostic.now.kind) (front_after _ _ _ name (spot_text c.args.spot) c.in_ok-put.ensures.written
    c.in_err-write_spot.ensures.err))))

pub returns-in_err-write_label-clause-err : goal.returns-in_err-write_label-clause-err
returns-in_err-write_label-clause-err g c =
    let name = c.args.name.now in
    let two = name ++ spot_text c.args.spot in
    let three = two ++ label_text c.args.diagnostic.now.kind in
    let four = three ++ shown_text c.args.diagnostic.now.shown.items in
    on_err c.from_residual-in_err-write_label.result
    (front_before _ _ four (code_text c.args.diagnostic.now.kind) (front_before _ _ three (shown_text c.args.diagnostic.now.shown.items)
    (front_after _ _ _ two (label_text c.args.diagnostic.now.kind) (appends_both _ _ _ name (spot_text c.args.spot) c.in_ok-put.ensures.written
    c.in_ok-write_spot.ensures.ok)
    c.in_err-write_label.ensures.err)))

pub returns-in_err-write_shown-clause-err : goal.returns-in_err-write_shown-clause-err
returns-in_err-write_shown-clause-err g c =
    let name = c.args.name.now in
    let two = name ++ spot_text c.args.spot in
    let three = two ++ label_text c.args.diagnostic.now.kind in
    let four = three ++ shown_text c.args.diagnostic.now.shown.items in
    on_err c.from_residual-in_err-write_shown.result
    (front_before _ _ four (code_text c.args.diagnostic.now.kind)
    (front_after _ _ _ three (shown_text c.args.diagnostic.now.shown.items)
    (appends_both _ _ _ two (label_text c.args.diagnostic.now.kind) (appends_both _ _ _ name (spot_text c.args.spot) c.in_ok-put.ensures.written
    c.in_ok-write_spot.ensures.ok)
    c.in_ok-write_label.ensures.ok)
    (subst (λ s. AppendsFront (shown_text s) (g.W.Write.contents c.write_label.new.out.writer.now) (g.W.Write.contents c.write_shown.new.out.writer.now))
    c.deref.ensures.value c.in_err-write_shown.ensures.err)))

pub returns-in_err-write_code-clause-err : goal.returns-in_err-write_code-clause-err
returns-in_err-write_code-clause-err g c =
    let name = c.args.name.now in
    let two = name ++ spot_text c.args.spot in
    let three = two ++ label_text c.args.diagnostic.now.kind in
    let four = three ++ shown_text c.args.diagnostic.now.shown.items in
    on_err c.from_residual-in_err-write_code.result
    (front_after _ _ _ four (code_text c.args.diagnostic.now.kind)
    (appends_both _ _ _ three (shown_text c.args.diagnostic.now.shown.items)
    (appends_both _ _ _ two (label_text c.args.diagnostic.now.kind) (appends_both _ _ _ name (spot_text c.args.spot) c.in_ok-put.ensures.written
    c.in_ok-write_spot.ensures.ok)
    c.in_ok-write_label.ensures.ok)
    (subst (λ s. Appends (g.W.Write.contents c.write_label.new.out.writer.now) (g.W.Write.contents c.write_shown.new.out.writer.now) (shown_text s))
    c.deref.ensures.value c.in_ok-write_shown.ensures.ok))
    c.in_err-write_code.ensures.err)

pub returns-clause-ok : goal.returns-clause-ok
returns-clause-ok g c =
    let name = c.args.name.now in
    let two = name ++ spot_text c.args.spot in
    let three = two ++ label_text c.args.diagnostic.now.kind in
    let four = three ++ shown_text c.args.diagnostic.now.shown.items in
    appends_both _ _ _ four (code_text c.args.diagnostic.now.kind)
    (appends_both _ _ _ three (shown_text c.args.diagnostic.now.shown.items)
    (appends_both _ _ _ two (label_text c.args.diagnostic.now.kind) (appends_both _ _ _ name (spot_text c.args.spot) c.in_ok-put.ensures.written
    c.in_ok-write_spot.ensures.ok)
    c.in_ok-write_label.ensures.ok)
    (subst (λ s. Appends (g.W.Write.contents c.write_label.new.out.writer.now) (g.W.Write.contents c.write_shown.new.out.writer.now) (shown_text s))
    c.deref.ensures.value c.in_ok-write_shown.ensures.ok))
    c.in_ok-write_code.ensures.ok
