use Rattle.std.proofs.Common.{◌≡◌, ◌∙◌, ap, get_or, take_all, arith}
use Rattle.std.specs.List.{filter}
use Rattle.std.proofs.lemmas.List.{append-nil}
use Rattle.std.proofs.lemmas.List.Elements.{filter_more}
use Rattle.rec_syntax.specs.Inner.Machine.{step}
use Rattle.rec_syntax.specs.Inner.Reader.{due_of}
use Rattle.rec_syntax.specs.Expected.{is_taken}
use Rattle.rec_syntax.specs.declared.token_kind.TokenKind.TheVariants.{PlainWord}
use Rattle.rec_syntax.proofs.ExpectingLemmas.{all_kinds, kinds_passing}
use Rattle.rec_syntax.proofs.reader.Reader.expected_kinds.Goals as goal
use Rattle.rec_syntax.proofs.reader.Reader.expected_kinds.Goals.{then-is_expected+in_ok-push, else-is_expected}

pub loop-kind-preserved : goal.loop-kind-preserved
loop-kind-preserved c y =
    let l = c.loop-kind in
    let p = is_taken (step (due_of c.args.self.now.source.items c.args.due c.args.self.now) y) in
    let next : c.is_expected.result ≡ p (get_or all_kinds l.kind-index PlainWord) = c.is_expected.ensures y in
    let more = filter_more p all_kinds l.kind-index PlainWord c.loop-kind-test.true in
    let before = l.invariant y in
    elim c.if-is_expected.branch [
      | then-is_expected+in_ok-push w ↦ rw (w.kinds-is, w.in_ok-push.ensures.items) (grind (arith, more, before, next, w.if-is_expected.true, append-nil))
      | else-is_expected w ↦ rw w.kinds-is (grind (arith, more, before, next, w.if-is_expected.false, append-nil))
    ]

pub returns : goal.returns
returns c y k =
    let l = c.loop-kind in
    let p = is_taken (step (due_of c.args.self.now.source.items c.args.due c.args.self.now) y) in
    let kept : l.kinds.items ≡ filter p all_kinds = l.invariant y
    ∙ ap (filter p) (take_all l.kind-index all_kinds (let test = c.loop-kind-test.false in omega (arith, test))) in
    rw kept (kinds_passing p k)
