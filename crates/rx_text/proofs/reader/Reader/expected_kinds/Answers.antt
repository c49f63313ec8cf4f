use Rattle.std.proofs.Common.{◌≡◌, ◌∙◌, ap, get_or, reverse, take_all, arith}
use Rattle.std.specs.List.{filter}
use Rattle.std.proofs.lemmas.List.{append-nil}
use Rattle.std.proofs.lemmas.List.Elements.{filter_more}
use Rattle.rx_text.specs.Machine.{step}
use Rattle.rx_text.specs.Reader.{due_of, frames_of, owned}
use Rattle.rx_text.specs.Expected.{is_taken}
use Rattle.rx_text.specs.declared.token_kind.TokenKind.TheVariants.{Integer}
use Rattle.rx_text.proofs.ExpectingLemmas.{all_kinds, kinds_passing}
use Rattle.rx_text.proofs.reader.Reader.expected_kinds.Goals as goal
use Rattle.rx_text.proofs.reader.Reader.expected_kinds.Goals.{then-is_expected+in_ok-push, else-is_expected}

pub loop-kind-preserved : goal.loop-kind-preserved
loop-kind-preserved c made =
    let l = c.loop-kind in
    let r = c.args.self.now in
    let p = is_taken (step (due_of r.bytes.now c.args.due made) (frames_of r.bytes.now (reverse r.frames.items) (owned c.args.due made))) in
    let next : c.is_expected.result ≡ p (get_or all_kinds l.kind-index Integer) = c.is_expected.ensures made in
    let more = filter_more p all_kinds l.kind-index Integer c.loop-kind-test.true in
    let before = l.invariant made in
    elim c.if-is_expected.branch [
      | then-is_expected+in_ok-push w ↦ rw (w.kinds-is, w.in_ok-push.ensures.items) (grind (arith, more, before, next, w.if-is_expected.true, append-nil))
      | else-is_expected w ↦ rw w.kinds-is (grind (arith, more, before, next, w.if-is_expected.false, append-nil))
    ]

pub returns : goal.returns
returns c made k =
    let l = c.loop-kind in
    let r = c.args.self.now in
    let p = is_taken (step (due_of r.bytes.now c.args.due made) (frames_of r.bytes.now (reverse r.frames.items) (owned c.args.due made))) in
    let kept : l.kinds.items ≡ filter p all_kinds = l.invariant made
    ∙ ap (filter p) (take_all l.kind-index all_kinds (let test = c.loop-kind-test.false in omega (arith, test))) in
    rw kept (kinds_passing p k)
