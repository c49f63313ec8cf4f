use Rattle.std.proofs.Common.{◌≡◌, ◌↔◌, ℕ, true, List, Contains, reverse, subst}
use Rattle.rx_text.specs.Machine.{step}
use Rattle.rx_text.specs.Reader.{made_of, due_of, frames_of, owned, state_of}
use Rattle.rx_text.specs.Expected.{is_taken, before}
use Rattle.rx_text.proofs.ExpectingLemmas.{may_stand}
use Rattle.rx_text.proofs.reader.expected.expected_at_fault.Goals as goal

pub returns-clause-expected : goal.returns-clause-expected
returns-clause-expected c at place k =
    let bytes = c.args.bytes.now in
    let d = c.in_ok-due.due in
    let r = c.in_ok-due.reader in
    let ks = c.in_ok-expected_kinds.field-0.items in
    let made = made_of bytes r.nodes.items in
    let stand = may_stand (before bytes at place) (state_of bytes d r.frames.items r.nodes.items) k (c.in_ok-due.ensures.reached at place) in
    let taken = c.in_ok-expected_kinds.ensures made k in
    let same : r.bytes.now ≡ bytes = c.in_ok-due.ensures.same in
    let here = subst (λ (bs : List ℕ). Contains ks k
    ↔ (is_taken (step (due_of bs d made) (frames_of bs (reverse r.frames.items) (owned d made))) k ≡ true)) same taken in
    (λ x. stand.0 (here.0 x), λ m. here.1 (stand.1 m))
