use Rattle.std.proofs.Common.{◌≡◌, ℕ, sym, subst, false, List, reverse, is_some}
use Rattle.rx_text.specs.Machine.{step}
use Rattle.rx_text.specs.Lexemes.{tokens_after, token_of, behind}
use Rattle.rx_text.specs.Reader.{made_of, due_of, frames_of, owned, state_of, IsState}
use Rattle.rx_text.proofs.DecidingLemmas.{reads_on}
use Rattle.rx_text.proofs.ExpectingLemmas.{Reached, none_since, refused_state, ended_state, reached_next}
use Rattle.rx_text.proofs.reader.expected.read_to_fault.Goals as goal

pub step-requires-clause-state : goal.step-requires-clause-state
step-requires-clause-state c =
    let l = c.loop-lexeme in
    subst (λ (bs : List ℕ). IsState bs l.due l.reader.frames.items l.reader.nodes.items) (sym l.invariant.same) l.invariant.state

pub returns-then-not-may_take-clause-reached : goal.returns-then-not-may_take-clause-reached
returns-then-not-may_take-clause-reached c =
    let bytes = c.args.bytes.now in
    let l = c.loop-lexeme in
    let x = c.next-lexeme.result in
    let made = made_of bytes l.reader.nodes.items in
    let text = l.reader.bytes.now in
    let took : c.may_take.result ≡ is_some (step (due_of text l.due made) (frames_of text (reverse l.reader.frames.items) (owned l.due made))
    (token_of text x.kind)) = c.may_take.ensures made in
    let fails : is_some (step (due_of text l.due made) (frames_of text (reverse l.reader.frames.items) (owned l.due made)) (token_of text x.kind))
    ≡ false = cc (took, c.if-not-may_take.true) in
    let here = subst (λ (bs : List ℕ).
    is_some (step (due_of bs l.due made) (frames_of bs (reverse l.reader.frames.items) (owned l.due made)) (token_of bs x.kind)) ≡ false)
    l.invariant.same fails in
    let m = none_since (step (due_of bytes l.due made) (frames_of bytes (reverse l.reader.frames.items) (owned l.due made)) (token_of bytes x.kind)) here in
    refused_state bytes (state_of bytes l.due l.reader.frames.items l.reader.nodes.items) (tokens_after bytes l.from) (behind bytes x.kind x.to)
    (token_of bytes x.kind) x.at l.invariant.follows (rw (l.invariant.same) at c.next-lexeme.ensures.first) m

pub returns-in-End-clause-reached : goal.returns-in-End-clause-reached
returns-in-End-clause-reached c =
    let bytes = c.args.bytes.now in
    let l = c.loop-lexeme in
    let m = rw (l.invariant.same, c.in-End.is) at c.in-Ok.ensures.moves in
    ended_state bytes (state_of bytes l.due l.reader.frames.items l.reader.nodes.items)
    (state_of bytes c.in-Ok.due c.step.new.self.frames.items c.step.new.self.nodes.items) (tokens_after bytes l.from) c.next-lexeme.result.at
    l.invariant.follows (rw (l.invariant.same, c.in-End.is) at c.next-lexeme.ensures.first) m.0

pub loop-lexeme-preserved : goal.loop-lexeme-preserved
loop-lexeme-preserved c =
    let bytes = c.args.bytes.now in
    let l = c.loop-lexeme in
    reads_on bytes (Reached bytes) (reached_next bytes) l.from l.due c.in-Ok.due l.reader c.step.new.self c.next-lexeme.result l.invariant c.in_default.not-End
    c.next-lexeme.ensures.within c.next-lexeme.ensures.advances c.next-lexeme.ensures.first c.in-Ok.ensures.moves c.step.ensures.same c.in-Ok.ensures.few
