use Rattle.std.proofs.Common.{◌≡◌, ℕ, ap, subst, false, Ok, Vec, Global, None, is_some}
use Rattle.rec_syntax.specs.Inner.Machine.{step}
use Rattle.rec_syntax.specs.Parts.{spec_of}
use Rattle.rec_syntax.specs.Lexemes.{tokens_from, token_of, behind}
use Rattle.rec_syntax.specs.Inner.Reader.{state_of, due_of}
use Rattle.rec_syntax.proofs.AnsweringLemmas.{reads_on}
use Rattle.rec_syntax.proofs.ReadingLemmas.{moved}
use Rattle.rec_syntax.proofs.ExpectingLemmas.{Reached, none_since, refused_state, ended_state, reached_next}
use Rattle.rec_syntax.proofs.reader.Reader.read_to_fault.Goals as goal

pub returns-then-not-may_take-clause-reached : goal.returns-then-not-may_take-clause-reached
returns-then-not-may_take-clause-reached c =
    let bytes = c.args.self.now.source.items in
    let l = c.loop-lexeme in
    let x = c.next-lexeme.result in
    let y = spec_of bytes l.self.sections in
    let cut = rw (c.deref.ensures.value, l.invariant.same) at c.next-lexeme.ensures.first in
    let text = l.self.source.items in
    let took : c.may_take.result ≡ is_some (step (due_of text l.due l.self) y (token_of text x.kind)) = c.may_take.ensures y in
    let refused : is_some (step (due_of text l.due l.self) y (token_of text x.kind)) ≡ false = cc (took, c.if-not-may_take.true) in
    let here : is_some (step (due_of bytes l.due l.self) y (token_of bytes x.kind)) ≡ false =
    subst (λ (v : Vec ℕ Global). is_some (step (due_of v.items l.due l.self) y (token_of v.items x.kind)) ≡ false) l.invariant.same refused in
    let m : step (due_of bytes l.due l.self) y (token_of bytes x.kind) ≡ None = none_since (step (due_of bytes l.due l.self) y (token_of bytes x.kind)) here in
    refused_state bytes (state_of bytes l.due l.self) (tokens_from bytes l.from) (behind bytes x.kind x.to) (token_of bytes x.kind) x.at
    l.invariant.follows cut m

pub returns-in-End-clause-reached : goal.returns-in-End-clause-reached
returns-in-End-clause-reached c =
    let bytes = c.args.self.now.source.items in
    let l = c.loop-lexeme in
    let x = c.next-lexeme.result in
    let r = c.step.new.self in
    let cut = rw (c.deref.ensures.value, l.invariant.same, c.in-End.is) at c.next-lexeme.ensures.first in
    let moves = moved l.self.source.items bytes l.due l.self r x.kind (Ok c.in-Ok.due) (ap (λ (v : Vec ℕ Global). v.items) l.invariant.same)
    c.in-Ok.ensures.moves in
    let m = rw c.in-End.is at moves in
    ended_state bytes (state_of bytes l.due l.self) (state_of bytes c.in-Ok.due r) (tokens_from bytes l.from) x.at l.invariant.follows cut m.0

pub loop-lexeme-preserved : goal.loop-lexeme-preserved
loop-lexeme-preserved c =
    let bytes = c.args.self.now.source.items in
    let l = c.loop-lexeme in
    reads_on c.args.self.now.source (Reached bytes) (reached_next bytes) l.from l.due c.in-Ok.due l.self c.step.new.self c.next-lexeme.result
    c.deref.result.now l.invariant c.in_default.not-End
    c.deref.ensures.value c.next-lexeme.ensures.within c.next-lexeme.ensures.first c.in-Ok.ensures.moves c.step.ensures.same
