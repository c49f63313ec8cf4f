use Rattle.std.proofs.Common.{◌≡◌, ℕ, ◌∙◌, ap, sym, subst, refl, Some, Ok, Err, Vec, Global, arith}
use Rattle.rec_syntax.specs.Grammar.{SpecText}
use Rattle.rec_syntax.specs.Parts.{spec_of}
use Rattle.rec_syntax.specs.Inner.Machine.{State, outcome}
use Rattle.rec_syntax.specs.Lexemes.{tokens_from, token_of, behind}
use Rattle.rec_syntax.specs.Inner.Reader.{state_of}
use Rattle.rec_syntax.proofs.AnsweringLemmas.{Decides, refused_at, spelled, turn, reads_on}
use Rattle.rec_syntax.proofs.ReadingLemmas.{moved}
use Rattle.rec_syntax.specs.declared.reader.Stop.TheVariants.{Refused}
use Rattle.rec_syntax.proofs.reader.Reader.read_text.Goals as goal

pub loop-due-init : goal.loop-due-init
loop-due-init c = record {
  within = omega arith;
  same = refl;
  state = c.requires.state;
  follows = ap (λ (x : State). outcome (Some x) 0 (tokens_from c.args.self.now.source.items 0)) c.requires.start;
}

pub returns-in-Err-Refused-clause-place : goal.returns-in-Err-Refused-clause-place
returns-in-Err-Refused-clause-place c =
    let bytes = c.args.self.now.source.items in
    let l = c.loop-due in
    let x = c.next-lexeme.result in
    let cut = rw (c.deref.ensures.value, l.invariant.same) at c.next-lexeme.ensures.first in
    let m = moved l.self.source.items bytes l.due l.self c.step.new.self x.kind (Err Refused) (ap (λ (v : Vec ℕ Global). v.items) l.invariant.same)
    (rw c.in-Err-Refused.field-0-is at c.in-Err-Refused.ensures.moves) in
    refused_at bytes (state_of bytes l.due l.self) (tokens_from bytes l.from) (behind bytes x.kind x.to) (token_of bytes x.kind) x.at l.invariant.follows cut m

pub returns-in-End-clause-spelled : goal.returns-in-End-clause-spelled
returns-in-End-clause-spelled c =
    let bytes = c.args.self.now.source.items in
    let l = c.loop-due in
    let x = c.next-lexeme.result in
    let r = c.step.new.self in
    let cut = rw (c.deref.ensures.value, l.invariant.same, c.in-End.is) at c.next-lexeme.ensures.first in
    let moves = moved l.self.source.items bytes l.due l.self r x.kind (Ok c.in-Ok.due) (ap (λ (v : Vec ℕ Global). v.items) l.invariant.same)
    c.in-Ok.ensures.moves in
    let m = rw c.in-End.is at moves in
    let text : SpecText bytes (spec_of bytes r.sections) = spelled bytes (state_of bytes l.due l.self) (state_of bytes c.in-Ok.due r)
    (tokens_from bytes l.from) x.at l.invariant.follows cut m.0 in
    let same : r.source ≡ c.args.self.now.source = c.step.ensures.same ∙ l.invariant.same in
    let read : SpecText bytes (spec_of r.source.items r.sections) = subst (λ (v : Vec ℕ Global). SpecText bytes (spec_of v.items r.sections)) (sym same) text in
    subst (SpecText bytes) (sym c.take_syntax.ensures.spec) read

pub loop-due-preserved : goal.loop-due-preserved
loop-due-preserved c =
    let bytes = c.args.self.now.source.items in
    let l = c.loop-due in
    reads_on c.args.self.now.source (Decides bytes) (turn bytes) l.from l.due c.in-Ok.due l.self c.step.new.self c.next-lexeme.result
    c.deref.result.now l.invariant c.in_default.not-End
    c.deref.ensures.value c.next-lexeme.ensures.within c.next-lexeme.ensures.first c.in-Ok.ensures.moves c.step.ensures.same
