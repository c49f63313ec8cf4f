use Rattle.std.proofs.Common.{◌≡◌, ◌+◌, ◌<◌, ◌∷◌, ◌++◌, ◌∙◌, [], Bool, Err, List, ap, if◌then◌else◌, length, not, subst, sym, take, ℕ}
use Rattle.rec_syntax.specs.Length.{longest}
use Rattle.rec_syntax.specs.Syntax.{Sourced}
use Rattle.rec_syntax.specs.declared.fault.SyntaxFault.{SyntaxFault}
use Rattle.rec_join.specs.Inner.Nodes.{specs_of}
use Rattle.rec_join.specs.Join.{AreSpelled, texts_of}
use Rattle.rec_join.proofs.JoinLemmas.{first_fault, placed_at, read_more}
use Rattle.rec_join.proofs.join.read_parts.Goals as goal

pub returns-in-Err-Long-clause-fault : goal.returns-in-Err-Long-clause-fault
returns-in-Err-Long-clause-fault c = first_fault (λ (text : List ℕ). longest < length text) c.args.parts.now
    c.loop-index.syntaxes.items c.loop-index.index _ c.loop-index.invariant
    (c.in-Err-Long.ensures.long.0 (ap (λ (f : SyntaxFault). Err f) c.in-Err-Long.field-0-is)) c.loop-index-test.true

pub returns-in-Err-Grammar-clause-fault : goal.returns-in-Err-Grammar-clause-fault
returns-in-Err-Grammar-clause-fault c = first_fault _ c.args.parts.now c.loop-index.syntaxes.items c.loop-index.index _
    c.loop-index.invariant (placed_at _ _ _ _ c.in-Err-Grammar.field-0-is c.in-Err-Grammar.at-is c.in-Err-Grammar.ensures.place)
    c.loop-index-test.true

pub loop-index-preserved : goal.loop-index-preserved
loop-index-preserved c =
    let before = c.loop-index.syntaxes.items in
    let ok = c.is_err.ensures.negation ∙ ap not c.if-is_err.false in
    let pushed : c.push.new.self.items ≡ before ++ c.in-Ok.syntax ∷ [] =
    c.push.ensures.items ∙ ap (λ (b : Bool). if b then before ++ c.in-Ok.syntax ∷ [] else before) ok in
    subst (λ (ss : List Sourced). AreSpelled (texts_of (take (c.loop-index.index + 1) c.args.parts.now)) (specs_of ss)) (sym pushed)
    (read_more c.args.parts.now before c.loop-index.index _ c.in-Ok.syntax c.loop-index.invariant c.in-Ok.ensures.spelled
    c.loop-index-test.true)
