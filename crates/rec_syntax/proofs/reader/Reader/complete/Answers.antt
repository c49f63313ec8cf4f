use Rattle.std.proofs.Common.{List, map, subst, ◌∙◌}
use Rattle.rec_syntax.specs.Nodes.{spelled_by}
use Rattle.rec_syntax.specs.Inner.Machine as machine
use Rattle.rec_syntax.specs.Lexemes.{token_of}
use Rattle.rec_syntax.specs.Parts.{node_of, spec_of}
use Rattle.rec_syntax.specs.Inner.Reader.{role_of, Moves}
use Rattle.rec_syntax.specs.declared.parts.Node.{Node}
use Rattle.rec_syntax.proofs.TermStackLemmas.{whole_term}
use Rattle.rec_syntax.proofs.reader.Reader.complete.Goals as goal

pub take_term-requires-clause-term : goal.take_term-requires-clause-term
take_term-requires-clause-term c =
    let r = c.args.self.now in
    whole_term r.source.items r.calls.items r.nodes.items _ c.requires.alone c.requires.state.due.stack (c.in_ok-nodes.ensures.items ∙ c.deref.ensures.value)

-- the copy spells the same term
pub returns-clause-moves : goal.returns-clause-moves
returns-clause-moves c =
    let r = c.args.self.now in
    let bytes = r.source.items in
    let spelled = λ (ns : List Node). spelled_by (map (node_of bytes) ns) in
    subst (λ (ns : List Node). Moves bytes (machine.complete (role_of bytes r.role) (spelled ns) (spec_of bytes r.sections)
    (token_of bytes c.args.token)) c.take_term.result c.take_term.new.self)
    (c.in_ok-nodes.ensures.items ∙ c.deref.ensures.value) c.take_term.ensures.moves
