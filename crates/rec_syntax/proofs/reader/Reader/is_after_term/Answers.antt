use Rattle.std.proofs.Common.{◌≡◌, ◌∙◌, false, sym, reverse}
use Rattle.std.specs.Prelude.{◌==◌}
use Rattle.rec_syntax.specs.Inner.Reader.{role_of}
use Rattle.rec_syntax.proofs.ExpectingLemmas.{within_call, calls_stand, is_going_on, not_goes_on}
use Rattle.rec_syntax.proofs.reader.Reader.is_after_term.Goals as goal

pub returns-in-Comma : goal.returns-in-Comma
returns-in-Comma c =
    let r = c.args.self.now in
    let some : (r.calls.len == 0) ≡ false = sym c.is_empty.ensures ∙ c.if-is_empty.false in
    λ t y made.
    let within = within_call r.source.items (role_of r.source.items r.role) t (reverse r.calls.items) made y c.args.kind
    (calls_stand r.calls.items r.calls.len r.calls.ok.0 some) in
    sym (within ∙ is_going_on c.args.kind c.in-Comma.is)

pub returns-in_default : goal.returns-in_default
returns-in_default c =
    let r = c.args.self.now in
    let some : (r.calls.len == 0) ≡ false = sym c.is_empty.ensures ∙ c.if-is_empty.false in
    λ t y made.
    let within = within_call r.source.items (role_of r.source.items r.role) t (reverse r.calls.items) made y c.args.kind
    (calls_stand r.calls.items r.calls.len r.calls.ok.0 some) in
    sym (within ∙ not_goes_on c.args.kind c.in_default.not-Comma c.in_default.not-Close)
