use Rattle.std.proofs.Common.{◌≤◌, ◌+◌, length, refl, arith}
use Rattle.rec_syntax.specs.Parts.{spec_of}
use Rattle.rec_syntax.specs.Inner.Reader.{role_of}
use Rattle.rec_syntax.proofs.TermStackLemmas.{closes, goes_on, count_fits}
use Rattle.rec_syntax.proofs.reader.Reader.after.Goals as goal

pub overflow_add-call : goal.overflow_add-call
overflow_add-call c =
    let r = c.args.self.now in
    let fits : c.in-Some.call.count + 1 ≤ length r.nodes.items =
    count_fits r.source.items r.calls.items _ c.in-Some.call r.nodes.items c.in-Some.ensures.items c.requires.state.due.stack in
    omega (arith, r.nodes.ok.0)

pub overflow_add-call-in-Close : goal.overflow_add-call-in-Close
overflow_add-call-in-Close c =
    let r = c.args.self.now in
    let fits : c.in-Some.call.count + 1 ≤ length r.nodes.items =
    count_fits r.source.items r.calls.items _ c.in-Some.call r.nodes.items c.in-Some.ensures.items c.requires.state.due.stack in
    omega (arith, r.nodes.ok.0)

pub returns-in_ok-push-in-Comma-clause-moves : goal.returns-in_ok-push-in-Comma-clause-moves
returns-in_ok-push-in-Comma-clause-moves c =
    let r = c.args.self.now in
    let bytes = r.source.items in
    let h = c.requires.state in
    let one = goes_on bytes (role_of bytes r.role) (spec_of bytes r.sections) r.calls.items _ c.push.new.self.items c.in-Some.call _ r.nodes.items
    c.in-Some.ensures.items c.in_ok-push-in-Comma.ensures.items refl h.due.stack in
    rw (c.in-Comma.is) (one.0, record { sections = h.sections; due = record { role = h.due.role; stack = one.1 } })

pub returns-in_ok-push-in-Close-clause-moves : goal.returns-in_ok-push-in-Close-clause-moves
returns-in_ok-push-in-Close-clause-moves c =
    let r = c.args.self.now in
    let bytes = r.source.items in
    let h = c.requires.state in
    let one = closes bytes (role_of bytes r.role) (spec_of bytes r.sections) r.calls.items _ c.in-Some.call r.nodes.items
    c.push-in-Close.new.self.items c.in-Some.ensures.items c.in_ok-push-in-Close.ensures.items h.due.stack in
    rw (c.in-Close.is) (one.0, record { sections = h.sections; due = record { role = h.due.role; stack = one.1 } })
