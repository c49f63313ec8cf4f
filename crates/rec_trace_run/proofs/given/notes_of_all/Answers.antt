use Rattle.std.proofs.Common.{◌<◌, ◌≤◌, ap, arith, length, subst, sym, take, take_all, ◌∙◌}
use Rattle.std.specs.Prelude.{is_some}
use Rattle.rx_term.specs.Tree.{list_of, none}
use Rattle.rec_sorts.specs.Numbering.{Pairwise}
use Rattle.rec_run.specs.GivenTerms.{given_at}
use Rattle.rec_trace_run.specs.Inner.Telling.{HasNotes}
use Rattle.rec_trace_run.proofs.GivenLemmas.{first-item, no-notes, notes-more, other-items}
use Rattle.rec_trace_run.proofs.given.notes_of_all.Goals as goal

pub loop-index-init : goal.loop-index-init
loop-index-init g c =
    let us = given_at (g.B.TermBank.store c.args.bank.now) c.args.list in
    record {
      left = c.requires.held;
      made = subst (λ xs. Pairwise HasNotes xs (take 0 us)) (sym c.new-notes.ensures.items) (no-notes us);
    }

pub head-requires : goal.head-requires
head-requires g c =
    let w = g.B.TermBank.store c.args.bank.now in
    let us = given_at w c.args.list in
    let count = c.requires.count in
    let low : c.loop-index._index < length us = omega (arith, count) in
    ap is_some (first-item w us c.loop-index.rest c.loop-index._index (list_of none) low c.loop-index.invariant.left)

pub notes_of-requires : goal.notes_of-requires
notes_of-requires g c =
    let w = g.B.TermBank.store c.args.bank.now in
    let us = given_at w c.args.list in
    let count = c.requires.count in
    let low : c.loop-index._index < length us = omega (arith, count) in
    ap is_some (c.head.ensures ∙ first-item w us c.loop-index.rest c.loop-index._index (list_of none) low c.loop-index.invariant.left)

pub tail-rest-requires : goal.tail-rest-requires
tail-rest-requires g c =
    let w = g.B.TermBank.store c.args.bank.now in
    let us = given_at w c.args.list in
    let count = c.requires.count in
    let low : c.loop-index._index < length us = omega (arith, count) in
    ap is_some (other-items w us c.loop-index.rest c.loop-index._index (list_of none) low c.loop-index.invariant.left)

pub loop-index-preserved : goal.loop-index-preserved
loop-index-preserved g c =
    let w = g.B.TermBank.store c.args.bank.now in
    let us = given_at w c.args.list in
    let count = c.requires.count in
    let low : c.loop-index._index < length us = omega (arith, count) in
    record {
      left = c.tail-rest.ensures ∙ other-items w us c.loop-index.rest c.loop-index._index (list_of none) low c.loop-index.invariant.left;
      made = notes-more w us c.loop-index._index c.head.result c.loop-index.notes.items c.push.new.self.items c.in_ok-text.text low
          (c.head.ensures ∙ first-item w us c.loop-index.rest c.loop-index._index (list_of none) low c.loop-index.invariant.left)
          c.in_ok-push.ensures.items c.in_ok-text.ensures c.loop-index.invariant.made;
    }

pub returns : goal.returns
returns g c =
    let us = given_at (g.B.TermBank.store c.args.bank.now) c.args.list in
    let count = c.requires.count in
    let all : length us ≤ c.loop-index._index = omega (arith, count) in
    subst (λ ts. Pairwise HasNotes c.loop-index.notes.items ts) (take_all c.loop-index._index us all) c.loop-index.invariant.made
