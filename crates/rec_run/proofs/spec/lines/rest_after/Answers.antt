use Rattle.std.proofs.Common.{◌≤◌, Some, ap, arith, length, sym, ◌∙◌}
use Rattle.std.proofs.lemmas.List.{drop_all}
use Rattle.rx_term.specs.Tree.{from_list, list_of}
use Rattle.rec_run.specs.GivenTerms.{given_at}
use Rattle.rec_run.proofs.GivenListLemmas.{front_there, no_front}
use Rattle.rec_run.proofs.spec.lines.rest_after.Goals as goal

pub loop-index-init : goal.loop-index-init
loop-index-init g c = record { left = c.requires.1.held }

pub returns-in_default : goal.returns-in_default
returns-in_default g c =
    let w = g.B.TermBank.store c.args.bank.now in
    let us = given_at w c.args.list in
    let i = c.loop-index._index in
    let all : length us ≤ i = no_front w us c.loop-index.rest i c.kind.result c.loop-index.invariant.left c.kind.ensures c.in_default.not-Cons in
    c.loop-index.invariant.left
    ∙ ap (λ vs. Some (list_of (from_list vs))) (drop_all i us all ∙ sym (drop_all c.args.count us (omega (arith, all, c.loop-index-test.true))))

pub loop-index-preserved : goal.loop-index-preserved
loop-index-preserved g c =
    let w = g.B.TermBank.store c.args.bank.now in
    let us = given_at w c.args.list in
    record {
      left = c.tail-rest.ensures ∙ (front_there c.requires.0 w us c.loop-index.rest c.loop-index._index c.requires.1.kept c.loop-index.invariant.left
          c.in-Cons.ensures).others;
    }
