use Rattle.std.proofs.Common.{◌∙◌}
use Rattle.std.specs.Prelude.{Vec}
use Rattle.std.specs.declared.alloc.Global.{Global}
use Rattle.rx_term.specs.Tree.{Tree, from_list, list_of}
use Rattle.rec_sorts.specs.Evaluation.{term_of}
use Rattle.rec_sorts.specs.Numbering.{AreLetters}
use Rattle.rec_sorts.specs.declared.letters.Letter.{Letter}
use Rattle.rec_run.specs.GivenTerms.{given_at}
use Rattle.rec_trace_run.proofs.GivenLemmas.{elements-listed}
use Rattle.rec_trace_run.proofs.TaskLemmas.{pairwise-length}
use Rattle.rec_trace_run.proofs.given.listed_terms.Goals as goal

pub notes_of_all-requires-clause-count : goal.notes_of_all-requires-clause-count
notes_of_all-requires-clause-count g c =
    let us = given_at (g.B.TermBank.store c.args.bank.now) c.args.list in
    c.len.ensures ∙ c.in_ok-letters.letters.ok.0
    ∙ pairwise-length (λ (ls : Vec Letter Global) (u : Tree). AreLetters c.args.checked.now.spec ls.items (term_of u)) c.in_ok-letters.letters.items
    us (c.in_ok-letters.ensures.letters (list_of (from_list us)) us c.requires.held (elements-listed us))

pub returns : goal.returns
returns g c =
    let us = given_at (g.B.TermBank.store c.args.bank.now) c.args.list in
    record {
      letters = c.in_ok-letters.ensures.letters (list_of (from_list us)) us c.requires.held (elements-listed us);
      notes = c.in_ok-notes.ensures;
      kept = c.requires.kept;
    }
