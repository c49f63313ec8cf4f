use Rattle.std.proofs.Common.{subst}
use Rattle.rx_term.specs.declared.Term.{Term}
use Rattle.rx_text.specs.Verdict.{Verdict, IsVerdict}
use Rattle.rx_run.specs.TermRuns.{IsReadingOf}
use Rattle.rx_run.specs.declared.ending.Source.TheVariants as source
use Rattle.rx_run.specs.declared.refusal.Reading.{Reading}
use Rattle.rx_run.proofs.PatternDueLemmas.{if_ok_map, spelt_pattern, unspelt_pattern}
use Rattle.rx_run.proofs.pattern.reading.read_pattern_in.Goals as goal

pub returns-in-Refused-clause-read : goal.returns-in-Refused-clause-read
returns-in-Refused-clause-read g c =
    let w = g.B.TermBank.store c.parse.new.bank in
    let v = subst (λ (r : Reading Term). (v : Verdict) × IsReadingOf source.Pattern w r v × IsVerdict c.args.text.now v) c.in-Refused.is
    c.in_ok-refusal.ensures.read in
    unspelt_pattern c.args.text.now c.in-Refused.refusal v.0 v.1 v.2

pub returns-in-Good-clause-read : goal.returns-in-Good-clause-read
returns-in-Good-clause-read g c =
    let w = g.B.TermBank.store c.parse.new.bank in
    let v = subst (λ (r : Reading Term). (v : Verdict) × IsReadingOf source.Pattern w r v × IsVerdict c.args.text.now v) c.in-Good.is
    c.in_ok-refusal.ensures.read in
    if_ok_map c.pattern_of.result _ _ (λ reading h. spelt_pattern source.Pattern w c.args.text.now c.in-Good.t v.0 reading v.1 v.2 h) c.pattern_of.ensures.read
