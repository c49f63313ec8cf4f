use Rattle.std.proofs.Common.{◌≡◌, IfErr, IfOk, List, OnOk, subst, sym}
use Rattle.std.specs.Prelude.{ℕ}
use Rattle.std.proofs.lemmas.Result.{IfErr-weaker}
use Rattle.rx_term.specs.Tree.{Tree}
use Rattle.rx_text.specs.Output.{Writes, contents_of}
use Rattle.rx_run.specs.Run.{Stops}
use Rattle.rx_run.proofs.ErrorLemmas.{on_ok_of}
use Rattle.rec_syntax.specs.Syntax.{Spec}
use Rattle.rec_run.specs.Output.{counts_of}
use Rattle.rec_run.specs.declared.options.ValueForm.TheVariants.{Plain}
use Rattle.rec_trace_run.specs.Inner.Telling.{AreGivenTerms, IsTelling}
use Rattle.rec_trace_run.specs.Traces.{shown_by, traces}
use Rattle.rec_trace_run.proofs.due.write_prepared.Goals as goal

pub write_over-requires-clause-given : goal.write_over-requires-clause-given
write_over-requires-clause-given g c =
    (c.requires.given.0, subst (λ (z : Spec). AreGivenTerms z c.requires.given.0 c.args.prepared.now.terms) (sym c.in-Ok.ensures.spec) c.requires.given.1)

pub returns-in-Ok-clause-ok : goal.returns-in-Ok-clause-ok
returns-in-Ok-clause-ok g c =
    let telling = c.args.prepared.now.telling in
    let terms = c.args.prepared.now.terms in
    let k = subst (λ (z : Spec). OnOk c.write_over.result.end ((source : List ℕ) (us : List Tree) → IsTelling source z telling → AreGivenTerms z us terms
    → Writes g.W.Write.contents c.args.out.now c.write_over.new.out (traces source z us (shown_by telling.options) telling.options.run.steps)))
    c.in-Ok.ensures.spec c.write_over.ensures.ok in
    on_ok_of c.write_over.result.end (λ h us given. h c.args.checked.source us c.requires.telling given) k

pub returns-in-Ok-clause-err : goal.returns-in-Ok-clause-err
returns-in-Ok-clause-err g c =
    let telling = c.args.prepared.now.telling in
    let terms = c.args.prepared.now.terms in
    let k = subst (λ (z : Spec). IfErr c.write_over.result.end (λ fault. (source : List ℕ) (us : List Tree) → IsTelling source z telling
    → AreGivenTerms z us terms → Stops fault (traces source z us (shown_by telling.options) telling.options.run.steps)
    (contents_of g.W.Write.contents c.args.out.now) (contents_of g.W.Write.contents c.write_over.new.out))) c.in-Ok.ensures.spec c.write_over.ensures.err in
    IfErr-weaker c.write_over.result.end _ _ (λ fault h us given. h c.args.checked.source us c.requires.telling given) k

pub returns-in-Ok-clause-counts : goal.returns-in-Ok-clause-counts
returns-in-Ok-clause-counts g c =
    let terms = c.args.prepared.now.terms in
    let asked = c.args.prepared.now.telling.options in
    subst (λ (z : Spec). IfOk c.write_over.result.end (λ counts. (us : List Tree) → AreGivenTerms z us terms
    → counts ≡ counts_of asked.terms z us Plain asked.run.steps)) c.in-Ok.ensures.spec c.write_over.ensures.counts
