use Rattle.std.proofs.Common.{◌≡◌, ℕ, ◌++◌, ◌+◌, ◌<◌, ◌^◌, List, [], Option, Some, ap, arith, length, subst, sym, ◌∙◌}
use Rattle.std.specs.Io.KnownBytes.{Appends}
use Rattle.rx_term.specs.Steps.{Keeps}
use Rattle.rx_term.proofs.KeepLemmas.{Keeps-trans}
use Rattle.rx_term.specs.Store.{Store}
use Rattle.rx_term.specs.declared.Term.{Term as Reference}
use Rattle.rec_syntax.specs.Syntax.{Spec}
use Rattle.rec_run.specs.EvaluatedLines.{ProtectsTerms}
use Rattle.rec_run.specs.GivenTerms.{given_at, given_by, given_lines}
use Rattle.rec_run.specs.Choice.{HasCounts, given_chosen, own_chosen}
use Rattle.rec_run.specs.Output.{Shown, chosen, counts_of, lines, shown_of}
use Rattle.rec_run.proofs.ChoiceLemmas.{length-both}
use Rattle.rec_run.proofs.LimitLineLemmas.{counts-both}
use Rattle.rec_run.specs.declared.options.TermChoice.{TermChoice}
use Rattle.rx_run.specs.Run.{Stops}
use Rattle.rx_run.specs.declared.ending.RunFault.{RunFault}
use Rattle.rec_run.proofs.EvaluatedLemmas.{same_terms, still_protects}
use Rattle.rx_run.proofs.LineFrontLemmas.{stops_before, stops_behind}
use Rattle.rec_run.proofs.SpecLineLemmas.{lines-both, newlines-own}
use Rattle.rx_text.proofs.AppendingLemmas.{appends_both}
use Rattle.std.proofs.Common.{append_assoc}
use Rattle.rec_run.specs.Reports.{given_report, report_of}
use Rattle.rec_run.proofs.ReportLemmas.{report-both}
use Rattle.rec_run.specs.Depth.{KeepsDepth}
use Rattle.rec_run.proofs.DepthLemmas.{depth-both}
use Rattle.rec_run.proofs.spec.lines.write_lines.Goals as goal

-- the chosen items of a list that stays
chosen_stays : (terms : TermChoice) (y z : Spec) (old new : Store) (list : Reference) → Keeps old new [] → z ≡ y → ProtectsTerms y old list
    → given_chosen terms (length z.terms) (given_at new list) ≡ given_chosen terms (length y.terms) (given_at old list)
chosen_stays terms y z old new list keeps same held =
    ap (λ x. given_chosen terms (length x.terms) (given_at new list)) same
    ∙ ap (given_chosen terms (length y.terms)) (same_terms y old new list keeps held)

-- all lines are the specification's own and, by what these left of the engine, those of the list
all_lines : (y z : Spec) (old new : Store) (given : Option Reference) (list : Reference) (shown : Shown) (n : ℕ)
    → Keeps old new [] → z ≡ y → given ≡ Some list → ProtectsTerms y old list
    → lines y (given_by old given) shown n ≡ lines y [] shown n ++ given_lines z shown n (given_chosen shown.terms (length z.terms) (given_at new list))
all_lines y z old new given list shown n keeps same is held =
    let us = given_chosen shown.terms (length z.terms) (given_at new list) in
    ap (λ r. lines y (given_by old r) shown n) is ∙ lines-both y (given_at old list) shown n
    ∙ ap (λ us. lines y [] shown n ++ given_lines y shown n us) (sym (chosen_stays shown.terms y z old new list keeps same held))
    ∙ ap (λ x. lines y [] shown n ++ given_lines x shown n us) (sym same)

-- what stopped within the specification's own lines stopped within all
own_stops : (y : Spec) (w : Store) (given : Option Reference) (shown : Shown) (n : ℕ) (fault : RunFault)
    (old new : Option (List ℕ)) → Stops fault (lines y [] shown n) old new
    → Stops fault (lines y (given_by w given) shown n) old new
own_stops y w given shown n fault old new s =
    let us = given_by w given in
    let more = given_lines y shown n (given_chosen shown.terms (length y.terms) us) in
    subst (λ text. Stops fault text old new) (sym (lines-both y us shown n)) (stops_before fault (lines y [] shown n) more old new s)

pub returns-in-Err-clause-err : goal.returns-in-Err-clause-err
returns-in-Err-clause-err g c =
    own_stops c.args.engine.now.spec (g.B.TermBank.store c.args.engine.now.bank) c.args.list (shown_of c.args.run.settings)
    c.args.run.settings.options.steps c.in-Err.fault _ _ c.in-Err.ensures.err

pub returns-in-None-clause-ok : goal.returns-in-None-clause-ok
returns-in-None-clause-ok g c =
    let y = c.args.engine.now.spec in
    let w = g.B.TermBank.store c.args.engine.now.bank in
    let n = c.args.run.settings.options.steps in
    subst (λ text. Appends (g.W.Write.contents c.args.out.now.writer.now) (g.W.Write.contents c.write_own_lines.new.out.writer.now) text)
    (sym (ap (λ r. lines y (given_by w r) (shown_of c.args.run.settings) n) c.in-None.is)) c.in-Ok.ensures.ok

pub write_given_lines-requires-clause-protected : goal.write_given_lines-requires-clause-protected
write_given_lines-requires-clause-protected g c =
    let old = g.B.TermBank.store c.args.engine.now.bank in
    let new = g.B.TermBank.store c.write_own_lines.new.engine.bank in
    subst (λ y. ProtectsTerms y new c.in-Some.list) (sym c.in-Ok.ensures.same.spec)
    (still_protects c.args.engine.now.spec old new c.in-Some.list c.in-Ok.ensures.keeps (c.requires.protected c.in-Some.list c.in-Some.is))

pub returns-in-Ok-write_given_lines-clause-ok : goal.returns-in-Ok-write_given_lines-clause-ok
returns-in-Ok-write_given_lines-clause-ok g c =
    let own = c.in-Ok.ensures in
    let n = c.args.run.settings.options.steps in
    let shown = shown_of c.args.run.settings in
    let w = g.B.TermBank.store c.write_own_lines.new.engine.bank in
    let z = c.write_own_lines.new.engine.spec in
    let e = all_lines _ _ _ w _ c.in-Some.list shown n own.keeps own.same.spec c.in-Some.is (c.requires.protected c.in-Some.list c.in-Some.is) in
    let given = given_lines z shown n (given_chosen shown.terms (length z.terms) (given_at w c.in-Some.list)) in
    subst (λ text. Appends (g.W.Write.contents c.args.out.now.writer.now) (g.W.Write.contents c.write_given_lines.new.out.writer.now) text) (sym e)
    (appends_both _ _ _ (lines c.args.engine.now.spec [] shown n) given own.ok c.in-Ok-write_given_lines.ensures.ok)

pub returns-in-Err-write_given_lines-clause-err : goal.returns-in-Err-write_given_lines-clause-err
returns-in-Err-write_given_lines-clause-err g c =
    let own = c.in-Ok.ensures in
    let y = c.args.engine.now.spec in
    let z = c.write_own_lines.new.engine.spec in
    let n = c.args.run.settings.options.steps in
    let shown = shown_of c.args.run.settings in
    let e = all_lines _ _ _ (g.B.TermBank.store c.write_own_lines.new.engine.bank) _ c.in-Some.list shown n own.keeps own.same.spec
    c.in-Some.is (c.requires.protected c.in-Some.list c.in-Some.is) in
    let few : n < 2 ^ 64 = omega (arith, c.args.run.settings.options.steps_in_range) in
    let fault = c.in-Err-write_given_lines.fault in
    subst (λ text. Stops fault text (g.W.Write.contents c.args.out.now.writer.now) (g.W.Write.contents c.write_given_lines.new.out.writer.now)) (sym e)
    (stops_behind fault (length (own_chosen shown.terms z.terms)) (lines y [] shown n) _ _ _ _
    (newlines-own y shown n few ∙ ap (λ x. length (own_chosen shown.terms x.terms)) (sym own.same.spec)) own.ok c.in-Err-write_given_lines.ensures.err)

pub returns-in-Ok-write_given_lines-clause-keeps : goal.returns-in-Ok-write_given_lines-clause-keeps
returns-in-Ok-write_given_lines-clause-keeps g c = Keeps-trans c.in-Ok.ensures.keeps c.in-Ok-write_given_lines.ensures.keeps

pub returns-in-Err-write_given_lines-clause-keeps : goal.returns-in-Err-write_given_lines-clause-keeps
returns-in-Err-write_given_lines-clause-keeps g c = Keeps-trans c.in-Ok.ensures.keeps c.in-Err-write_given_lines.ensures.keeps

pub write_given_lines-requires-clause-ready : goal.write_given_lines-requires-clause-ready
write_given_lines-requires-clause-ready g c =
    let source = c.requires.ready.0 in (
      source,
      subst (λ (z : Spec). g.S.Reporter.is_ready c.write_own_lines.new.observer.reporter source z) (sym c.in-Ok.ensures.same.spec)
          (c.in-Ok.ensures.ready source c.requires.ready.1),
    )

pub returns-in-None-clause-told : goal.returns-in-None-clause-told
returns-in-None-clause-told g c =
    let y = c.args.engine.now.spec in
    let w = g.B.TermBank.store c.args.engine.now.bank in
    λ source ready. c.in-Ok.ensures.told source ready ∙ ap (λ r. g.S.Reporter.told c.args.observer.now.reporter
    ++ report_of c.args.run.settings.terms g.S.Reporter.says source y (given_by w r) c.args.run.settings.options.steps) (sym c.in-None.is)

pub returns-in-Ok-write_given_lines-clause-told : goal.returns-in-Ok-write_given_lines-clause-told
returns-in-Ok-write_given_lines-clause-told g c =
    let y = c.args.engine.now.spec in
    let z = c.write_own_lines.new.engine.spec in
    let w = g.B.TermBank.store c.args.engine.now.bank in
    let new = g.B.TermBank.store c.write_own_lines.new.engine.bank in
    let n = c.args.run.settings.options.steps in
    let terms = c.args.run.settings.terms in
    let own = c.in-Ok.ensures in
    let says = g.S.Reporter.says in
    let told = g.S.Reporter.told in
    let old = told c.args.observer.now.reporter in
    let vs = given_chosen terms (length z.terms) (given_at new c.in-Some.list) in
    let us = chosen_stays terms y z w new c.in-Some.list own.keeps own.same.spec (c.requires.protected c.in-Some.list c.in-Some.is) in
    λ source ready.
    let at_own : g.S.Reporter.is_ready c.write_own_lines.new.observer.reporter source z =
    subst (λ (x : Spec). g.S.Reporter.is_ready c.write_own_lines.new.observer.reporter source x) (sym own.same.spec) (own.ready source ready) in
    c.in-Ok-write_given_lines.ensures.told source at_own
    ∙ ap (λ t. t ++ given_report says source z n vs) (own.told source ready)
    ∙ append_assoc old (report_of terms says source y [] n) (given_report says source z n vs)
    ∙ ap (λ x. old ++ (report_of terms says source y [] n ++ given_report says source x n vs)) own.same.spec
    ∙ ap (λ ts. old ++ (report_of terms says source y [] n ++ given_report says source y n ts)) us
    ∙ ap (λ t. old ++ t) (sym (report-both says source y n terms (given_at w c.in-Some.list)))
    ∙ ap (λ r. old ++ report_of terms says source y (given_by w r) n) (sym c.in-Some.is)

pub returns-in-Ok-write_given_lines-clause-counts : goal.returns-in-Ok-write_given_lines-clause-counts
returns-in-Ok-write_given_lines-clause-counts g c =
    let y = c.args.engine.now.spec in
    let z = c.write_own_lines.new.engine.spec in
    let w = g.B.TermBank.store c.args.engine.now.bank in
    let new = g.B.TermBank.store c.write_own_lines.new.engine.bank in
    let n = c.args.run.settings.options.steps in
    let form = c.args.run.settings.form in
    let terms = c.args.run.settings.terms in
    let own = c.in-Ok.ensures in
    let us = chosen_stays terms y z w new c.in-Some.list own.keeps own.same.spec (c.requires.protected c.in-Some.list c.in-Some.is) in
    let counted : HasCounts form n y (given_chosen terms (length y.terms) (given_at w c.in-Some.list)) c.in-Ok-write_given_lines.given =
    subst (λ vs. HasCounts form n y vs c.in-Ok-write_given_lines.given) us
    (subst (λ x. HasCounts form n x (given_chosen terms (length z.terms) (given_at new c.in-Some.list)) c.in-Ok-write_given_lines.given) own.same.spec
    c.in-Ok-write_given_lines.ensures.counts) in
    counts-both y form n terms (given_at w c.in-Some.list) c.in-Ok.own c.in-Ok-write_given_lines.given own.counts counted
    ∙ ap (λ r. counts_of terms y (given_by w r) form n) (sym c.in-Some.is)

pub returns-in-None-clause-counts : goal.returns-in-None-clause-counts
returns-in-None-clause-counts g c =
    c.in-Ok.ensures.counts ∙ ap (λ r. counts_of c.args.run.settings.terms c.args.engine.now.spec (given_by (g.B.TermBank.store c.args.engine.now.bank) r)
    c.args.run.settings.form c.args.run.settings.options.steps) (sym c.in-None.is)

pub returns-in-None-clause-bound : goal.returns-in-None-clause-bound
returns-in-None-clause-bound g c =
    let y = c.args.engine.now.spec in
    let w = g.B.TermBank.store c.args.engine.now.bank in
    subst (λ k. KeepsDepth k c.args.run.settings.depth c.args.engine.now c.write_own_lines.new.engine)
    (ap (λ r. length (chosen c.args.run.settings.terms y (given_by w r))) (sym c.in-None.is)) c.in-Ok.ensures.bound

pub returns-in-Ok-write_given_lines-clause-bound : goal.returns-in-Ok-write_given_lines-clause-bound
returns-in-Ok-write_given_lines-clause-bound g c =
    let y = c.args.engine.now.spec in
    let z = c.write_own_lines.new.engine.spec in
    let w = g.B.TermBank.store c.args.engine.now.bank in
    let new = g.B.TermBank.store c.write_own_lines.new.engine.bank in
    let terms = c.args.run.settings.terms in
    let us = chosen_stays terms y z w new c.in-Some.list c.in-Ok.ensures.keeps c.in-Ok.ensures.same.spec (c.requires.protected c.in-Some.list c.in-Some.is) in
    subst (λ k. KeepsDepth k c.args.run.settings.depth c.args.engine.now c.write_given_lines.new.engine)
    (ap (λ vs. length (chosen terms y []) + length vs) us ∙ sym (length-both terms y (given_at w c.in-Some.list))
    ∙ ap (λ r. length (chosen terms y (given_by w r))) (sym c.in-Some.is))
    (depth-both (length (chosen terms y [])) (length (given_chosen terms (length z.terms) (given_at new c.in-Some.list))) c.args.run.settings.depth
    c.args.engine.now c.write_own_lines.new.engine c.write_given_lines.new.engine c.in-Ok.ensures.bound c.in-Ok-write_given_lines.ensures.bound)
