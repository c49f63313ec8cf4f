use Rattle.std.proofs.Common.{◌≡◌, ◌+◌, ◌<◌, ◌≤◌, ◌^◌, ℕ, List, IsSome, None, Some, ap, arith, drop, length, refl, subst, sym, ◌∙◌}
use Rattle.std.specs.Prelude.{codes, is_some, ◌++◌}
use Rattle.std.specs.Io.KnownBytes.{Appends}
use Rattle.rx_term.specs.Kinds.{HasKind}
use Rattle.rx_term.specs.Store.{Store, cells, head_of, part_at, tail_of, tree_at}
use Rattle.rx_term.specs.Tree.{Tree, from_list, list_of, none}
use Rattle.rx_term.specs.declared.Kind.TheVariants.{Cons}
use Rattle.rx_term.specs.declared.Term.{Term as Reference}
use Rattle.rx_term.proofs.KeepLemmas.{Keeps-trans}
use Rattle.rx_text.specs.Written.{AppendsFront}
use Rattle.rec_syntax.specs.Syntax.{Spec}
use Rattle.rec_sorts.specs.TermRules.{broken_by_elements}
use Rattle.rec_engine.specs.Engine.{IsGround}
use Rattle.rec_run.specs.EvaluatedLines.{due_before, fault_after}
use Rattle.rec_run.specs.GivenTerms.{given_at, given_text}
use Rattle.rec_run.specs.Output.{shown_of}
use Rattle.rx_run.specs.Run.{StopsAfter}
use Rattle.rx_term.specs.Steps.{IsSound}
use Rattle.rec_run.proofs.ChoiceLemmas.{chosen_no_ends, given-at, given-left, given-low, given-most, own-length}
use Rattle.rec_run.proofs.EvaluatedLemmas.{front-line, held_no_ends, lines_stopped_after, fault_after-same, line_lacks, same_engine_both}
use Rattle.rec_run.proofs.GivenListLemmas.{FrontAt, fewer_items, front_stays, front_there, no_front, others_later}
use Rattle.rx_run.proofs.LineFrontLemmas.{appends_all, appends_more, lines_of}
use Rattle.rec_run.proofs.EvaluatedLemmas.{after_reports, no_reader}
use Rattle.rx_run.specs.declared.ending.RunFault.{RunFault}
use Rattle.rec_run.proofs.DepthLemmas.{after-deep, depth-line}
use Rattle.rec_run.specs.Choice.{given_chosen, own_chosen}
use Rattle.rec_run.specs.Depth.{KeepsDepth}
use Rattle.std.proofs.Common.{get_or}
use Rattle.std.specs.Prelude.{unwrap_or}
use Rattle.rec_run.specs.GivenTerms.{item_at}
use Rattle.rec_run.specs.Output.{given_task, is_limited}
use Rattle.rec_run.proofs.LimitLineLemmas.{count-all, count-more, counts_by, one-line}
use Rattle.rec_run.specs.Reports.{value_report}
use Rattle.rec_run.proofs.ReportLemmas.{told-all, told-more}
use Rattle.rec_run.proofs.spec.lines.write_given_lines.Goals as goal

-- a list has no more items than the number of its bank's cells
fits : {B : Type 0} (store : B → Store) (first bank : B) (list : Reference) (us : List Tree) (cells_of count : ℕ) → IsSound (store bank)
    → tree_at (store bank) list ≡ Some (list_of (from_list us)) → first ≡ bank → cells_of ≡ cells (store first) → count ≡ cells_of → length us ≤ count
fits store first bank list us cells_of count sound held e k f =
    let few = fewer_items (store bank) list us sound held in
    let same : count ≡ cells (store bank) = f ∙ k ∙ ap (λ b. cells (store b)) e in
    omega (arith, few, same)

-- the term whose line is next
record Next (y : Spec) (w : Store) (us : List Tree) (rest r : Reference) (i : ℕ) : Type 0 where
  pub front : FrontAt y w us rest i
  pub held : tree_at w r ≡ Some front.tree

-- it is what the bank that an engine gives, twice, tells of the rest
next_term : {B : Type 0} (store : B → Store) (y : Spec) (first second bank : B) (us : List Tree) (rest r : Reference) (i : ℕ) → first ≡ bank
    → second ≡ bank → broken_by_elements y us ≡ None → tree_at (store bank) rest ≡ Some (list_of (from_list (drop i us)))
    → HasKind (store first) rest Cons → tree_at (store second) r ≡ part_at head_of (store second) rest → Next y (store bank) us rest r i
next_term store y first second bank us rest r i e k kept left kind head =
    let front = front_there y (store bank) us rest i kept left (subst (λ b. HasKind (store b) rest Cons) e kind) in
    record { front = front; held = subst (λ b. tree_at (store b) r ≡ part_at head_of (store b) rest) k head ∙ front.first }

pub returns-in_default : goal.returns-in_default
returns-in_default g c =
    let us = given_at (g.B.TermBank.store c.args.engine.now.bank) c.args.list in
    let y = c.args.engine.now.spec in
    let vs = given_chosen c.args.run.settings.terms (length y.terms) us in
    let kind = subst (λ b. HasKind (g.B.TermBank.store b) c.loop-i.rest c.kind.result) c.bank-in-loop-i.ensures c.kind.ensures in
    let none = no_front (g.B.TermBank.store c.loop-i.engine.bank) us c.loop-i.rest (c.loop-i.i + c.window_of-window.result.skipped) c.kind.result
    c.loop-i.invariant.left kind c.in_default.not-Cons in
    let w = c.window_of-window.result in
    let items : length us ≤ c.from-items.result = fits g.B.TermBank.store _ c.args.engine.now.bank c.args.list us _ c.from-items.result
    (g.met.B.TermBank.sound c.args.engine.now.bank) c.requires.protected.holds.held c.bank.ensures c.cells.ensures c.from-items.ensures in
    let all : length vs ≤ c.loop-i.i = given-left c.args.run.settings.terms (length y.terms) us c.eval_terms.result c.from-items.result w c.eval_terms.ensures items c.window_of-window.ensures c.loop-i.i none in
    let low = c.loop-i.invariant.low in
    let e : c.loop-i.i ≡ length vs = omega (arith, all, low) in
    record {
      same = c.loop-i.invariant.same;
      keeps = c.loop-i.invariant.keeps;
      ok = appends_all (given_text y (shown_of c.args.run.settings) c.args.run.settings.options.steps) vs c.loop-i.i _ _ all
          c.loop-i.invariant.written;
      err = tt;
      room = tt;
      deep = tt;
      reports = ((c.loop-i.invariant.same_output, c.loop-i.invariant.refused), refl);
      ready = c.loop-i.invariant.ready;
      told = λ source ready. told-all (λ u. value_report g.S.Reporter.says source y c.args.run.settings.options.steps (given_task u)) vs
          c.loop-i.i (g.S.Reporter.told c.args.observer.now.reporter) (g.S.Reporter.told c.loop-i.observer.reporter) all (c.loop-i.invariant.told source ready);
      counts = counts_by e (count-all (λ u. is_limited y c.args.run.settings.form c.args.run.settings.options.steps (given_task u)) vs c.loop-i.i
          c.loop-i.limit_lines all c.loop-i.invariant.limits);
      few = record { lines = omega arith; limit_lines = omega (arith, c.loop-i.invariant.few) };
      bound = subst (λ k. KeepsDepth k c.args.run.settings.depth c.args.engine.now c.loop-i.engine) e c.loop-i.invariant.bound;
    }

pub write_evaluation-requires-clause-given : goal.write_evaluation-requires-clause-given
write_evaluation-requires-clause-given g c =
    let us = given_at (g.B.TermBank.store c.args.engine.now.bank) c.args.list in
    let next = next_term g.B.TermBank.store c.args.engine.now.spec _ _ _ us c.loop-i.rest c.head-term.result (c.loop-i.i + c.window_of-window.result.skipped) c.bank-in-loop-i.ensures
    c.bank-in-loop-i-2.ensures c.requires.protected.holds.kept c.loop-i.invariant.left c.in-Cons.ensures c.head-term.ensures in
    record {
      tree = next.front.tree;
      held = next.held;
      is_ground =
          subst (λ z. IsGround z next.front.tree) (sym c.loop-i.invariant.same.spec) next.front.is_ground;
    }

pub write_evaluation-requires-clause-stays : goal.write_evaluation-requires-clause-stays
write_evaluation-requires-clause-stays g c =
    let y = c.args.engine.now.spec in
    let us = given_at (g.B.TermBank.store c.args.engine.now.bank) c.args.list in
    let next = next_term g.B.TermBank.store y _ _ _ us c.loop-i.rest c.head-term.result (c.loop-i.i + c.window_of-window.result.skipped) c.bank-in-loop-i.ensures c.bank-in-loop-i-2.ensures
    c.requires.protected.holds.kept c.loop-i.invariant.left c.in-Cons.ensures c.head-term.ensures in
    front_stays y (g.B.TermBank.store c.args.engine.now.bank) (g.B.TermBank.store c.loop-i.engine.bank) c.args.list c.loop-i.rest c.head-term.result
    us (c.loop-i.i + c.window_of-window.result.skipped) c.args.run.settings.limits c.loop-i.invariant.keeps c.requires.protected.holds.held c.requires.protected.protected
    c.loop-i.invariant.left next.front next.held

pub returns-in-Err-clause-err : goal.returns-in-Err-clause-err
returns-in-Err-clause-err g c =
    let y = c.args.engine.now.spec in
    let n = c.args.run.settings.options.steps in
    let f = given_text y (shown_of c.args.run.settings) n in
    let why : RunFault = c.in-Err.fault in
    let end = c.after.result in
    let us = given_at (g.B.TermBank.store c.args.engine.now.bank) c.args.list in
    let vs = given_chosen c.args.run.settings.terms (length y.terms) us in
    let w = c.window_of-window.result in
    let items : length us ≤ c.from-items.result = fits g.B.TermBank.store _ c.args.engine.now.bank c.args.list us _ c.from-items.result
    (g.met.B.TermBank.sound c.args.engine.now.bank) c.requires.protected.holds.held c.bank.ensures c.cells.ensures c.from-items.ensures in
    let next = next_term g.B.TermBank.store y _ _ _ us c.loop-i.rest c.head-term.result (c.loop-i.i + w.skipped) c.bank-in-loop-i.ensures
    c.bank-in-loop-i-2.ensures c.requires.protected.holds.kept c.loop-i.invariant.left c.in-Cons.ensures c.head-term.ensures in
    let low = given-low c.args.run.settings.terms (length y.terms) us c.eval_terms.result c.from-items.result w c.eval_terms.ensures items c.window_of-window.ensures c.loop-i.i (omega arith) next.front.low in
    let here = given-at c.args.run.settings.terms (length y.terms) us c.eval_terms.result c.from-items.result w c.eval_terms.ensures items c.window_of-window.ensures c.loop-i.i (list_of none) (omega arith) in
    let is = front-line y c.loop-i.engine.spec _ us _ c.head-term.result (c.loop-i.i + w.skipped) (shown_of c.args.run.settings) n next.front
    c.loop-i.invariant.same.spec next.held ∙ ap f here in
    let few : n < 2 ^ 64 = omega (arith, c.args.run.settings.options.steps_in_range) in
    let old = g.W.Write.contents c.args.out.now.writer.now in
    let after = g.W.Write.contents c.write_evaluation.new.out.writer.now in
    let first : ℕ = length (own_chosen c.args.run.settings.terms y.terms) in
    let long = own-length c.args.run.settings.terms y.terms c.eval_terms.result c.from-items.result w c.eval_terms.ensures c.window_of-window.ensures in
    let fault : end ≡ fault_after why (first + c.loop-i.i) =
    fault_after-same why (c.from-first.result + c.loop-i.i) (first + c.loop-i.i) end
    c.after.ensures (omega (arith, long, c.from-first.ensures)) in
    subst (λ stop. StopsAfter first stop (lines_of f vs) old after) (sym fault)
    (lines_stopped_after why first f vs c.loop-i.i (list_of none) _ _ _ (no_reader c.in-Err.fault c.in-Err.ensures.reports.1)
    (chosen_no_ends f c.args.run.settings.terms (length y.terms) us (held_no_ends y (g.B.TermBank.store c.args.engine.now.bank) c.args.list
    (shown_of c.args.run.settings) n few (g.met.B.TermBank.sound c.args.engine.now.bank) c.requires.protected.holds)) low c.loop-i.invariant.written
    (subst (λ text. AppendsFront (due_before why text) (g.W.Write.contents c.loop-i.out.writer.now) after) is c.in-Err.ensures.err))

pub returns-in-Err-clause-same : goal.returns-in-Err-clause-same
returns-in-Err-clause-same g c = same_engine_both c.loop-i.invariant.same c.in-Err.ensures.same

pub returns-in-Err-clause-keeps : goal.returns-in-Err-clause-keeps
returns-in-Err-clause-keeps g c = Keeps-trans c.loop-i.invariant.keeps c.in-Err.ensures.keeps

pub returns-in-Err-clause-room : goal.returns-in-Err-clause-room
returns-in-Err-clause-room g c =
    let e = c.write_evaluation.new.engine in
    line_lacks (g.B.TermBank.store e.bank) e.work e.memo c.in-Err.fault _ c.after.result
    c.after.ensures c.in-Err.ensures.room

pub tail-rest-requires : goal.tail-rest-requires
tail-rest-requires g c =
    let y = c.args.engine.now.spec in
    let us = given_at (g.B.TermBank.store c.args.engine.now.bank) c.args.list in
    let next = next_term g.B.TermBank.store y _ _ _ us c.loop-i.rest c.head-term.result (c.loop-i.i + c.window_of-window.result.skipped) c.bank-in-loop-i.ensures c.bank-in-loop-i-2.ensures
    c.requires.protected.holds.kept c.loop-i.invariant.left c.in-Cons.ensures c.head-term.ensures in
    let others = others_later y _ _ _ c.args.list _ us (c.loop-i.i + c.window_of-window.result.skipped) c.loop-i.invariant.keeps c.in-Ok.ensures.keeps c.requires.protected.holds.held
    c.requires.protected.protected c.loop-i.invariant.left next.front in
    subst (λ b. IsSome (part_at tail_of (g.B.TermBank.store b) c.loop-i.rest)) (sym c.bank-in-loop-i-3.ensures) (ap is_some others)

pub loop-i-preserved : goal.loop-i-preserved
loop-i-preserved g c =
    let y = c.args.engine.now.spec in
    let n = c.args.run.settings.options.steps in
    let f = given_text y (shown_of c.args.run.settings) n in
    let us = given_at (g.B.TermBank.store c.args.engine.now.bank) c.args.list in
    let vs = given_chosen c.args.run.settings.terms (length y.terms) us in
    let w = c.window_of-window.result in
    let items : length us ≤ c.from-items.result = fits g.B.TermBank.store _ c.args.engine.now.bank c.args.list us _ c.from-items.result
    (g.met.B.TermBank.sound c.args.engine.now.bank) c.requires.protected.holds.held c.bank.ensures c.cells.ensures c.from-items.ensures in
    let next = next_term g.B.TermBank.store y _ _ _ us c.loop-i.rest c.head-term.result (c.loop-i.i + w.skipped) c.bank-in-loop-i.ensures
    c.bank-in-loop-i-2.ensures c.requires.protected.holds.kept c.loop-i.invariant.left c.in-Cons.ensures c.head-term.ensures in
    let low = given-low c.args.run.settings.terms (length y.terms) us c.eval_terms.result c.from-items.result w c.eval_terms.ensures items c.window_of-window.ensures c.loop-i.i (omega arith) next.front.low in
    let there = given-at c.args.run.settings.terms (length y.terms) us c.eval_terms.result c.from-items.result w c.eval_terms.ensures items c.window_of-window.ensures c.loop-i.i (list_of none) (omega arith) in
    let is = front-line y c.loop-i.engine.spec _ us _ c.head-term.result (c.loop-i.i + w.skipped) (shown_of c.args.run.settings) n next.front
    c.loop-i.invariant.same.spec next.held ∙ ap f there in
    let others = others_later y _ _ _ c.args.list _ us (c.loop-i.i + w.skipped) c.loop-i.invariant.keeps c.in-Ok.ensures.keeps
    c.requires.protected.holds.held c.requires.protected.protected c.loop-i.invariant.left next.front in
    let bank = g.B.TermBank.store c.loop-i.engine.bank in
    let u = get_or vs c.loop-i.i (list_of none) in
    let here : item_at bank c.head-term.result ≡ u = ap (λ o. unwrap_or o (list_of none)) next.held ∙ sym next.front.got ∙ there in
    let step : c.loop-i.i + w.skipped + 1 ≡ c.loop-i.i + 1 + w.skipped = omega arith in
    record {
      same = same_engine_both c.loop-i.invariant.same c.in-Ok.ensures.same;
      keeps = Keeps-trans c.loop-i.invariant.keeps c.in-Ok.ensures.keeps;
      left = subst (λ b. tree_at (g.B.TermBank.store b) c.tail-rest.result ≡ part_at tail_of (g.B.TermBank.store b) c.loop-i.rest)
          c.bank-in-loop-i-3.ensures c.tail-rest.ensures ∙ others ∙ ap (λ k. Some (list_of (from_list (drop k us)))) step;
      written = appends_more f vs c.loop-i.i (list_of none) _ _ _ low c.loop-i.invariant.written
          (subst (λ text. Appends (g.W.Write.contents c.loop-i.out.writer.now) (g.W.Write.contents c.write_evaluation.new.out.writer.now)
          (text ++ codes "\n")) is c.in-Ok.ensures.ok);
      refused = c.in-Ok.ensures.reports.0.1 ∙ c.loop-i.invariant.refused;
      same_output = c.in-Ok.ensures.reports.0.0 ∙ c.loop-i.invariant.same_output;
      ready = λ source ready. subst (λ (z : Spec). g.S.Reporter.is_ready c.loop-i.observer.reporter source z
          → g.S.Reporter.is_ready c.write_evaluation.new.observer.reporter source z) c.loop-i.invariant.same.spec (c.in-Ok.ensures.ready source)
          (c.loop-i.invariant.ready source ready);
      told = λ source ready.
          let says = g.S.Reporter.says in
          let told = g.S.Reporter.told in
          let more = subst (λ (z : Spec). g.S.Reporter.is_ready c.loop-i.observer.reporter source z
          → told c.write_evaluation.new.observer.reporter ≡ told c.loop-i.observer.reporter ++ value_report says source z n
          (given_task (item_at bank c.head-term.result))) c.loop-i.invariant.same.spec (c.in-Ok.ensures.told source)
          (c.loop-i.invariant.ready source ready) in
          told-more (λ u. value_report says source y n (given_task u)) vs c.loop-i.i (list_of none) (told c.args.observer.now.reporter)
          (told c.loop-i.observer.reporter) (told c.write_evaluation.new.observer.reporter) low (c.loop-i.invariant.told source ready)
          (more ∙ ap (λ t. told c.loop-i.observer.reporter ++ value_report says source y n (given_task t)) here);
      few = omega (arith, one-line c.in-Ok.limited, c.from-limit_lines.ensures, c.loop-i.invariant.few);
      low = omega (arith, low);
      bound = depth-line c.loop-i.i _ _ _ c.in-Ok.ensures.bound;
      limits = count-more (λ u. is_limited y c.args.run.settings.form n (given_task u)) vs c.loop-i.i (list_of none) c.loop-i.limit_lines _ c.in-Ok.limited low
          c.loop-i.invariant.limits c.from-limit_lines.ensures
          (subst (λ z. c.in-Ok.limited ≡ is_limited z c.args.run.settings.form n (given_task (item_at bank c.head-term.result))) c.loop-i.invariant.same.spec c.in-Ok.ensures.limit
          ∙ ap (λ t. is_limited y c.args.run.settings.form n (given_task t)) here);
    }

pub returns-clause-ok : goal.returns-clause-ok
returns-clause-ok g c =
    let y = c.args.engine.now.spec in
    let us = given_at (g.B.TermBank.store c.args.engine.now.bank) c.args.list in
    let vs = given_chosen c.args.run.settings.terms (length y.terms) us in
    let w = c.window_of-window.result in
    let items : length us ≤ c.from-items.result = fits g.B.TermBank.store _ c.args.engine.now.bank c.args.list us _ c.from-items.result
    (g.met.B.TermBank.sound c.args.engine.now.bank) c.requires.protected.holds.held c.bank.ensures c.cells.ensures c.from-items.ensures in
    let most = given-most c.args.run.settings.terms (length y.terms) us c.eval_terms.result c.from-items.result w c.eval_terms.ensures items c.window_of-window.ensures in
    let all : length vs ≤ c.loop-i.i = omega (arith, most) in
    appends_all (given_text y (shown_of c.args.run.settings) c.args.run.settings.options.steps) vs c.loop-i.i _ _ all c.loop-i.invariant.written

pub returns-in-Err-clause-reports : goal.returns-in-Err-clause-reports
returns-in-Err-clause-reports g c = after_reports c.args.out.now c.loop-i.out c.write_evaluation.new.out c.in-Err.fault _ c.after.result c.after.ensures
    c.loop-i.invariant.same_output c.loop-i.invariant.refused c.in-Err.ensures.reports

pub returns-in-Err-clause-deep : goal.returns-in-Err-clause-deep
returns-in-Err-clause-deep g c = after-deep c.in-Err.fault _ c.after.result c.after.ensures c.write_evaluation.new.engine.waiting
    c.args.run.settings.depth c.in-Err.ensures.deep

pub write_evaluation-requires-clause-ready : goal.write_evaluation-requires-clause-ready
write_evaluation-requires-clause-ready g c =
    let source = c.requires.ready.0 in (
      source,
      subst (λ (z : Spec). g.S.Reporter.is_ready c.loop-i.observer.reporter source z) (sym c.loop-i.invariant.same.spec)
          (c.loop-i.invariant.ready source c.requires.ready.1),
    )

pub returns-in-Err-clause-ready : goal.returns-in-Err-clause-ready
returns-in-Err-clause-ready g c = λ source ready.
    subst (λ (z : Spec). g.S.Reporter.is_ready c.loop-i.observer.reporter source z
    → g.S.Reporter.is_ready c.write_evaluation.new.observer.reporter source z) c.loop-i.invariant.same.spec (c.in-Err.ensures.ready source)
    (c.loop-i.invariant.ready source ready)

pub returns-clause-told : goal.returns-clause-told
returns-clause-told g c =
    let y = c.args.engine.now.spec in
    let us = given_at (g.B.TermBank.store c.args.engine.now.bank) c.args.list in
    let vs = given_chosen c.args.run.settings.terms (length y.terms) us in
    let w = c.window_of-window.result in
    let items : length us ≤ c.from-items.result = fits g.B.TermBank.store _ c.args.engine.now.bank c.args.list us _ c.from-items.result
    (g.met.B.TermBank.sound c.args.engine.now.bank) c.requires.protected.holds.held c.bank.ensures c.cells.ensures c.from-items.ensures in
    let most = given-most c.args.run.settings.terms (length y.terms) us c.eval_terms.result c.from-items.result w c.eval_terms.ensures items c.window_of-window.ensures in
    let all : length vs ≤ c.loop-i.i = omega (arith, most) in
    λ source ready. told-all (λ u. value_report g.S.Reporter.says source y c.args.run.settings.options.steps (given_task u)) vs
    c.loop-i.i (g.S.Reporter.told c.args.observer.now.reporter) (g.S.Reporter.told c.loop-i.observer.reporter) all (c.loop-i.invariant.told source ready)

pub returns-clause-counts : goal.returns-clause-counts
returns-clause-counts g c =
    let y = c.args.engine.now.spec in
    let us = given_at (g.B.TermBank.store c.args.engine.now.bank) c.args.list in
    let vs = given_chosen c.args.run.settings.terms (length y.terms) us in
    let w = c.window_of-window.result in
    let items : length us ≤ c.from-items.result = fits g.B.TermBank.store _ c.args.engine.now.bank c.args.list us _ c.from-items.result
    (g.met.B.TermBank.sound c.args.engine.now.bank) c.requires.protected.holds.held c.bank.ensures c.cells.ensures c.from-items.ensures in
    let most = given-most c.args.run.settings.terms (length y.terms) us c.eval_terms.result c.from-items.result w c.eval_terms.ensures items c.window_of-window.ensures in
    let all : length vs ≤ c.loop-i.i = omega (arith, most) in
    let low = c.loop-i.invariant.low in
    let same : w.most ≡ length vs = omega (arith, most, low) in
    counts_by same (count-all (λ u. is_limited y c.args.run.settings.form c.args.run.settings.options.steps (given_task u)) vs c.loop-i.i c.loop-i.limit_lines all
    c.loop-i.invariant.limits)

pub returns-clause-few : goal.returns-clause-few
returns-clause-few g c =
    let within = c.window_of-window.ensures.few in
    record { lines = omega (arith, within, c.from-items.ensures); limit_lines = omega (arith, within, c.from-items.ensures, c.loop-i.invariant.few) }

pub returns-clause-bound : goal.returns-clause-bound
returns-clause-bound g c =
    let y = c.args.engine.now.spec in
    let us = given_at (g.B.TermBank.store c.args.engine.now.bank) c.args.list in
    let vs = given_chosen c.args.run.settings.terms (length y.terms) us in
    let w = c.window_of-window.result in
    let items : length us ≤ c.from-items.result = fits g.B.TermBank.store _ c.args.engine.now.bank c.args.list us _ c.from-items.result
    (g.met.B.TermBank.sound c.args.engine.now.bank) c.requires.protected.holds.held c.bank.ensures c.cells.ensures c.from-items.ensures in
    let most = given-most c.args.run.settings.terms (length y.terms) us c.eval_terms.result c.from-items.result w c.eval_terms.ensures items c.window_of-window.ensures in
    let low = c.loop-i.invariant.low in
    let e : c.loop-i.i ≡ length vs = omega (arith, most, low) in
    subst (λ k. KeepsDepth k c.args.run.settings.depth c.args.engine.now c.loop-i.engine) e c.loop-i.invariant.bound
