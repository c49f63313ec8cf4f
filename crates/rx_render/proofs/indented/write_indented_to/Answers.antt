use Rattle.std.proofs.Common.{[], refl, rules}
use Rattle.rx_term.specs.Store.{tree_at}
use Rattle.rx_text.specs.Inner.Jobs.{seen}
use Rattle.rx_text.proofs.AppendingLemmas.{on_err}
use Rattle.rx_render.specs.Laid.{laid}
use Rattle.rx_render.proofs.LayoutLemmas.{if_front, less_left, writing_on, writing_stopped}
use Rattle.rx_render.proofs.indented.write_indented_to.Goals as goal

pub loop-job-smaller : goal.loop-job-smaller
loop-job-smaller g c =
    let w = g.B.TermBank.store c.args.bank.now in
    let l = c.loop-job in
    less_left w c.args.indentation (seen [] (laid c.args.indentation) (tree_at w c.args.t)) (g.W.Write.contents c.args.out.now.writer.now)
    (g.W.Write.contents l.out.writer.now) l.layout (record l.layout { jobs = c.pop.new.self }) c.in-Some.job l.invariant.0 c.in-Some.ensures.items refl refl
    (g.W.Write.contents c.write_job.new.out.writer.now) c.write_job.new.layout c.in_ok-write_job.ensures.written

pub loop-job-preserved : goal.loop-job-preserved
loop-job-preserved g c =
    let w = g.B.TermBank.store c.args.bank.now in
    let l = c.loop-job in (
      writing_on w c.args.indentation (seen [] (laid c.args.indentation) (tree_at w c.args.t)) (g.W.Write.contents c.args.out.now.writer.now)
          (g.W.Write.contents l.out.writer.now) l.layout (record l.layout { jobs = c.pop.new.self }) c.in-Some.job l.invariant.0
          c.in-Some.ensures.items refl refl
          (g.W.Write.contents c.write_job.new.out.writer.now) c.write_job.new.layout c.in_ok-write_job.ensures.written,
      search rules,
      search rules,
    )

pub returns-in_err-write_job-clause-front : goal.returns-in_err-write_job-clause-front
returns-in_err-write_job-clause-front g c =
    let w = g.B.TermBank.store c.args.bank.now in
    let l = c.loop-job in
    on_err _ (if_front c.args.indentation (tree_at w c.args.t) _ _ (writing_stopped w c.args.indentation (seen [] (laid c.args.indentation) (tree_at w c.args.t))
    (g.W.Write.contents c.args.out.now.writer.now) (g.W.Write.contents l.out.writer.now) l.layout (record l.layout { jobs = c.pop.new.self })
    c.in-Some.job l.invariant.0 c.in-Some.ensures.items refl refl
    (g.W.Write.contents c.write_job.new.out.writer.now) c.in_err-write_job.ensures.front))
