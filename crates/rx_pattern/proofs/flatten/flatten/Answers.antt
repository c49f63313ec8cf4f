use Rattle.std.proofs.Common.{◌∙◌, ap, IsTrue, List, [], ◌∷◌, ◌++◌, unwrap_or}
use Rattle.rx_term.specs.Tree.{Items, none}
use Rattle.rx_term.specs.Store.{tree_at}
use Rattle.rx_pattern.specs.Pattern.{is_pattern}
use Rattle.rx_pattern.specs.declared.flatten.Job.{Job}
use Rattle.rx_pattern.specs.declared.flatten.Job.TheVariants as job
use Rattle.rx_pattern.proofs.StackLemmas.{held_at}
use Rattle.rx_pattern.proofs.FlatteningLemmas.{begun, turn_on}
use Rattle.rx_pattern.proofs.flatten.flatten.Goals as goal

pub loop-job-init : goal.loop-job-init
loop-job-init g c =
    let w = g.B.TermBank.store c.args.bank.now in
    let h = held_at (λ u. IsTrue (is_pattern u)) (tree_at w c.args.t) (Items none none) c.requires.0 c.requires.1 c.requires.2 in
    begun w (unwrap_or (tree_at w c.args.t) (Items none none)) c.args.t c.new-nodes.result.items c.push.new.self.items h.0 h.1 c.new-nodes.ensures.items
    (c.in_ok-push.ensures.items ∙ ap (λ (js : List Job). js ++ job.Tree c.args.t ∷ []) c.new-jobs.ensures.items)

pub loop-job-preserved : goal.loop-job-preserved
loop-job-preserved g c =
    let w = g.B.TermBank.store c.args.bank.now in
    turn_on w (unwrap_or (tree_at w c.args.t) (Items none none)) c.loop-job.nodes.items c.loop-job.jobs.items c.pop.new.self.items c.in-Some.job
    c.in-Some.ensures.items c.loop-job.invariant c.in_ok-node.node c.push-in-Some.new.self.items c.next_node.new.jobs.items c.in_ok-node.ensures
    c.in_ok-push-2.ensures.items
