use Rattle.std.proofs.Common.{arith, ap, ◌∙◌, ◌++◌}
use Rattle.std.specs.Prelude.{◌<◌, get_or, length, map}
use Rattle.rec_syntax.specs.Nodes.{flat}
use Rattle.rec_syntax.specs.Parts.{term_of}
use Rattle.rec_syntax.specs.Syntax.{arguments, head}
use Rattle.rec_check.specs.Named.{as_nodes, node_words}
use Rattle.rec_check.specs.Rewriting.{postorder_all}
use Rattle.rec_check.proofs.RewritingLemmas.{inner_heads, left_term, rules_long}
use Rattle.rec_check.proofs.WordLemmas.{if_ok_equal}
use Rattle.rec_check.proofs.rewriting.inner_words.Goals as goal

pub returns : goal.returns
returns c r =
    let s = c.args.syntax.now in
    let items = c.rules.result.now in
    let t = (get_or s.spec.rules c.args.rule r).left in
    let x = c.in-Some.rule.now in
    let long = rules_long s.source items s.spec.rules c.rules.ensures.rules in
    let lt : c.args.rule < length items = (let q = c.requires in omega (arith, q, long)) in
    if_ok_equal c.node_words.result (node_words (as_nodes c.deref.result.now)) (map head (postorder_all (arguments t))) c.node_words.ensures
    (ap (λ ns. node_words (as_nodes ns)) c.deref.ensures.value
    ∙ inner_heads c.pop.new.self.items c.push_term.new.nodes.items _ t c.pop.ensures.rest c.push_term.new.nodes.ok.0
    (c.in_ok-push_term-in-Some.ensures
    ∙ ap (λ ns. as_nodes ns ++ flat (term_of s.source x.left)) c.new-nodes.ensures.items
    ∙ ap flat (left_term s.source items s.spec.rules c.args.rule x r c.rules.ensures.rules lt c.in-Some.ensures.lookup.1)))
