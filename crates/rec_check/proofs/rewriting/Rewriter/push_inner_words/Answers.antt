use Rattle.std.proofs.Common.{arith, ap, subst, sym, ◌∙◌, ◌+◌, ◌++◌}
use Rattle.std.proofs.lemmas.List.{length-take, take_all}
use Rattle.std.proofs.lemmas.List.Elements.{All-take}
use Rattle.std.specs.Prelude.{All, ◌<◌, get_or, length, map, take}
use Rattle.rec_syntax.specs.Syntax.{arguments}
use Rattle.rec_sorts.specs.Numbering.{IsMeaning, named_by}
use Rattle.rec_sorts.specs.declared.letters.Letter.{Letter}
use Rattle.rec_match.proofs.SkipLemmas as skip
use Rattle.rec_check.specs.Findings.{as_diagnostics, never_matching_in}
use Rattle.rec_check.specs.Named.{as_word}
use Rattle.rec_check.specs.Rewriting.{postorder_all, rewritten_by}
use Rattle.rec_check.proofs.RewritingLemmas.{inner_ends, inner_long, inner_turn, spots_long, word_at_place, words_long}
use Rattle.rec_check.proofs.rewriting.Rewriter.push_inner_words.Goals as goal

pub split_at-requires-clause-within : goal.split_at-requires-clause-within
split_at-requires-clause-within c =
    let y = c.args.self.now.checked.now.spec in
    let q = get_or y.rules c.args.rule skip.no_rule in
    let letters = c.args.left.letters.now in
    let ts = postorder_all (arguments q.left) in
    let lt : c.loop-i.i < length ts = (let long = words_long c.args.words.now ts (c.requires.words skip.no_rule) in let test = c.loop-i-test.true in
    omega (arith, test, long)) in
    let own = inner_long y letters q.left c.loop-i.i (c.requires.letters skip.no_rule) lt in
    let few = length-take (c.loop-i.i + 1) letters in
    omega (arith, own, few)

pub rewriting-requires-clause-meant : goal.rewriting-requires-clause-meant
rewriting-requires-clause-meant c =
    let y = c.args.self.now.checked.now.spec in
    subst (λ ls. All (λ l. IsMeaning y l.meaning) ls) (sym c.split_at.ensures.front)
    (All-take (λ (l : Letter). IsMeaning y l.meaning) (c.loop-i.i + 1) c.args.left.letters.now (c.requires.letters skip.no_rule).0)

pub loop-i-preserved : goal.loop-i-preserved
loop-i-preserved c r =
    let s = c.args.self.now.checked.now in
    let y = s.spec in
    let i = c.loop-i.i in
    let q = get_or y.rules c.args.rule r in
    let ts = postorder_all (arguments q.left) in
    let t = get_or ts i q.left in
    let words = c.args.words.now in
    let is = c.requires.words r in
    let here : i < length words = (let test = c.loop-i-test.true in omega (arith, test)) in
    let lt : i < length ts = (let long = words_long words ts is in omega (arith, here, long)) in
    let o = rewritten_by y (take c.len.result y.rules) t in
    let ends = inner_ends y c.args.left.letters.now q.left i q.left (c.requires.letters r) lt in
    inner_turn s.source y ts i q.left (as_word c.index-words-i.result) o (as_diagnostics c.args.found.now.items) (as_diagnostics c.loop-i.found.items) (as_diagnostics c.push.new.found.items)
    lt (ap as_word c.index-words-i.is ∙ word_at_place words ts i c.index-words-i.result q.left is here)
    (ap (λ rs. rewritten_by y rs t) (take_all c.len.result y.rules (let e = c.len.ensures in let k = c.args.self.now.spots.ok.0 in let l =
    spots_long c.args.self.now c.requires.rules in omega (arith, e, k, l)))) (c.loop-i.invariant r)
    (c.in_ok-push.ensures o (c.in_ok-by.ensures.first ends.0 t (ap (map (named_by y)) c.split_at.ensures.front ∙ ends.1)))

pub returns : goal.returns
returns c r =
    let s = c.args.self.now.checked.now in
    let ts = postorder_all (arguments (get_or s.spec.rules c.args.rule r).left) in
    let test = c.loop-i-test.false in
    let long = words_long c.args.words.now ts (c.requires.words r) in
    c.loop-i.invariant r ∙ ap (λ us. as_diagnostics c.args.found.now.items ++ never_matching_in s.source s.spec us)
    (take_all c.loop-i.i ts (omega (arith, test, long)))
