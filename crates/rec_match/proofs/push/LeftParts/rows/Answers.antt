use Rattle.std.proofs.Common.{sym, ap, subst, arith, ◌∙◌, ◌≡◌, ◌<◌, suc, ℕ, ◌++◌, ◌∷◌, [], List, length, map, get_or}
use Rattle.std.proofs.lemmas.List.{get_or_default, map-append}
use Rattle.rec_sorts.specs.Numbering.{IsLetterRule}
use Rattle.rec_match.specs.Inner.Chains.{IsNext}
use Rattle.rec_match.specs.Parts.{arguments_at, numbered_from, Coded, coded_of}
use Rattle.rec_match.proofs.LetterLemmas.{pair-long}
use Rattle.rec_match.proofs.RootRowLemmas.{no_rule, chain_on, rows_first, rows_next, rows_all}
use Rattle.rec_match.proofs.push.LeftParts.rows.Goals as goal

-- what was read of a list is the item at that place
read : (xs : List ℕ) (i : ℕ) (x : ℕ) → x ≡ get_or xs i x → i < length xs → x ≡ get_or xs i 0
read xs i x e lt = e ∙ get_or_default xs i x 0 lt

pub loop-rule-init : goal.loop-rule-init
loop-rule-init c =
    let k = c.args.symbol in
    let lt = c.requires.symbol in
    let h = c.requires.chains in
    let heads = c.args.chains.now.heads.items in
    let counted = h.chains.counted in
    let at : c.index-rule.result.now ≡ get_or heads k 0 = read heads k c.index-rule.result.now c.index-rule.ensures (omega (arith, lt, counted)) in
    rows_first c.args.checked.now.spec c.rules-count.ensures.kept k lt c.args.self.now.parts (map coded_of c.new-rows.result.items) h.symbols_of
    h.heads c.index-rule.result.now (ap (map coded_of) c.new-rows.ensures.items)
    (subst (IsNext h.symbols_of k 0) (sym at) (h.chains.heads_next k lt))

pub index-requires : goal.index-requires
index-requires c =
    let t = c.loop-rule-test.true in
    let long = pair-long (IsLetterRule c.args.checked.now.spec) c.rules-count.result.now c.args.checked.now.spec.rules c.rules-count.ensures.letters in
    let numbers = c.requires.parts.long in
    let v = c.args.self.now.numbers.ok.0 in
    omega (arith, t, long, numbers, v)

pub codes_of-requires-clause-there : goal.codes_of-requires-clause-there
codes_of-requires-clause-there c =
    let t = c.loop-rule-test.true in
    let long = pair-long (IsLetterRule c.args.checked.now.spec) c.rules-count.result.now c.args.checked.now.spec.rules c.rules-count.ensures.letters in
    let numbers = c.requires.parts.long in
    let at = read c.args.self.now.numbers.items c.loop-rule.rule c.index.result.now c.index.ensures (omega (arith, t, long, numbers)) in
    let there = (c.requires.parts.each c.loop-rule.rule no_rule (omega (arith, t, long))).0 in
    omega (arith, at, there)

pub index-rule-requires-in-loop-rule : goal.index-rule-requires-in-loop-rule
index-rule-requires-in-loop-rule c =
    let t = c.loop-rule-test.true in
    let long = pair-long (IsLetterRule c.args.checked.now.spec) c.rules-count.result.now c.args.checked.now.spec.rules c.rules-count.ensures.letters in
    let nexts = c.requires.chains.chains.long in
    let counted = c.requires.chains.heads.counted in
    let v = c.args.chains.now.nexts.ok.0 in
    omega (arith, t, long, nexts, counted, v)

pub loop-rule-smaller : goal.loop-rule-smaller
loop-rule-smaller c =
    let t = c.loop-rule-test.true in
    let long = pair-long (IsLetterRule c.args.checked.now.spec) c.rules-count.result.now c.args.checked.now.spec.rules c.rules-count.ensures.letters in
    let h = c.requires.chains in
    let nexts = c.args.chains.now.nexts.items in
    let nexts_long = h.chains.long in
    let counted = h.heads.counted in
    let at = read nexts c.loop-rule.rule c.index-rule-in-loop-rule.result.now c.index-rule-in-loop-rule.ensures (omega (arith, t, long, nexts_long, counted)) in
    let after = (chain_on c.args.checked.now.spec c.rules-count.ensures.kept c.args.symbol c.requires.symbol c.args.self.now.parts
    (map coded_of c.loop-rule.rows.items) h.symbols_of c.args.chains.now.heads.items nexts _ c.loop-rule.rule h.heads h.chains
    c.loop-rule.invariant (omega (arith, t, long))).after in
    omega (arith, t, long, at, after)

pub loop-rule-preserved : goal.loop-rule-preserved
loop-rule-preserved c =
    let y = c.args.checked.now.spec in
    let ps = c.args.self.now.parts in
    let t = c.loop-rule-test.true in
    let long = pair-long (IsLetterRule y) c.rules-count.result.now y.rules c.rules-count.ensures.letters in
    let lt : c.loop-rule.rule < length y.rules = omega (arith, t, long) in
    let h = c.requires.chains in
    let nexts = c.args.chains.now.nexts.items in
    let nexts_long = h.chains.long in
    let counted = h.heads.counted in
    let numbers = c.args.self.now.numbers.items in
    let numbers_long = c.requires.parts.long in
    let at = read nexts c.loop-rule.rule c.index-rule-in-loop-rule.result.now c.index-rule-in-loop-rule.ensures (omega (arith, t, long, nexts_long, counted)) in
    let part = read numbers c.loop-rule.rule c.index.result.now c.index.ensures (omega (arith, t, long, numbers_long)) in
    let next = chain_on y c.rules-count.ensures.kept c.args.symbol c.requires.symbol ps (map coded_of c.loop-rule.rows.items) h.symbols_of
    c.args.chains.now.heads.items nexts _ c.loop-rule.rule h.heads h.chains c.loop-rule.invariant lt in
    let codes = c.in_ok-codes.ensures ∙ ap (λ n. numbered_from 0 (arguments_at ps n)) part in
    rows_next y c.rules-count.ensures.kept c.args.symbol c.requires.symbol ps numbers (map coded_of c.loop-rule.rows.items)
    (map coded_of c.push.new.self.items) h.symbols_of c.loop-rule.rule c.index-rule-in-loop-rule.result.now c.requires.parts h.heads
    c.loop-rule.invariant lt
    (ap (map coded_of) c.in_ok-push.ensures.items ∙ map-append coded_of c.loop-rule.rows.items _
    ∙ ap (λ cs. map coded_of c.loop-rule.rows.items ++ (let r : Coded = record { number = c.loop-rule.rule; codes = cs } in r) ∷ []) codes)
    (subst (IsNext h.symbols_of c.args.symbol (suc c.loop-rule.rule)) (sym at) next)

pub returns : goal.returns
returns c =
    let long = pair-long (IsLetterRule c.args.checked.now.spec) c.rules-count.result.now c.args.checked.now.spec.rules c.rules-count.ensures.letters in
    let t = c.loop-rule-test.false in
    rows_all c.args.checked.now.spec c.rules-count.ensures.kept c.args.symbol c.requires.symbol c.args.self.now.parts
    (map coded_of c.loop-rule.rows.items) c.loop-rule.rule c.loop-rule.invariant (omega (arith, t, long))
