use Rattle.std.proofs.Common.{◌≡◌, ◌∙◌, Some, length, sym, ap, arith, slice_get}
use Rattle.std.proofs.lemmas.List.{length-map}
use Rattle.rx_term.specs.Tree.{from_list}
use Rattle.rx_term.specs.Walks.{held_trees}
use Rattle.rec_syntax.specs.Lexemes.{word_of}
use Rattle.rec_syntax.specs.Parts.{declaration_of, words_of}
use Rattle.rec_syntax.specs.Syntax.{Sourced, Spec}
use Rattle.rec_sorts.specs.Lookup.{symbols}
use Rattle.rec_sorts.specs.TermRules.{are_ill_sorted}
use Rattle.psilt_core.proofs.CallingLemmas.{judged_five, judged_none, judged_number, judged_six}
use Rattle.psilt_core.proofs.calling.judge.Goals as goal

pub returns-then-len-sorts-clause-broken : goal.returns-then-len-sorts-clause-broken
returns-then-len-sorts-clause-broken g c =
    let y = c.args.engine.now.spec in let w = g.B.TermBank.store c.args.engine.now.bank in let call = c.args.call.now in
    let source = c.syntax-syntax.result.now.source in let parts = c.in-Some-declaration.declaration.now in let d = declaration_of source parts in
    let spec = ap (λ (s : Sourced). s.spec) c.syntax-syntax.ensures.same ∙ c.checked.ensures in
    let at : Some d ≡ slice_get (symbols y) c.in-Some.number = c.in-Some-declaration.ensures.symbol
    ∙ ap (λ (z : Spec). slice_get (symbols z) c.in-Some.number) spec in
    let long : length d.arguments ≡ length parts.arguments.items = length-map parts.arguments.items (word_of source) in
    judged_five y w call.symbol c.in-Some.number d call.values.items c.in-Some.ensures.symbol at
    (λ e. let sorts = ap length c.as_slice-sorts.ensures in omega (arith, e, long, sorts, c.len.ensures, c.if-len-sorts.true))

pub returns-then-are_ill_sorted-clause-broken : goal.returns-then-are_ill_sorted-clause-broken
returns-then-are_ill_sorted-clause-broken g c =
    let y = c.args.engine.now.spec in let w = g.B.TermBank.store c.args.engine.now.bank in let call = c.args.call.now in
    let source = c.syntax-syntax.result.now.source in let parts = c.in-Some-declaration.declaration.now in let d = declaration_of source parts in
    let spec = ap (λ (s : Sourced). s.spec) c.syntax-syntax.ensures.same ∙ c.checked.ensures in
    let at : Some d ≡ slice_get (symbols y) c.in-Some.number = c.in-Some-declaration.ensures.symbol
    ∙ ap (λ (z : Spec). slice_get (symbols z) c.in-Some.number) spec in
    let long : length d.arguments ≡ length parts.arguments.items = length-map parts.arguments.items (word_of source) in
    let sorts = ap length c.as_slice-sorts.ensures in
    let filled : length call.values.items ≡ length d.arguments = omega (arith, long, sorts, c.len.ensures, c.if-len-sorts.false) in
    judged_six y w call.symbol c.in-Some.number d call.values.items c.in-Some.ensures.symbol at filled
    (ap (λ rs. are_ill_sorted y d.arguments (from_list (held_trees w rs))) (sym c.deref.ensures.value)
    ∙ ap (λ (ss : _). are_ill_sorted y (words_of source ss) (from_list (held_trees w c.deref.result.now))) (sym c.as_slice-sorts.ensures)
    ∙ sym c.are_ill_sorted.ensures ∙ c.if-are_ill_sorted.true)

pub returns-clause-kept : goal.returns-clause-kept
returns-clause-kept g c =
    let y = c.args.engine.now.spec in let w = g.B.TermBank.store c.args.engine.now.bank in let call = c.args.call.now in
    let source = c.syntax-syntax.result.now.source in let parts = c.in-Some-declaration.declaration.now in let d = declaration_of source parts in
    let spec = ap (λ (s : Sourced). s.spec) c.syntax-syntax.ensures.same ∙ c.checked.ensures in
    let at : Some d ≡ slice_get (symbols y) c.in-Some.number = c.in-Some-declaration.ensures.symbol
    ∙ ap (λ (z : Spec). slice_get (symbols z) c.in-Some.number) spec in
    let long : length d.arguments ≡ length parts.arguments.items = length-map parts.arguments.items (word_of source) in
    let sorts = ap length c.as_slice-sorts.ensures in
    let filled : length call.values.items ≡ length d.arguments = omega (arith, long, sorts, c.len.ensures, c.if-len-sorts.false) in
    judged_none y w call.symbol c.in-Some.number d call.values.items c.in-Some.ensures.symbol at filled
    (ap (λ rs. are_ill_sorted y d.arguments (from_list (held_trees w rs))) (sym c.deref.ensures.value)
    ∙ ap (λ (ss : _). are_ill_sorted y (words_of source ss) (from_list (held_trees w c.deref.result.now))) (sym c.as_slice-sorts.ensures)
    ∙ sym c.are_ill_sorted.ensures ∙ c.if-are_ill_sorted.false)

pub returns-clause-number : goal.returns-clause-number
returns-clause-number g c =
    let y = c.args.engine.now.spec in let w = g.B.TermBank.store c.args.engine.now.bank in let call = c.args.call.now in
    let source = c.syntax-syntax.result.now.source in let parts = c.in-Some-declaration.declaration.now in let d = declaration_of source parts in
    let spec = ap (λ (s : Sourced). s.spec) c.syntax-syntax.ensures.same ∙ c.checked.ensures in
    let at : Some d ≡ slice_get (symbols y) c.in-Some.number = c.in-Some-declaration.ensures.symbol
    ∙ ap (λ (z : Spec). slice_get (symbols z) c.in-Some.number) spec in
    let long : length d.arguments ≡ length parts.arguments.items = length-map parts.arguments.items (word_of source) in
    let sorts = ap length c.as_slice-sorts.ensures in
    let filled : length call.values.items ≡ length d.arguments = omega (arith, long, sorts, c.len.ensures, c.if-len-sorts.false) in
    judged_number y w call.symbol c.in-Some.number d call.values.items c.in-Some.ensures.symbol at filled c.in-Some.ensures.number c.requires.count
