use Rattle.std.proofs.Common.{◌≡◌, ◌<◌, ◌++◌, ◌∷◌, [], ◌∙◌, Option, Some, ap, arith, length, length-append, rules, subst, sym}
use Rattle.std.specs.Option.{option_to_list}
use Rattle.rx_term.specs.Tree.{Tree}
use Rattle.rx_term.proofs.StoreLemmas.{Grows-trans}
use Rattle.rx_table.specs.Inner.Walk.{part_tree}
use Rattle.rx_table.specs.Inner.Made.{AreMade}
use Rattle.rx_table.proofs.PartLemmas.{parts-some}
use Rattle.rx_table.proofs.MadeLemmas.{made-last, made-next}
use Rattle.rx_table.proofs.MadeLemmas.{copy-remade}
use Rattle.rx_table.proofs.copy.copy_parts.Goals as goal

pub loop-made-preserved : goal.loop-made-preserved
loop-made-preserved g c =
    let v = g.B.TermBank.store c.args.from.now in
    let keys = c.args.parts.now.terms.keys in
    let l = c.loop-made in
    let made = l.made.items in
    let m = g.C.TermBank.store l.to in
    let u = g.C.TermBank.store c.make_next.new.to in
    let copy = c.in_ok-copy.copy in
    let i = l.invariant in
    let pushed : c.push.new.self.items ≡ made ++ copy ∷ [] = search rules in
    let test = c.loop-made-test.true in
    let first = c.len.ensures ∙ l.made.ok.0 in
    let last = c.len-in-loop-made.ensures in
    let lt : length made < length keys = omega (arith, test, first, last) in
    let size = ap length pushed ∙ length-append made (copy ∷ []) in
    let here = subst (λ z. AreMade v keys (λ t. t) m z) (sym c.deref.ensures.value) i.made in
    let is = c.in_ok-copy.ensures.part (λ t. t) here
    ∙ ap (λ z. let o : Option Tree = Some z in o) (copy-remade (part_tree v keys (length c.deref.result.now)))
    ∙ ap (λ z. let o : Option Tree = Some (part_tree v keys (length z)) in o) c.deref.ensures.value in
    record {
      grows = Grows-trans i.grows c.make_next.ensures.grows;
      few = omega (arith, size, lt);
      made = made-next v keys (λ t. t) m made i.made u copy c.push.new.self.items c.make_next.ensures.grows lt is pushed;
    }

pub unwrap-requires : goal.unwrap-requires
unwrap-requires g c =
    let some = parts-some (g.B.TermBank.store c.args.from.now) c.requires.0 c.args.parts.now c.requires.1 in
    let test = c.loop-made-test.false in
    let first = c.len.ensures in
    let last = c.len-in-loop-made.ensures in
    c.pop.ensures.variant.1 (omega (arith, some, test, first, last))

pub returns-clause-copied : goal.returns-clause-copied
returns-clause-copied g c = λ t h.
    let v = g.B.TermBank.store c.args.from.now in
    let l = c.loop-made in
    let few = l.invariant.few in
    let test = c.loop-made-test.false in
    let first = c.len.ensures ∙ l.made.ok.0 in
    let last = c.len-in-loop-made.ensures in
    made-last v t c.args.parts.now h (λ t. t) (g.C.TermBank.store l.to) l.made.items l.invariant.made (omega (arith, few, test, first, last))
    c.pop.new.self.items c.unwrap.result (c.pop.ensures.items ∙ ap (λ o. c.pop.new.self.items ++ option_to_list o) c.unwrap.ensures)
