use Rattle.std.proofs.Common.{◌≡◌, ◌-◌, ◌≤◌, List, drop, length, subst, take, take_all, arith}
use Rattle.std.proofs.lemmas.List.{drop-drop, length-drop}
use Rattle.rx_term.proofs.StoreLemmas.{Grows-refl, Grows-trans}
use Rattle.rx_text.specs.declared.nodes.Node.{Node}
use Rattle.rx_table.specs.Inner.Reading.{IsReading}
use Rattle.rx_table.specs.declared.reading.Stack.{Stack}
use Rattle.rx_table.proofs.ReadingLemmas.{reading-begins}
use Rattle.rx_table.proofs.reading.read_elements.Goals as goal

pub loop-at-init : goal.loop-at-init
loop-at-init g c =
    let w = g.B.TermBank.store c.args.bank.now in
    let stack : Stack = record { terms = c.new.result; needs = c.new-2.result } in
    record {
      reading = reading-begins w c.args.bytes.now c.args.nodes.now stack c.new.ensures.items c.new-2.ensures.items c.requires.enough c.requires.proper
          c.requires.names;
      grows = Grows-refl w;
      within = omega arith;
    }

pub loop-at-preserved : goal.loop-at-preserved
loop-at-preserved g c =
    let l = c.loop-at in
    let nodes = c.args.nodes.now in
    let count = c.in_ok-at.field-0 in
    let whole : take (length nodes - l.at) (drop l.at nodes) ≡ drop l.at nodes =
    take_all (length nodes - l.at) (drop l.at nodes) (omega (arith, length-drop l.at nodes)) in
    let within : count ≤ length (drop l.at nodes) = rw whole at c.in_ok-at.ensures.count.1 in
    record {
      reading = subst (λ (left : List Node). IsReading (g.B.TermBank.store c.read_next.new.bank) c.args.bytes.now nodes left c.read_next.new.stack)
          (drop-drop count l.at nodes) (rw whole at (c.in_ok-at.ensures.reading nodes (rw whole l.invariant.reading)));
      grows = Grows-trans l.invariant.grows c.read_next.ensures.grows;
      within = omega (arith, within, length-drop l.at nodes, l.invariant.within);
    }
