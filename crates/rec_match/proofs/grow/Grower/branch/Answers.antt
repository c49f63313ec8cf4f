use Rattle.std.proofs.Common.{refl, sym, subst, ◌≡◌, length, map}
use Rattle.rec_match.specs.Parts.{coded_of, kept_codes, changed_codes}
use Rattle.rec_match.specs.Inner.Tasks.{tasks_of, Covers, Adds, BranchesOut, WritesSwitch}
use Rattle.rec_match.specs.Matching.{numbers_of}
use Rattle.rec_match.proofs.BranchLemmas.{switch_steps}
use Rattle.rec_match.proofs.grow.Grower.branch.Goals as goal

pub returns-clause-steps : goal.returns-clause-steps
returns-clause-steps c =
    let y = c.args.self.now.checked.now.spec in
    let ns = numbers_of c.args.self.now.links.now in
    let ps = c.args.self.now.left.now.parts in
    let register = c.args.opening.register in
    let width = c.args.opening.base in
    let low = c.args.window.low in
    let marks = c.args.work.now.marks.marked.items in
    let asked = c.args.work.now.marks.symbols.items in
    let window = c.in_ok-children.children.items in
    let coded = map coded_of c.args.rows.now in
    let shares = c.in_ok-shares.ensures in
    let covers : Covers ns asked low (length window) = subst (Covers ns asked low) (sym c.in_ok-children.ensures.long) c.requires.covers in
    let kept = subst (λ ms. map coded_of c.in_ok-left.left.items ≡ changed_codes (kept_codes ps register ms) coded) c.deref.ensures.value
    c.in_ok-left.ensures in
    switch_steps y ns ps c.requires.ready.ground c.args.work.now.growth.forest c.add.new.self.forest c.add_children.new.growth.forest
    c.write_switch.new.self _ _ _ c.args.node width register low
    coded c.in_ok-other.other marks asked window c.requires.marks.marked.listed covers c.requires.register
    (subst (λ xs. Adds c.args.work.now.growth.forest (tasks_of c.args.work.now.growth) c.add.new.self.forest (tasks_of c.add.new.self) width xs
    c.in_ok-other.other) kept c.in_ok-other.ensures)
    (subst (λ ks. BranchesOut y ns ps c.add.new.self.forest (tasks_of c.add.new.self) width coded c.add_children.new.growth.forest
    (tasks_of c.add_children.new.growth) register low ks window 0) shares.symbols
    (c.in_ok-children.ensures.branches register coded (record { symbols = refl; each = shares.each })))
    (subst (λ xs. WritesSwitch c.add_children.new.growth.forest c.write_switch.new.self c.args.node register low xs c.in_ok-other.other)
    c.deref-2.ensures.value c.in_ok-write_switch.ensures)
