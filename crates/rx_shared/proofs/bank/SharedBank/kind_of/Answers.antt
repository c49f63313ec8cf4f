use Rattle.std.proofs.Common.{◌∙◌, arith}
use Rattle.std.proofs.lemmas.Int.{to_z-of_z}
use mir.Syntax.{w32}
use Rattle.rx_shared.proofs.ReadingLemmas.{is-int, is-nil, is-cons, is-appl, is-hole}
use Rattle.rx_shared.specs.Bodies.{whole}
use Rattle.rx_shared.proofs.bank.SharedBank.kind_of.Goals as goal

pub returns-then-face-eq-APPLICATION : goal.returns-then-face-eq-APPLICATION
returns-then-face-eq-APPLICATION c = is-appl c.args.self.now c.args.t (whole c.args.face) c.requires.holds.holds c.requires.holds.written
    c.requires.held c.if-face-eq-APPLICATION.true

pub returns-then-face-eq-LIST : goal.returns-then-face-eq-LIST
returns-then-face-eq-LIST c = is-cons c.args.self.now c.args.t (whole c.args.face) c.requires.holds.holds c.requires.holds.written c.requires.held
    c.if-face-eq-LIST.true

pub returns-then-face-eq-EMPTY : goal.returns-then-face-eq-EMPTY
returns-then-face-eq-EMPTY c = is-nil c.args.self.now c.args.t (whole c.args.face) c.requires.holds.holds c.requires.holds.written c.requires.held
    c.if-face-eq-EMPTY.true

pub returns-then-face-eq-INTEGER : goal.returns-then-face-eq-INTEGER
returns-then-face-eq-INTEGER c = is-int c.args.self.now c.args.t (whole c.args.face) c.requires.holds.holds c.requires.holds.written c.requires.held
    c.if-face-eq-INTEGER.true _ (to_z-of_z w32 c.cast_signed.result (let f = c.cast_signed.type_inv in omega (arith, f)) ∙ c.cast_signed.ensures)

pub returns-else-face-eq-INTEGER : goal.returns-else-face-eq-INTEGER
returns-else-face-eq-INTEGER c = is-hole c.args.self.now c.args.t (whole c.args.face) c.requires.holds.holds c.requires.holds.written c.requires.held
    c.if-face-eq-INTEGER.false c.if-face-eq-EMPTY.false c.if-face-eq-LIST.false c.if-face-eq-APPLICATION.false
