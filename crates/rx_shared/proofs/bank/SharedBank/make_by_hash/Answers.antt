use Rattle.std.proofs.Common.{subst, arith}
use Rattle.rx_arena.specs.Arena.{chain_at}
use Rattle.rx_shared.specs.Inner.Finding.{IsAbsent}
use Rattle.rx_shared.proofs.AddingLemmas.{chain_below}
use Rattle.rx_shared.proofs.BodyLemmas.{found-cell, nowhere-else}
use Rattle.rx_shared.proofs.HintLemmas.{found-beside, ruled-out}
use Rattle.rx_shared.proofs.bank.SharedBank.make_by_hash.Goals as goal
use Rattle.rx_shared.proofs.bank.SharedBank.make_by_hash.Goals.{then-told-gt0+then-not-rules_out+in_default, else-told-gt0}
use Rattle.rx_shared.proofs.bank.SharedBank.make_by_hash.Goals.{else-told-gt0-via-then-told-gt0+else-not-rules_out}
use Rattle.rx_shared.proofs.bank.SharedBank.make_by_hash.Goals.{else-told-gt0-via-else-told-gt0}

pub find-requires-clause-chain : goal.find-requires-clause-chain
find-requires-clause-chain c = chain_below c.args.self.now c.home-chain.result c.args.body.hash c.home-chain.ensures

pub find-requires-clause-all_written : goal.find-requires-clause-all_written
find-requires-clause-all_written c = c.args.self.now.tidy.written

pub returns-in-Some : goal.returns-in-Some
returns-in-Some c =
    let b = c.args.self.now in
    found-beside b c.args.body c.requires.tree c.in-Some.slot.0 (found-cell b.arena c.args.body c.in-Some.slot.0 c.in-Some.ensures) _

pub add-requires-clause-nowhere : goal.add-requires-clause-nowhere
add-requires-clause-nowhere c =
    let b = c.args.self.now in
    elim c.if-told-gt0.branch [
      | then-told-gt0+then-not-rules_out+in_default w ↦ nowhere-else b.arena c.args.body b.tidy c.requires.written
          (subst (λ n. IsAbsent b.arena c.args.body (chain_at b.arena n)) c.home-chain.ensures w.in_default.ensures)
      | else-told-gt0 w ↦ elim w.else-told-gt0.branch [
        | else-told-gt0-via-then-told-gt0+else-not-rules_out v ↦ ruled-out b c.args.body c.requires.written (v.rules_out.ensures v.if-not-rules_out.false)
        | else-told-gt0-via-else-told-gt0 v ↦ c.requires.nowhere (let none = v.if-told-gt0.false in omega (arith, none))
      ]
    ]
