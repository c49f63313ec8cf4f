use Rattle.std.proofs.Common.{sym, subst}
use Rattle.rec_memo.proofs.KnownLemmas.{IsKnown-empty}
use Rattle.rec_sorts.specs.Linked.{AreLinked}
use Rattle.rec_engine.specs.Machine.{IsCode}
use Rattle.rec_engine.specs.Remembered.{IsResult}
use Rattle.rec_engine.proofs.StayLemmas.{are-none}
use Rattle.rec_engine.proofs.engine.Engine.assemble.Goals as goal

pub invariant_of-result : goal.invariant_of-result
invariant_of-result g c =
    let y = c.args.checked.spec in
    let w = g.B.TermBank.store c.args.bank in
    let same = sym c.into_inner.ensures in (
      c.requires.terms,
      record {
        code = subst (IsCode y) same c.requires.code;
        linked = subst (λ code. AreLinked y w code.links) same c.requires.linked;
        constants = are-none y c.into_inner.result.ops.items w c.args.parts.pace.constants c.requires.constants;
        results = IsKnown-empty (IsResult y) w c.args.parts.pace.memo c.requires.memo.none;
      },
    )
