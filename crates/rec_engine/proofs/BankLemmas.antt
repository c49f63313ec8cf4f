-- What a bank's own calls leave of what an engine knows.
use Rattle.std.proofs.Common.{◌≡◌, ℕ, get_or}
use Rattle.rx_term.specs.Store.{Store}
use Rattle.rx_term.specs.Steps.{Grows, with_count}
use Rattle.rx_term.specs.declared.Term.{Term}
use Rattle.rec_syntax.specs.Syntax.{Spec}
use Rattle.rec_sorts.specs.Linked.{signature}
use Rattle.rec_memo.proofs.KnownLemmas.{IsKnown-Grows}
use Rattle.rec_engine.specs.declared.compile.code.Code.{Code}
use Rattle.rec_engine.specs.declared.heap.pace.Pace.{Pace}
use Rattle.rec_engine.specs.declared.engine.prepared.Prepared.{Prepared}
use Rattle.rec_engine.specs.Remembered.{IsResult}
use Rattle.rec_engine.specs.Prepared.{FitsIn}
use Rattle.rec_engine.specs.Turn.{Ready}
use Rattle.rec_engine.proofs.RootLemmas.{ready-counted}

ready-grown : (y : Spec) (c : Code) (w w' : Store) (pace : Pace) → Grows w w' → Ready y c w pace → Ready y c w' pace
ready-grown y c w w' pace g r = record {
  code = r.code;
  linked = record { counted = r.linked.counted; linked = λ k d lt. g.symbols (get_or c.links k d) (signature y k) (r.linked.linked k d lt) };
  constants = record { each = λ k t h u is. g.trees t u (r.constants.each k t h u is) };
  results = IsKnown-Grows (IsResult y) w w' pace.memo g r.results;
}

-- it still fits where its bank has grown
pub fits-grown : (w w' : Store) (p : Prepared) → Grows w w' → FitsIn w p → FitsIn w' p
fits-grown w w' p g f = record { ready = ready-grown p.checked.spec p.code w w' p.pace g f.ready }

-- and where one of its roots is counted otherwise
pub fits-counted : (w new : Store) (p : Prepared) (t : Term) (n : ℕ) → new ≡ with_count w t n → FitsIn w p → FitsIn new p
fits-counted w new p t n e f = record { ready = ready-counted p.checked.spec p.code w new p.pace t n e f.ready }
