-- The contents of an engine without its store.
use Rattle.rx_term.specs.Store.{Store}
use Rattle.rec_syntax.specs.Syntax.{Spec}
use Rattle.rec_memo.specs.Pairs.{Pairs}
use Rattle.rec_engine.specs.Turn.{Ready}
use Rattle.rec_engine.specs.declared.engine.Options.{Options}
use Rattle.rec_engine.specs.declared.engine.prepared.Prepared.{Prepared}

-- spec_of p: the specification
abbrev pub spec_of : Prepared → Spec
spec_of p = p.checked.spec

-- options_of p: the settings
abbrev pub options_of : Prepared → Options
options_of p = p.options

-- memo_of p: the memoized results
abbrev pub memo_of : Prepared → Pairs
memo_of p = p.pace.memo

-- FitsIn w p: the code is that of the specification, whose symbols the store has, and all memoized
-- results and constants are correct for the store
pub record FitsIn (w : Store) (p : Prepared) : Type 0 where
  pub ready : Ready (spec_of p) p.code w p.pace
