-- The rule chains that trees are built from.
use Rattle.std.specs.Prelude.{ℕ, List, length}
use Rattle.rec_syntax.specs.Syntax.{Spec}
use Rattle.rec_sorts.specs.Lookup.{symbols}
use Rattle.rec_match.specs.Inner.Built.{AreHeads}
use Rattle.rec_match.specs.Inner.Chains.{AreChains}
use Rattle.rec_match.specs.declared.chain.Chains.{Chains}

-- ChainsRules y c: `c` are the rule chains of each symbol
pub record ChainsRules (y : Spec) (c : Chains) : Type 0 where
  pub symbols_of : List ℕ
  pub heads : AreHeads y symbols_of
  pub chains : AreChains symbols_of (length (symbols y)) c
