-- The offset that the reader reports with a syntax error.
use Rattle.std.specs.Prelude.{ℕ, List}
use Rattle.rec_syntax.specs.Place.{IsFaultPlace}
use Rattle.rec_syntax.specs.declared.fault.SyntaxFault.{SyntaxFault}
use Rattle.rec_syntax.specs.declared.fault.SyntaxFault.TheVariants.{Long, Grammar, Memory}

-- IsPlaced bytes fault: if `fault` is a syntax error, its offset is the error offset of the text
abbrev pub IsPlaced : List ℕ → SyntaxFault → Type 0
IsPlaced bytes (Grammar at) = IsFaultPlace bytes at
IsPlaced bytes Long = Unit {0}
IsPlaced bytes Memory = Unit {0}
