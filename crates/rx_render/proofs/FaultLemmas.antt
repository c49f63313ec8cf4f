-- What is left where a look at a term stops.
use Rattle.std.proofs.Common.{ℕ, List, [], false, Option, Some, None, IfSome, IsSome, refl}
use Rattle.std.specs.Io.KnownBytes.{Appends}
use Rattle.std.specs.Option.{option_map_or}
use Rattle.std.specs.Prelude.{codes}
use Rattle.rx_term.specs.Tree.{Tree}
use Rattle.rx_text.specs.Written.{AppendsFront}
use Rattle.rx_text.specs.declared.faults.WriteFault.{WriteFault}
use Rattle.rx_text.specs.declared.faults.WriteFault.TheVariants.{Memory, Write}
use Rattle.rx_text.proofs.AppendingLemmas.{front_after, front_before}
use Rattle.rx_run.specs.Run.{StopsBy, fault_of_write}
use Rattle.rx_run.specs.declared.ending.RunFault.TheVariants as run
use Rattle.rx_render.specs.Due.{indented_lines}
use Rattle.rx_render.specs.Laid.{laid}
use Rattle.rx_render.specs.declared.layout.Indentation.{Indentation}

-- a front was written of a text whose lines are not counted
pub stops_front : (f : WriteFault) (text : List ℕ) (old new : Option (List ℕ)) → AppendsFront text old new
    → StopsBy false (fault_of_write f) text old new
stops_front Memory text old new (front, a, is) = record { written = front; appended = a; front = is; reported = refl }
stops_front Write text old new (front, a, is) = record { written = front; appended = a; front = is; reported = tt }

-- a front of the text of a tree over several lines
pub stops_laid : (f : WriteFault) (l : Indentation) (o : Option Tree) (old new : Option (List ℕ)) → IsSome o → IfSome o (λ u. AppendsFront (laid l u) old new)
    → StopsBy false (fault_of_write f) (option_map_or (indented_lines l) o []) old new
stops_laid f l None old new held h = absurd (cc held)
stops_laid f l (Some u) old new held h = stops_front f (indented_lines l u) old new (front_before old new (laid l u) (codes "\n") h)

-- the text of a tree over several lines was written, and the line end was refused
pub end_refused : (l : Indentation) (o : Option Tree) (old mid new : Option (List ℕ)) → IsSome o → IfSome o (λ u. Appends old mid (laid l u))
    → AppendsFront (codes "\n") mid new → StopsBy false run.Write (option_map_or (indented_lines l) o []) old new
end_refused l None old mid new held a f = absurd (cc held)
end_refused l (Some u) old mid new held a f = stops_front Write (indented_lines l u) old new (front_after old mid new (laid l u) (codes "\n") a f)
