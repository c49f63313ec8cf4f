-- The lines of a term: which are due, and what is left where writing them stops.
use Rattle.std.proofs.Common.{◌≡◌, ℕ, ◌<◌, ◌≤◌, List, ◌++◌, Option, Some, None, IfSome, IsSome, length, nat_le, sym, ap, subst, ◌∙◌}
use Rattle.std.specs.Prelude.{IsTrue, codes, decimal, if◌then◌else◌}
use Rattle.std.proofs.lemmas.Bool.{le-leb, lt-leb}
use Rattle.std.specs.Io.KnownBytes.{Appends}
use Rattle.rx_term.specs.Tree.{Tree, is_tree}
use Rattle.rx_term.specs.Steps.{IsSound}
use Rattle.rx_term.specs.Store.{Store, tree_at}
use Rattle.rx_term.specs.declared.Term.{Term}
use Rattle.rx_text.specs.Canon.{canon}
use Rattle.rx_text.specs.Written.{AppendsFront}
use Rattle.rx_text.specs.declared.faults.WriteFault.{WriteFault}
use Rattle.rx_text.specs.declared.faults.WriteFault.TheVariants.{Memory, Write}
use Rattle.rx_run.specs.Bytes.{newlines}
use Rattle.rx_run.specs.Run.{Stops, fault_of_write}
use Rattle.rx_run.specs.TermRuns.{lines_at}
use Rattle.rx_run.proofs.PatternLineLemmas.{line, stops_first, stops_memory, text_refused}

-- memory ran out within the text of a term, or the writer refused it
pub text_stops : (text : Tree → List ℕ) (w : Store) (t : Term) (f : WriteFault) (old new : Option (List ℕ)) → IsSound w
    → ((u : Tree) → IsTrue (is_tree u) → newlines (text u) ≡ 0) → IsSome (tree_at w t) → IfSome (tree_at w t) (λ u. AppendsFront (text u) old new)
    → Stops (fault_of_write f) (lines_at (line text) w t) old new
text_stops text w t Memory old new sound none held h =
    stops_first _ _ old new (stops_memory text w t 0 old new sound none held h)
text_stops text w t Write old new sound none held h = stops_first _ _ old new (text_refused text w t 0 old new held h)

-- the text of a term's line of a limited length
abbrev pub bounded : ℕ → Tree → List ℕ
bounded n t = if nat_le (length (canon t)) n then canon t else codes "!bytes " ++ decimal n

short_text : (n : ℕ) (u : Tree) (text : List ℕ) → length text ≤ n → text ≡ canon u → bounded n u ≡ text
short_text n u text h e = ap (λ b. if b then canon u else codes "!bytes " ++ decimal n) (le-leb _ n (subst (λ x. length x ≤ n) e h)) ∙ sym e

-- all of it was written
pub wrote_short : (o : Option Tree) (n : ℕ) (text : List ℕ) (old new : Option (List ℕ)) → length text ≤ n → IfSome o (λ u. text ≡ canon u)
    → Appends old new text → IfSome o (λ u. Appends old new (bounded n u))
wrote_short None n text old new h e a = tt
wrote_short (Some u) n text old new h e a = subst (Appends old new) (sym (short_text n u text h e)) a

-- it is longer
pub wrote_bound : (o : Option Tree) (n : ℕ) (old new : Option (List ℕ)) → IfSome o (λ u. n < length (canon u))
    → Appends old new (codes "!bytes " ++ decimal n) → IfSome o (λ u. Appends old new (bounded n u))
wrote_bound None n old new h a = tt
wrote_bound (Some u) n old new h a = rw (lt-leb (length (canon u)) n h) a
