-- What is due after each verdict on the text of a term, spelled out.
use Rattle.std.proofs.Common.{refl}
use Rattle.std.specs.Prelude.{ℕ, List, codes, ◌≡◌, false, Option, Some, None}
use Rattle.std.specs.Fmt.{digits}
use Rattle.rx_term.specs.Tree.{Tree, Appl, none, more}
use Rattle.rx_text.specs.Verdict as term
use Rattle.rx_run.specs.Due.{Due}
use Rattle.rx_run.specs.TermRuns.{due_of, term_line, share_lines, IsTermDue, IsShareDue}
use Rattle.rx_run.specs.declared.ending.Finish.{Finish}
use Rattle.rx_run.specs.declared.ending.Finish.TheVariants.{Done, Refused}
use Rattle.rx_run.specs.declared.ending.Source.TheVariants as source
use Rattle.rx_run.specs.declared.ending.Named.TheVariants as named
use Rattle.rx_run.specs.declared.ending.Place.{Place}

abbrev due : Finish → List ℕ → Option Place → Due
due finish text place = record { finish = finish; text = text; place = place }

abbrev a : Tree
a = Appl (codes "a") false none none

abbrev b : Tree
b = Appl (codes "b") false none none

long_term : due_of term_line term.TooLong ≡ due Refused (codes "!term L1\n") None
long_term = refl

term_outside : due_of term_line (term.Outside 4) ≡ due Refused (codes "!term A\n") (Some (record { text = source.Term; rule = named.A; at = 4 }))
term_outside = refl

-- f(a,a)
abbrev shared : Tree
shared = Appl (codes "f") false (more a (more a none)) none

printed : due_of term_line (term.Spelt shared) ≡ due Done (codes "f(a,a)\n") None
printed = refl

counted : due_of share_lines (term.Spelt shared) ≡ due Done (codes "f(a,a)\ncells 5\n") None
unfolding digits
counted = refl

counted-annotated : due_of share_lines (term.Spelt (Appl (codes "a") false none (more b none))) ≡ due Done (codes "a{b}\ncells 4\n") None
unfolding digits
counted-annotated = refl

-- what is due where a term is printed, and where its parts are counted too
print_due : (bytes : List ℕ) → term.IsVerdict bytes (term.Spelt shared) → IsTermDue bytes (due Done (codes "f(a,a)\n") None)
print_due bytes h = (term.Spelt shared, h, refl)

share_due : (bytes : List ℕ) → term.IsVerdict bytes (term.Spelt shared) → IsShareDue bytes (due Done (codes "f(a,a)\ncells 5\n") None)
unfolding digits
share_due bytes h = (term.Spelt shared, h, refl)
