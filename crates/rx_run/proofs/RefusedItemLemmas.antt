-- From what was read of texts to what is told of an item that is refused.
use Rattle.std.proofs.Common.{◌≡◌, ℕ, List, Option, Some, None, Result, Ok, Err, length, sym, ap, ◌∙◌}
use Rattle.rx_term.specs.Tree.{Tree}
use Rattle.rx_term.specs.Store.{Store, tree_at}
use Rattle.rx_term.specs.declared.Term.{Term}
use Rattle.rx_term.specs.Walks.{HaveTrees}
use Rattle.rx_text.specs.Verdict.{Verdict, TooLong, Outside, Spelt, IsVerdict}
use Rattle.rx_pattern.specs.Filling as filling
use Rattle.rx_pattern.specs.Filling.{Fault, Kinds, filling, blanks}
use Rattle.rx_pattern.proofs.FittingLemmas.{HaveTrees-length}
use Rattle.rx_run.specs.PatternRuns.{SpellsPattern}
use Rattle.rx_run.specs.RefusedItems.{misfit_of}
use Rattle.rx_run.specs.Refusals.{refused_text}
use Rattle.rx_run.specs.TermRuns.{IsReadingOf}
use Rattle.rx_run.specs.declared.ending.Source.{Source}
use Rattle.rx_run.specs.declared.refusal.Reading.TheVariants as reading
use Rattle.rx_run.specs.declared.refusal.Refusal.{Refusal}
use Rattle.rx_run.specs.declared.refused_items.Misfit.{Misfit}
use Rattle.rx_run.specs.declared.refused_items.Misfit.TheVariants.{Count, Kind}
use Rattle.rx_run.proofs.TermDueLemmas.{same_verdict}

-- a text spells one pattern
pub one_pattern : (bytes : List ℕ) (p q : Tree) → SpellsPattern bytes p → SpellsPattern bytes q → p ≡ q
one_pattern bytes p q h k = let e = same_verdict bytes (Spelt p) (Spelt q) h.spelt k.spelt in cc e

-- ---- what is told after the verdict on a text

module _ {X : Type 0} (after : Verdict → Option X) where
  -- a text that spells no tree
  pub unspelt_item : (from : Source) (text : List ℕ) (r : Refusal) (v : Verdict) → after TooLong ≡ None → ((at : ℕ) → after (Outside at) ≡ None)
      → refused_text from v ≡ Some r → IsVerdict text v → (u : Verdict) → IsVerdict text u → None ≡ after u
  unspelt_item from text r TooLong long outside e h u k = sym long ∙ ap after (same_verdict text TooLong u h k)
  unspelt_item from text r (Outside at) long outside e h u k = sym (outside at) ∙ ap after (same_verdict text (Outside at) u h k)
  unspelt_item from text r (Spelt t) long outside e h u k = absurd (cc e)

  -- a text that spells a tree
  pub spelt_item : (from : Source) (w : Store) (text : List ℕ) (t : Term) (v : Verdict) (o : Option X) → IsReadingOf from w (reading.Good t) v
      → IsVerdict text v → ((s : Tree) → tree_at w t ≡ Some s → o ≡ after (Spelt s)) → (u : Verdict) → IsVerdict text u → o ≡ after u
  spelt_item from w text t v o (s, here, e) h is u k = is s here ∙ ap after (sym e ∙ same_verdict text v u h k)

-- ---- arguments

abbrev misfit_by : Tree → List Tree → Result Tree Fault → Option Misfit
misfit_by p ts r = elim r [ Ok t ↦ None | Err filling.Count ↦ Some (Count (length (blanks p)) (length ts)) | Err (Kinds at) ↦ Some (Kind at) ]

-- trees of another number
pub misfit_count : (w : Store) (p : Tree) (rs : List Term) (ts : List Tree) (wanted given : ℕ) → wanted ≡ length (blanks p) → given ≡ length rs
    → HaveTrees w rs ts → filling p ts ≡ Err filling.Count → Some (Count wanted given) ≡ misfit_of p ts
misfit_count w p rs ts wanted given is n held e =
    ap (λ k. Some (Count k given)) is
    ∙ ap (λ k. Some (Count (length (blanks p)) k)) (n ∙ HaveTrees-length w rs ts held)
    ∙ sym (ap (misfit_by p ts) e)

-- the first that is not taken
pub misfit_kind : (p : Tree) (ts : List Tree) (at : ℕ) → filling p ts ≡ Err (Kinds at) → Some (Kind at) ≡ misfit_of p ts
misfit_kind p ts at e = sym (ap (misfit_by p ts) e)
