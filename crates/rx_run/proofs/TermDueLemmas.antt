-- From what was read of a term's text to what is due.
use Rattle.std.proofs.Common.{◌≡◌, ◌≢◌, ℕ, Bool, true, false, suc, ◌+◌, List, [], ◌∷◌, ◌++◌, Option, Some, None, IfSome, IsSome, is_some, take, refl, sym, ap, subst, ◌∙◌, arith}
use Rattle.std.specs.Fmt.{digits}
use Rattle.std.specs.Prelude.{All, codes, decimal}
use Rattle.std.specs.Option.{option_map_or}
use Rattle.std.proofs.lemmas.Bool.Decides.{nat_tests}
use Rattle.std.proofs.lemmas.List.{length-take}
use Rattle.rx_term.specs.Tree.{Tree}
use Rattle.rx_term.specs.Parts.{part_count}
use Rattle.rx_term.specs.Store.{Store, tree_at}
use Rattle.rx_term.specs.declared.Term.{Term}
use Rattle.rx_text.specs.Verdict.{Verdict, TooLong, Outside, Spelt, IsVerdict}
use Rattle.rx_text.proofs.VerdictLemmas.{one_verdict}
use Rattle.rx_table.specs.Opened.{broken_by_table, tree_of_table}
use Rattle.rx_table.proofs.TableLemmas.{opens-no-rule}
use Rattle.rx_run.specs.Bytes.{newlines}
use Rattle.rx_run.specs.Due.{Due, done, refused}
use Rattle.rx_run.specs.Refusals.{ending_of, name_of, place_by, refusal_due, refused_text, word_of}
use Rattle.rx_run.specs.TermRuns.{IsDueIn, IsElementOf, IsTermHeld, IsUnrooted, NamesElement, cells_line, due_at, due_in, due_of, due_of_table, lines_at, table_due}
use Rattle.rx_run.specs.Readings.{IsReadingIn, IsTableReason}
use Rattle.rx_run.specs.Inner.TermReadings.{IsGivenIn, counted_lines}
use Rattle.rx_run.specs.declared.ending.Source.{Source}
use Rattle.rx_run.specs.declared.ending.Source.TheVariants as source
use Rattle.rx_run.specs.declared.refusal.Ending.{Ending}
use Rattle.rx_run.specs.declared.refusal.Reading.{Reading}
use Rattle.rx_run.specs.declared.refusal.Reading.TheVariants.{Refused, Good}
use Rattle.rx_run.specs.declared.refusal.Reason.{Reason}
use Rattle.rx_run.specs.declared.refusal.Reason.TheVariants as reason
use Rattle.rx_run.specs.declared.term.reading.InputForm.{InputForm}
use Rattle.rx_run.specs.declared.term.reading.InputForm.TheVariants as form
use Rattle.rx_run.specs.declared.refusal.Refusal.{Refusal}
use Rattle.rx_run.specs.declared.streams.TheConstants.{LIMIT}
use Rattle.rx_run.proofs.WholeRunLemmas.{same_refusal, short_front}

-- one byte past the limit is enough for the verdict
verdict_front : (bytes : List ℕ) (v : Verdict) → IsVerdict (take (LIMIT + 1) bytes) v → IsVerdict bytes v
verdict_front bytes TooLong h = let e = length-take (LIMIT + 1) bytes in omega (arith, e, h)
verdict_front bytes (Outside at) h = subst (λ text. IsVerdict text (Outside at)) (short_front bytes h.0) h
verdict_front bytes (Spelt t) h = subst (λ text. IsVerdict text (Spelt t)) (short_front bytes h.0) h

-- the verdict on what was read is that on the text
pub verdict_given : (known : Option (List ℕ)) (text : List ℕ) (v : Verdict) → IfSome known (λ bytes. text ≡ take (LIMIT + 1) bytes) → IsVerdict text v
    → IfSome known (λ bytes. IsVerdict bytes v)
verdict_given None text v e h = tt
verdict_given (Some bytes) text v e h = verdict_front bytes v (subst (λ t. IsVerdict t v) e h)

-- what is due after the verdict on a text that is refused is its refusal
pub refused_due : (lines : Tree → List ℕ) (r : Refusal) (v : Verdict) → refused_text source.Term v ≡ Some r → refusal_due r ≡ due_of lines v
refused_due lines r TooLong e = ap refusal_due (same_refusal e)
refused_due lines r (Outside at) e = ap refusal_due (same_refusal e)
refused_due lines r (Spelt t) e = absurd (cc e)

-- what is due of a tree by a rule that it breaks as a table
broken_due : (lines : Tree → List ℕ) (t : Tree) (rule : ℕ) → broken_by_table t ≡ Some rule
    → refused (codes "!term ") (codes "R" ++ decimal rule) None ≡ table_due lines t
broken_due lines t rule e = rw e refl

-- what is due of a tree that is not a table is its refusal
no_table_due : (lines : Tree → List ℕ) (t : Tree) (text : Source) (r : Reason) → text ≡ source.Term → IsTableReason t r
    → refused (word_of text) (name_of r) (place_by text r) ≡ table_due lines t
unfolding digits
no_table_due lines t text reason.NotTable e h = ap (λ s. refused (word_of s) (codes "R1") None) e ∙ broken_due lines t 1 h
no_table_due lines t text (reason.Element n) e h = ap (λ s. refused (word_of s) (codes "R2") None) e ∙ broken_due lines t 2 h.0
no_table_due lines t text r e h = absurd h

-- what is due of a table is the lines of its tree
table_opened : (lines : Tree → List ℕ) (t u : Tree) → tree_of_table t ≡ Some u → done (lines u) ≡ table_due lines t
table_opened lines t u e = rw (opens-no-rule t u e, e) refl

-- what is due for what a text came to is so after the verdict on it
due_after : (form : InputForm) (lines : Tree → List ℕ) (w : Store) (r : Reading Term) (v : Verdict) → IsReadingIn source.Term form w r v
    → due_at lines w r ≡ due_in form lines v
due_after form.Term lines w (Refused r) v e = refused_due lines r v e
due_after form.Term lines w (Good t) v (u, here, e) = ap (λ o. done (option_map_or lines o [])) here ∙ sym (ap (due_of lines) e)
due_after form.Table lines w (Refused r) TooLong e = refused_due lines r TooLong e
due_after form.Table lines w (Refused r) (Outside at) e = refused_due lines r (Outside at) e
due_after form.Table lines w (Refused r) (Spelt t) e = no_table_due lines t r.text r.reason e.0 e.1
due_after form.Table lines w (Good t) v (x, (u, is, opens, here)) =
    ap (λ o. done (option_map_or lines o [])) here ∙ table_opened lines x u opens ∙ sym (ap (due_of_table lines) is)

pub given_due : (form : InputForm) (lines : Tree → List ℕ) (known : Option (List ℕ)) (w : Store) (r : Reading Term) → IsGivenIn form known w r
    → IfSome known (λ bytes. IsDueIn form lines bytes (due_at lines w r))
given_due form lines None w r g = tt
given_due form lines (Some bytes) w r (v, is, h) = (v, h, due_after form lines w r v is)

pub given_held : (form : InputForm) (known : Option (List ℕ)) (w : Store) (r : Reading Term) → IsGivenIn form known w r → IsTermHeld w r
given_held form known w (Refused r) g = tt
given_held form.Term known w (Good t) (v, (u, here, e), h) = ap is_some here
given_held form.Table known w (Good t) (v, (x, (u, is, opens, here)), h) = ap is_some here

-- the number of an element that does not open
reason_element : (t : Tree) (bytes : List ℕ) (r : Reason) → IsTableReason t r → IsVerdict bytes (Spelt t) → IsElementOf r bytes
reason_element t bytes (reason.Element n) e h = (t, h, e.1)
reason_element t bytes r e h = tt

-- an error of the text itself has none
text_element : (bytes : List ℕ) (v : Verdict) (r : Refusal) → refused_text source.Term v ≡ Some r → IsElementOf r.reason bytes
text_element bytes TooLong r e = subst (λ (x : Refusal). IsElementOf x.reason bytes) (same_refusal (sym e)) tt
text_element bytes (Outside at) r e = subst (λ (x : Refusal). IsElementOf x.reason bytes) (same_refusal (sym e)) tt
text_element bytes (Spelt t) r e = absurd (cc e)

names_element : (form : InputForm) (w : Store) (r : Reading Term) (v : Verdict) (bytes : List ℕ) → IsReadingIn source.Term form w r v → IsVerdict bytes v
    → NamesElement (ending_of r) bytes
names_element form w (Good t) v bytes e h = tt
names_element form.Term w (Refused r) v bytes e h = text_element bytes v r e
names_element form.Table w (Refused r) TooLong bytes e h = text_element bytes TooLong r e
names_element form.Table w (Refused r) (Outside at) bytes e h = text_element bytes (Outside at) r e
names_element form.Table w (Refused r) (Spelt t) bytes e h = reason_element t bytes r.reason e.1 h

pub given_element : (form : InputForm) (known : Option (List ℕ)) (w : Store) (r : Reading Term) (ending : Ending) → IsGivenIn form known w r
    → ending ≡ ending_of r → IfSome known (NamesElement ending)
given_element form None w r ending g e = tt
given_element form (Some bytes) w r ending (v, is, h) e = subst (λ x. NamesElement x bytes) (sym e) (names_element form w r v bytes is h)

-- a text has one verdict at most
pub same_verdict : (bytes : List ℕ) (v w : Verdict) → IsVerdict bytes v → IsVerdict bytes w → v ≡ w
same_verdict bytes v w h k = let one = one_verdict bytes in one.2 v h ∙ sym (one.2 w k)

-- one thing is due for a text
pub one_due_in : (form : InputForm) (lines : Tree → List ℕ) (bytes : List ℕ) (d e : Due) → IsDueIn form lines bytes d → IsDueIn form lines bytes e → d ≡ e
one_due_in form lines bytes d e (v, h, is) (w, k, same) = is ∙ ap (due_in form lines) (same_verdict bytes v w h k) ∙ sym same

-- a byte that is no line end adds none
pub other_byte : (b : ℕ) (bs : List ℕ) → b ≢ 10 → newlines bs ≡ 0 → newlines (b ∷ bs) ≡ 0
other_byte b bs h k = grind (arith, nat_tests, h, k)

-- a text that stays in its line has none
pub in_line-newlines : (bs : List ℕ) → All (λ b. (b ≢ 10) × (b ≢ 9)) bs → newlines bs ≡ 0
in_line-newlines [] h = refl
in_line-newlines (b ∷ bs) h = other_byte b bs (h 0 0 (omega arith)).0 (in_line-newlines bs (λ k d lt. h (suc k) d (omega arith)))

-- the lines of a term whose parts are counted
pub counted_lines-at : (line : Tree → List ℕ) (w v : Store) (t : Term) (n : ℕ) → IsSome (tree_at w t) → tree_at v t ≡ tree_at w t
    → IfSome (tree_at w t) (λ u. n ≡ part_count u) → lines_at (counted_lines line) w t ≡ lines_at line v t ++ cells_line n
counted_lines-at line w v t n held same counted = by (tree_at w t) refl held counted
  where
    by : (o : Option Tree) → tree_at w t ≡ o → IsSome o → IfSome o (λ u. n ≡ part_count u)
        → lines_at (counted_lines line) w t ≡ lines_at line v t ++ cells_line n
    by None e h c = absurd (cc h)
    by (Some u) e h c = rw (same, e) (ap (λ k. line u ++ cells_line k) (sym c))

-- where protections stay, none come
pub still_unrooted : (reclaims : Bool) (old new : Store) → new.roots ≡ old.roots → IsUnrooted reclaims old → IsUnrooted reclaims new
still_unrooted false old new e h = tt
still_unrooted true old new e h = λ t. ap (λ roots. roots t) e ∙ h t

pub unrooted_for : (reclaims : Bool) (w : Store) → ((t : ℕ) → w.roots t ≡ 0) → IsUnrooted reclaims w
unrooted_for false w h = tt
unrooted_for true w h = h
