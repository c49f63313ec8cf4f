-- What a run of a check leaves.
use Rattle.std.proofs.Common.{Vec, Global, Result, Ok, Err, ◌≡◌, ℕ, List, [], Option, Some, None, refl, sym, ap, subst, ◌∙◌, arith, inl, inr}
use Rattle.std.proofs.lemmas.Bool.{cases_lt}
use Rattle.std.proofs.lemmas.List.{append-nil, length-take, take_all, take_more}
use Rattle.std.proofs.lemmas.List.Concat.{flat_map-append}
use Rattle.std.proofs.lemmas.List.Kept.{IsNonDecreasingBy-filter}
use Rattle.std.specs.Prelude.{◌+◌, ◌<◌, ◌≤◌, ◌⊎◌, ◌∷◌, ◌++◌, flat_map, get_or, length, not, take, IfErr, IfOk, IfSome, OnOk}
use Rattle.std.specs.List.Sorted.{IsNonDecreasingBy}
use Rattle.std.specs.Io.KnownBytes.{Appends, Keeps}
use Rattle.rx_text.specs.Written.{AppendsFront}
use Rattle.rx_text.proofs.AppendingLemmas.{appends_both, appends_none}
use Rattle.rec_syntax.specs.Tokens.{Word}
use Rattle.rec_syntax.specs.Syntax.{Spec}
use Rattle.rec_syntax.specs.Grammar.{SpecText}
use Rattle.rec_syntax.specs.Place.{IsFaultPlace}
use Rattle.rec_sorts.specs.SpecRules.{Verdict, Long, Grammar, Breaks, Good, SpecVerdict, Fits, Fault, fault}
use Rattle.rx_run.specs.Run.{StopsReading}
use Rattle.rx_run.specs.declared.ending.RunFault.{RunFault}
use Rattle.rx_run.specs.declared.ending.RunFault.TheVariants.{Memory, Room, Deep, Read, Write}
use Rattle.rec_check.specs.Errors.{AreErrors, errors, errors_of, rank}
use Rattle.rec_check.specs.Findings.{as_diagnostics, AreInOrder, AreUncovered, Found, HasSame}
use Rattle.rec_check.specs.Findings.{found_alone, found_at, found_on, judgement_of, warnings}
use Rattle.rec_check.specs.Lines.{lines_of}
use Rattle.rec_check.specs.Silenced.{is_silenced, unsilenced}
use Rattle.rec_check.specs.Runs.{AreFound, Examined, Stops, Tells, TellsFront}
use Rattle.rec_check.specs.declared.finding.Diagnostic.{Diagnostic}
use Rattle.rec_check.specs.declared.finding.Kind.{Kind}
use Rattle.rec_check.specs.declared.finding.Kind.TheVariants as kind
use Rattle.rec_check.specs.declared.finding.Rule.{Rule}
use Rattle.rec_check.specs.declared.runs.Examination.{Examination}
use Rattle.rec_check.specs.declared.runs.Judgement.{Judgement}
use Rattle.rec_check.specs.declared.runs.Judgement.TheVariants as judged
use Rattle.rec_check.proofs.CountLemmas.{same-append, same-filter, same-map, same-of, same-trans}

pub appends_kept : (old mid new : Option (List ℕ)) (xs : List ℕ) → Appends old mid xs → Keeps mid new → Appends old new xs
appends_kept old mid new xs a k = subst (Appends old new) (append-nil xs) (appends_both old mid new xs [] a (appends_none mid new k))

pub front_all : (old new : Option (List ℕ)) (xs : List ℕ) → Appends old new xs → AppendsFront xs old new
front_all old new xs a = (xs, a, ([], sym (append-nil xs)))

pub broken_examined : (text : List ℕ) (y : Spec) (f : Fault) (fs : List Found) → Fits text → SpecText text y → fault y ≡ Some f
    → AreErrors y f fs → Examined text fs judged.Refused
broken_examined text y f fs fits spelled broken o = record {
  verdict = Breaks f;
  is = (fits, (y, spelled, broken));
  are = (y, spelled, broken, o);
  ends = refl;
}

-- the errors in another order
pub if_ok_errors : {E : Type 0} (r : Result (Vec Diagnostic Global) E) (y : Spec) (f : Fault) (found : List Found) → HasSame (errors y) found
    → IfOk r (λ v. HasSame found (as_diagnostics v.items)) → IfOk r (λ v. IsNonDecreasingBy (rank f) (as_diagnostics v.items))
    → IfOk r (λ v. AreErrors y f (as_diagnostics v.items))
if_ok_errors (Ok v) y f found h k o = record { same = same-trans (errors y) found (as_diagnostics v.items) h k; ordered = o }
if_ok_errors (Err e) y f found h k o = tt

-- one rule more
pub errors_turn : (y : Spec) (rs : List Rule) (i : ℕ) (d : Rule) (old new : List Found) → i < length rs
    → HasSame (flat_map (errors_of y) (take i rs)) old → HasSame (old ++ errors_of y (get_or rs i d)) new
    → HasSame (flat_map (errors_of y) (take (i + 1) rs)) new
errors_turn y rs i d old new h before more =
    let r : Rule = get_or rs i d in
    let all : List Found = flat_map (errors_of y) (take i rs) in
    same-trans (flat_map (errors_of y) (take (i + 1) rs)) (all ++ errors_of y r) new
    (same-of (flat_map (errors_of y) (take (i + 1) rs)) (all ++ errors_of y r)
    (ap (flat_map (errors_of y)) (take_more rs i d h) ∙ flat_map-append (errors_of y) (take i rs) (r ∷ [])
    ∙ ap (λ fs. all ++ fs) (append-nil (errors_of y r))))
    (same-trans (all ++ errors_of y r) (old ++ errors_of y r) new
    (same-append all (errors_of y r) old (errors_of y r) before (same-of (errors_of y r) (errors_of y r) refl)) more)

-- the errors by one rule, in another order
pub on_ok_errors : {E : Type 0} (r : Result (Unit {0}) E) (k : Kind) (ws us : List Word) (old new : List Found) → HasSame ws us
    → OnOk r (new ≡ old ++ found_at k us) → OnOk r (HasSame (old ++ found_at k ws) new)
on_ok_errors (Ok u) k ws us old new h e = same-trans (old ++ found_at k ws) (old ++ found_at k us) new
    (same-append old (found_at k ws) old (found_at k us) (same-of old old refl)
    (same-map (λ w. found_on k w w.bytes) ws us h))
    (same-of (old ++ found_at k us) new (sym e))
on_ok_errors (Err f) k ws us old new h e = tt

-- the findings that are not silenced, in order
unsilenced_in_order : (text : List ℕ) (all fs : List Found) → AreInOrder all fs → AreInOrder (unsilenced text all) (unsilenced text fs)
unsilenced_in_order text all fs o = record {
  same = same-filter (λ f. not (is_silenced text f)) all fs o.same;
  ordered = IsNonDecreasingBy-filter (λ f. f.at) (λ f. not (is_silenced text f)) fs o.ordered;
}

pub good_examined : (text : List ℕ) (y : Spec) (us fs : List Found) (end : Judgement) → Fits text → SpecText text y → fault y ≡ None
    → AreUncovered y us → AreInOrder (warnings text y ++ us) fs → end ≡ judgement_of (Good y) (unsilenced text fs) → Examined text (unsilenced text fs) end
good_examined text y us fs end fits spelled good shown o e = record {
  verdict = Good y;
  is = (fits, spelled, good);
  are = (us, shown, unsilenced_in_order text (warnings text y ++ us) fs o);
  ends = e;
}

-- ---- a text, and what was read of it

long_verdict : (text bytes : List ℕ) (fs : List Found) (end : Judgement) (v : Verdict) → 16777216 < length text → 16777216 < length bytes
    → SpecVerdict text v → AreFound text v fs → end ≡ judgement_of v fs
    → (fs ≡ found_alone kind.TooLong 0) × Examined bytes fs end
long_verdict text bytes fs end Long h k is are e = (are, record { verdict = Long; is = k; are = are; ends = e })
long_verdict text bytes fs end (Grammar at) h k (fits, is) are e = absurd (omega (arith, h, fits))
long_verdict text bytes fs end (Breaks f) h k (fits, is) are e = absurd (omega (arith, h, fits))
long_verdict text bytes fs end (Good y) h k (fits, is, good) are e = absurd (omega (arith, h, fits))

same_lines : (name text bytes : List ℕ) (fs : List Found) → fs ≡ found_alone kind.TooLong 0 → lines_of name text fs ≡ lines_of name bytes fs
same_lines name text bytes fs e = ap (lines_of name text) e ∙ sym (ap (lines_of name bytes) e)

-- a text was read, or a byte more of it than a text may have
module _ (name bytes text : List ℕ) (read : text ≡ take 16777217 bytes) where
  pub tells_all : (end : Judgement) (old new : Option (List ℕ)) → Tells name text end old new → Tells name bytes end old new
  tells_all end old new h = by_length (cases_lt (length bytes) 16777217)
    where
      by_length : (length bytes < 16777217) ⊎ (16777217 ≤ length bytes) → Tells name bytes end old new
      by_length (inl short) = subst (λ t. Tells name t end old new) (read ∙ take_all 16777217 bytes (omega (arith, short))) h
      by_length (inr long) =
          let size : length text ≡ 16777217 = ap length read ∙ length-take 16777217 bytes ∙ (omega (arith, long)) in
          let both = long_verdict text bytes h.found end h.examined.verdict (omega (arith, size)) (omega (arith, long)) h.examined.is h.examined.are
          h.examined.ends in
          record { found = h.found; examined = both.1; written = subst (Appends old new) (same_lines name text bytes h.found both.0) h.written }

  pub tells_front_all : (old new : Option (List ℕ)) → TellsFront name text old new → TellsFront name bytes old new
  tells_front_all old new h = by_length (cases_lt (length bytes) 16777217)
    where
      by_length : (length bytes < 16777217) ⊎ (16777217 ≤ length bytes) → TellsFront name bytes old new
      by_length (inl short) = subst (λ t. TellsFront name t old new) (read ∙ take_all 16777217 bytes (omega (arith, short))) h
      by_length (inr long) =
          let size : length text ≡ 16777217 = ap length read ∙ length-take 16777217 bytes ∙ (omega (arith, long)) in
          let both = long_verdict text bytes h.found h.end h.examined.verdict (omega (arith, size)) (omega (arith, long)) h.examined.is h.examined.are
          h.examined.ends in
          record {
            found = h.found;
            end = h.end;
            examined = both.1;
            written =
                subst (λ ls. AppendsFront ls old new) (same_lines name text bytes h.found both.0) h.written;
          }

  pub stops_all : (fault : RunFault) (old new : Option (List ℕ)) → Stops name text fault old new → Stops name bytes fault old new
  stops_all (Memory lines) old new h = h
  stops_all (Room lines) old new h = h
  stops_all (Deep lines) old new h = h
  stops_all Read old new h = h
  stops_all Write old new h = tells_front_all old new h

-- a text was not read
keeps_same : (old : Option (List ℕ)) → Keeps old old
keeps_same None = tt
keeps_same (Some xs) = refl

stops_unread_of : (name text : List ℕ) (f : RunFault) (old : Option (List ℕ)) → StopsReading f → Stops name text f old old
stops_unread_of name text (Memory lines) old h = (h, keeps_same old)
stops_unread_of name text (Room lines) old h = absurd h
stops_unread_of name text (Deep lines) old h = absurd h
stops_unread_of name text Read old h = keeps_same old
stops_unread_of name text Write old h = absurd h

pub stops_unread : (name : List ℕ) (known : Option (List ℕ)) (f : RunFault) (old : Option (List ℕ)) → StopsReading f
    → IfSome known (λ text. Stops name text f old old)
stops_unread name None f old h = tt
stops_unread name (Some text) f old h = stops_unread_of name text f old h

-- what is found in one order and in another
pub if_ok_warned : {E : Type 0} (r : Result (Vec Diagnostic Global) E) (tried matching inside others examples found : List Found)
    → found ≡ tried ++ inside ++ others ++ examples → HasSame matching inside
    → IfOk r (λ v. AreInOrder found (as_diagnostics v.items)) → IfOk r (λ v. AreInOrder ((tried ++ matching ++ others) ++ examples) (as_diagnostics v.items))
if_ok_warned (Ok v) tried matching inside others examples found e h o = record {
  same = same-trans ((tried ++ matching ++ others) ++ examples) found (as_diagnostics v.items)
      (same-trans ((tried ++ matching ++ others) ++ examples) ((tried ++ inside ++ others) ++ examples) found
      (same-append (tried ++ matching ++ others) examples (tried ++ inside ++ others) examples
      (same-append (tried ++ matching) others (tried ++ inside) others (same-append tried matching tried inside (same-of tried tried refl) h)
      (same-of others others refl)) (same-of examples examples refl))
      (same-of ((tried ++ inside ++ others) ++ examples) found (sym e)))
      o.same;
  ordered = o.ordered;
}
if_ok_warned (Err f) tried matching inside others examples found e h o = tt

pub run_tells : (name read text : List ℕ) → text ≡ read → (known : Option (List ℕ)) (old new : Option (List ℕ)) (r : Result Judgement RunFault)
    → IfSome known (λ bytes. read ≡ take 16777217 bytes)
    → IfOk r (λ end. Tells name text end old new) → IfOk r (λ end. IfSome known (λ bytes. Tells name bytes end old new))
run_tells name read text e known old new (Err f) h k = tt
run_tells name read text e None old new (Ok end) h k = tt
run_tells name read text e (Some bytes) old new (Ok end) h k = tells_all name bytes text (e ∙ h) end old new k

pub run_stops : (name read text : List ℕ) → text ≡ read → (known : Option (List ℕ)) (old new : Option (List ℕ)) (r : Result Judgement RunFault)
    → IfSome known (λ bytes. read ≡ take 16777217 bytes)
    → IfErr r (λ f. Stops name text f old new) → IfErr r (λ f. IfSome known (λ bytes. Stops name bytes f old new))
run_stops name read text e known old new (Ok end) h k = tt
run_stops name read text e None old new (Err f) h k = tt
run_stops name read text e (Some bytes) old new (Err f) h k = stops_all name bytes text (e ∙ h) f old new k

pub fits_unless : (text : List ℕ) → (16777216 < length text → ⊥) → Fits text
fits_unless text h = by_length (cases_lt 16777216 (length text))
  where
    by_length : (16777216 < length text) ⊎ (length text ≤ 16777216) → Fits text
    by_length (inl long) = absurd (h long)
    by_length (inr short) = short

-- an examination with one finding
pub alone_examined : {E : Type 0} (r : Result Examination E) (text : List ℕ) (fs : List Found) → IfOk r (λ e. as_diagnostics e.diagnostics.items ≡ fs)
    → IfOk r (λ e. e.judgement ≡ judged.Refused) → Examined text fs judged.Refused
    → IfOk r (λ e. Examined text (as_diagnostics e.diagnostics.items) e.judgement)
alone_examined (Ok e) text fs found refused h =
    subst (λ gs. Examined text gs e.judgement) (sym found) (subst (λ j. Examined text fs j) (sym refused) h)
alone_examined (Err f) text fs found refused h = tt

pub outside_examined : (text : List ℕ) (at : ℕ) → Fits text → IsFaultPlace text at → Examined text (found_alone kind.Outside at) judged.Refused
outside_examined text at fits place = record { verdict = Grammar at; is = (fits, place); are = refl; ends = refl }
