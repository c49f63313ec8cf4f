-- What the errors of streams come from.
use Rattle.std.proofs.Common.{◌≡◌, ℕ, suc, ◌+◌, ◌≤◌, List, [], ◌∷◌, ◌++◌, Option, Some, None, IsErrAnd, Result, Ok, Err}
use Rattle.std.proofs.Common.{Bool, true, inl, inr, refl, sym, ap, length, arith, ◌∙◌}
use Rattle.std.specs.Prelude.{◌⊎◌, ◌||◌, MatchResult, codes}
use Rattle.std.proofs.lemmas.List.{length-append}
use Rattle.std.specs.Io.KnownBytes.{Keeps}
use Rattle.rx_text.specs.Input.{IsSameInput}
use Rattle.rx_text.specs.declared.input.Input.{Input}
use Rattle.rx_run.specs.Streams.{is_read}
use Rattle.rx_run.specs.declared.ending.RunFault.{RunFault}
use Rattle.rx_run.specs.declared.ending.RunFault.TheVariants as unread
use Rattle.rec_serve.specs.Conversation.{in_front, requests}
use Rattle.rec_serve.specs.Inner.Causes.{IsUncounted, OnRead, OnServeRead, ReportsServeRead, ReportsServeReads, is_write, returns_write}
use Rattle.rec_serve.specs.Inner.Reading.{Begins, Splits, all_in_front}
use Rattle.rec_serve.specs.Laws.{ended}
use Rattle.rec_serve.specs.Replies.{unread_fault}
use Rattle.rec_serve.specs.Inner.Steps.{StopsStep, stopped_after}
use Rattle.rec_serve.specs.declared.ending.ServeFault.{ServeFault}
use Rattle.rec_serve.specs.declared.ending.ServeFault.TheVariants as serve

-- ---- how many bytes requests are with their line ends

ended-length : (xs ys : List (List ℕ)) → length (ended (xs ++ ys)) ≡ length (ended xs) + length (ended ys)
ended-length [] ys = let e : 0 + length (ended ys) ≡ length (ended ys) = omega arith in sym e
ended-length (x ∷ xs) ys =
    let all = length-append (x ++ codes "\n") (ended (xs ++ ys)) in
    let front = length-append (x ++ codes "\n") (ended xs) in
    let rest = ended-length xs ys in
    omega (arith, all, front, rest)

-- at least one for each request
ended-count : (xs : List (List ℕ)) → length xs ≤ length (ended xs)
ended-count [] = omega arith
ended-count (x ∷ xs) =
    let all = length-append (x ++ codes "\n") (ended xs) in
    let one = length-append x (codes "\n") in
    let rest = ended-count xs in
    omega (arith, all, one, rest)

in_front-length : (b : ℕ) (rs : List (List ℕ)) → suc (length (ended rs)) ≤ length (ended (in_front b rs))
in_front-length b [] = omega arith
in_front-length b (r ∷ rs) = omega arith

front-length : (line : List ℕ) (rs : List (List ℕ)) → length line + length (ended rs) ≤ length (ended (all_in_front line rs))
front-length [] rs = omega arith
front-length (b ∷ bs) rs =
    let one = in_front-length b (all_in_front bs rs) in
    let rest = front-length bs rs in
    omega (arith, one, rest)

-- ---- more than can be counted

-- what is left is too much, so the whole is
pub uncounted_left : (old left : Option (List ℕ)) (done : List (List ℕ)) → Splits old left done → IsUncounted left → IsUncounted old
uncounted_left None left done h k = tt
uncounted_left (Some bytes) None done h k = absurd h
uncounted_left (Some bytes) (Some rest) done h k =
    let same = ap (λ rs. length (ended rs)) h in
    let both = ended-length done (requests rest) in
    omega (arith, same, both, k)

-- so many requests were read
pub uncounted_done : (old left : Option (List ℕ)) (done : List (List ℕ)) (count : ℕ) → Splits old left done → count ≡ length done
    → 18446744073709551615 ≤ count → IsUncounted old
uncounted_done None left done count h size many = tt
uncounted_done (Some bytes) None done count h size many = absurd h
uncounted_done (Some bytes) (Some rest) done count h size many =
    let same = ap (λ rs. length (ended rs)) h in
    let both = ended-length done (requests rest) in
    let each = ended-count done in
    omega (arith, same, both, each, size, many)

-- so many bytes of a request were read
pub uncounted_line : (old left : Option (List ℕ)) (line : List ℕ) → Begins old left line → 18446744073709551615 ≤ length line → IsUncounted old
uncounted_line None left line h many = tt
uncounted_line (Some bytes) None line h many = absurd h
uncounted_line (Some bytes) (Some rest) line h many =
    let same = ap (λ rs. length (ended rs)) h in
    let all = front-length line (requests rest) in
    omega (arith, same, all, many)

-- ---- causes

-- what holds of an error, where it is this one
pub told_at : {X E : Type 0} (r : Result X E) (x : E) (A : X → Type 0) (P : E → Type 0) → IsErrAnd r (λ e. e ≡ x) → P x → MatchResult r A P
told_at (Ok y) x A P h p = absurd h
told_at (Err e) x A P h p = rw h p

-- the reader refused, or more was left than can be counted
pub cannot_sooner : {C D E : Type 0} → (D → E) → C ⊎ D → C ⊎ E
cannot_sooner f (inl h) = inl h
cannot_sooner f (inr h) = inr (f h)

pub on_read : (C D : Type 0) (f : ServeFault) → (C → D) → OnRead C f → OnRead D f
on_read C D serve.Memory k h = h
on_read C D (serve.Read before) k h = k h
on_read C D (serve.Write before) k h = tt

pub read_after : (f : ServeFault) (answered : ℕ) (fault : ServeFault) (C D : Type 0) → fault ≡ stopped_after f answered → (C → D) → OnRead C f
    → OnServeRead D fault
read_after serve.Memory answered fault C D e k h = absurd h
read_after (serve.Read before) answered fault C D e k h = rw e (k h)
read_after (serve.Write before) answered fault C D e k h = rw e tt

-- a stream failed before anything of a reply was written
pub stops_unwritten : (Reply : List ℕ → List ℕ → Type 0) (f : ServeFault) (old was now : Option (List ℕ)) (C : Type 0) → OnRead C f → Keeps was now
    → StopsStep Reply f old was now
stops_unwritten Reply serve.Memory old was now C h k = absurd h
stops_unwritten Reply (serve.Read before) old was now C h k = k
stops_unwritten Reply (serve.Write before) old was now C h k = inl k

-- an error of the output, in a conversation and handed on
pub write_after : (f : ServeFault) (answered : ℕ) (fault : ServeFault) (new mid old : Bool) → fault ≡ stopped_after f answered → mid ≡ old
    → new ≡ (is_write f || mid) → new ≡ (is_write fault || old)
write_after serve.Memory answered fault new mid old e same h = rw e (h ∙ same)
write_after (serve.Read before) answered fault new mid old e same h = rw e (h ∙ same)
write_after (serve.Write before) answered fault new mid old e same h = rw e h

pub write_on : {X : Type 0} (r : Result X ServeFault) (f : ServeFault) (new mid old : Bool) → IsErrAnd r (λ e. e ≡ f) → mid ≡ old
    → new ≡ (is_write f || mid) → new ≡ (returns_write r || old)
write_on (Ok x) f new mid old e same h = absurd e
write_on (Err y) f new mid old e same h = rw e (h ∙ ap (λ b. is_write f || b) same)

-- a specification that was not read
pub unread_cause : (f : RunFault) (fault : ServeFault) (new old : Bool) (D : Type 0) → fault ≡ unread_fault f → new ≡ (is_read f || old)
    → OnServeRead ((new ≡ true) ⊎ D) fault
unread_cause (unread.Memory lines) fault new old D e h = rw e tt
unread_cause (unread.Room lines) fault new old D e h = rw e tt
unread_cause (unread.Deep lines) fault new old D e h = rw e tt
unread_cause unread.Read fault new old D e h = rw e (inl h)
unread_cause unread.Write fault new old D e h = rw e tt

pub unread_write : (f : RunFault) (fault : ServeFault) (old : Bool) → fault ≡ unread_fault f → old ≡ (is_write fault || old)
unread_write (unread.Memory lines) fault old e = rw e refl
unread_write (unread.Room lines) fault old e = rw e refl
unread_write (unread.Deep lines) fault old e = rw e refl
unread_write unread.Read fault old e = rw e refl
unread_write unread.Write fault old e = rw e refl

-- a specification that was read, and then requests
pub reads_second : {R S X : Type 0} (spec spec' : Input S) (old new : Input R) (known : Option (List ℕ)) (r : Result X ServeFault)
    → IsSameInput spec spec' × (spec'.refused ≡ spec.refused) → ReportsServeRead old new known r → ReportsServeReads spec spec' old new known r
reads_second spec spec' old new known (Ok x) first h = (first.0, h.0, (first.1, h.1))
reads_second spec spec' old new known (Err serve.Memory) first h = (first.0, h.0, tt)
reads_second spec spec' old new known (Err (serve.Read answered)) first h = (first.0, h.0, inr h.1)
reads_second spec spec' old new known (Err (serve.Write answered)) first h = (first.0, h.0, tt)
