-- Texts that are made of lines: their fronts, and how many line ends these have.
use Rattle.std.proofs.Common.{suc, ◌≡◌, ℕ, ◌+◌, ◌<◌, ◌≤◌, List, [], ◌∷◌, ◌++◌, Option, take, drop, get_or, length, length-take-le}
use Rattle.std.proofs.Common.{refl, sym, ap, subst, ◌∙◌, append_assoc, append-nil, take_all, take-append-drop, arith}
use Rattle.std.specs.Prelude.{All, flat_map, codes}
use Rattle.std.proofs.lemmas.List.Elements.{All-take}
use Rattle.std.proofs.lemmas.List.{take_more}
use Rattle.std.proofs.lemmas.List.Concat.{flat_map-append}
use Rattle.std.specs.Io.KnownBytes.{Appends}
use Rattle.rx_text.specs.Written.{AppendsFront, IsFront}
use Rattle.rx_run.specs.Bytes.{newlines}
use Rattle.rx_run.specs.Run.{Reports, ReportsAfter, Stops, StopsAfter}
use Rattle.rx_run.specs.declared.ending.RunFault.{RunFault}
use Rattle.rx_run.specs.declared.ending.RunFault.TheVariants as fault
use Rattle.rx_text.proofs.AppendingLemmas.{appends_both}
use Rattle.rx_run.proofs.NewlineLemmas.{newlines-append}

-- a line for each item, with this text
abbrev pub lines_of : {X : Type 0} → (X → List ℕ) → List X → List ℕ
lines_of f items = flat_map (λ x. f x ++ codes "\n") items

-- no text of these items has a line end
abbrev pub NoEnds : {X : Type 0} → (X → List ℕ) → List X → Type 0
NoEnds f items = All (λ x. newlines (f x) ≡ 0) items

-- each line has one line end
pub newlines-lines_of : {X : Type 0} (f : X → List ℕ) (items : List X) → NoEnds f items → newlines (lines_of f items) ≡ length items
newlines-lines_of f [] none = refl
newlines-lines_of f (x ∷ items) none =
    let both = newlines-append (f x ++ codes "\n") (lines_of f items) in
    let line = newlines-append (f x) (codes "\n") in
    let one : newlines (codes "\n") ≡ 1 = refl in
    let text : newlines (f x) ≡ 0 = none 0 x (omega arith) in
    let others = newlines-lines_of f items (λ k d h. none (suc k) d (omega arith)) in
    omega (arith, both, line, one, text, others)

-- a front of a text without line ends has none
pub newlines-front : (front rest : List ℕ) → newlines (front ++ rest) ≡ 0 → newlines front ≡ 0
newlines-front front rest h = let e = newlines-append front rest in omega (arith, e, h)

-- the lines up to an item, and its own
lines_of-more : {X : Type 0} (f : X → List ℕ) (items : List X) (i : ℕ) (d : X) → i < length items
    → lines_of f (take (i + 1) items) ≡ lines_of f (take i items) ++ (f (get_or items i d) ++ codes "\n")
lines_of-more f items i d h =
    ap (lines_of f) (take_more items i d h) ∙ flat_map-append (λ x. f x ++ codes "\n") (take i items) (get_or items i d ∷ [])
    ∙ ap (λ z. lines_of f (take i items) ++ z) (append-nil (f (get_or items i d) ++ codes "\n"))

pub appends_more : {X : Type 0} (f : X → List ℕ) (items : List X) (i : ℕ) (d : X) (old between new : Option (List ℕ)) → i < length items
    → Appends old between (lines_of f (take i items)) → Appends between new (f (get_or items i d) ++ codes "\n")
    → Appends old new (lines_of f (take (i + 1) items))
appends_more f items i d old between new low before line =
    subst (λ text. Appends old new text) (sym (lines_of-more f items i d low))
    (appends_both old between new (lines_of f (take i items)) (f (get_or items i d) ++ codes "\n") before line)

-- the lines of all items
pub appends_all : {X : Type 0} (f : X → List ℕ) (items : List X) (i : ℕ) (old new : Option (List ℕ)) → length items ≤ i
    → Appends old new (lines_of f (take i items)) → Appends old new (lines_of f items)
appends_all f items i old new all h = subst (λ text. Appends old new text) (ap (lines_of f) (take_all i items all)) h

-- the lines up to an item begin all lines
lines_of-front : {X : Type 0} (f : X → List ℕ) (items : List X) (i : ℕ) (d : X) → i < length items
    → (rest : List ℕ) × (lines_of f items ≡ lines_of f (take i items) ++ (f (get_or items i d) ++ codes "\n" ++ rest))
lines_of-front f items i d h = (
  lines_of f (drop (i + 1) items),
  ap (lines_of f) (sym (take-append-drop (i + 1) items)) ∙ flat_map-append (λ x. f x ++ codes "\n") (take (i + 1) items) (drop (i + 1) items)
      ∙ ap (λ z. z ++ lines_of f (drop (i + 1) items)) (lines_of-more f items i d h)
      ∙ append_assoc (lines_of f (take i items)) (f (get_or items i d) ++ codes "\n") (lines_of f (drop (i + 1) items)),
)

-- a front of a line after the lines before it is a front of all lines
pub front_in_lines : {X : Type 0} (f : X → List ℕ) (items : List X) (i : ℕ) (d : X) (front rest : List ℕ) → i < length items
    → f (get_or items i d) ++ codes "\n" ≡ front ++ rest → IsFront (lines_of f (take i items) ++ front) (lines_of f items)
front_in_lines f items i d front rest h e =
    let all = lines_of-front f items i d h in
    let before = lines_of f (take i items) in (
      rest ++ all.0,
      all.1 ∙ ap (λ z. before ++ (z ++ all.0)) e ∙ ap (λ z. before ++ z) (append_assoc front rest all.0) ∙ sym (append_assoc before front (rest ++ all.0)),
    )

-- a front of a text is a front of its line
pub front_in_line : (text front rest : List ℕ) → text ≡ front ++ rest → text ++ codes "\n" ≡ front ++ (rest ++ codes "\n")
front_in_line text front rest e = ap (λ z. z ++ codes "\n") e ∙ append_assoc front rest (codes "\n")

-- before the line end of an item there are as many line ends as its number
pub ends_before : {X : Type 0} (f : X → List ℕ) (items : List X) (i : ℕ) (d : X) (front rest : List ℕ) → NoEnds f items → i < length items
    → f (get_or items i d) ≡ front ++ rest → i ≡ newlines (lines_of f (take i items) ++ front)
ends_before f items i d front rest no_ends h e =
    let both = newlines-append (lines_of f (take i items)) front in
    let before = newlines-lines_of f (take i items) (All-take (λ x. newlines (f x) ≡ 0) i items no_ends) in
    let long : length (take i items) ≡ i = length-take-le i items (omega (arith, h)) in
    let none = newlines-front front rest (ap newlines (sym e) ∙ no_ends i d h) in
    omega (arith, both, before, long, none)

reports_all : (stop : RunFault) (first : ℕ) (before written : List ℕ) → newlines before ≡ first → ReportsAfter first stop written
    → Reports stop (before ++ written)
reports_all (fault.Memory lines) first before written h k = let e = newlines-append before written in omega (arith, e, h, k)
reports_all (fault.Room lines) first before written h k = let e = newlines-append before written in omega (arith, e, h, k)
reports_all (fault.Deep lines) first before written h k = let e = newlines-append before written in omega (arith, e, h, k)
reports_all fault.Read first before written h k = absurd k
reports_all fault.Write first before written h k = tt

-- what stopped behind a text stopped within both
pub stops_behind : (stop : RunFault) (first : ℕ) (before text : List ℕ) (old between new : Option (List ℕ)) → newlines before ≡ first
    → Appends old between before → StopsAfter first stop text between new → Stops stop (before ++ text) old new
stops_behind stop first before text old between new h so_far s =
    record {
      written = before ++ s.written;
      appended = appends_both old between new before s.written so_far s.appended;
      front = (s.front.0, ap (λ z. before ++ z) s.front.1 ∙ sym (append_assoc before s.written s.front.0));
      reported = reports_all stop first before s.written h s.reported;
    }

-- what stopped within a text stopped within that and more
pub stops_before : (stop : RunFault) (text more : List ℕ) (old new : Option (List ℕ)) → Stops stop text old new → Stops stop (text ++ more) old new
stops_before stop text more old new s =
    record {
      written = s.written;
      appended = s.appended;
      front = (s.front.0 ++ more, ap (λ z. z ++ more) s.front.1 ∙ append_assoc s.written s.front.0 more);
      reported = s.reported;
    }

-- a front of a text that meets only the writer's refusal
pub stops_write : (text : List ℕ) (old new : Option (List ℕ)) → AppendsFront text old new → Stops fault.Write text old new
stops_write text old new (front, appended, is_front) = record { written = front; appended = appended; front = is_front; reported = tt }
