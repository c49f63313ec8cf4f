-- The lines of an answer: which are due, and what is left where writing them stops.
use Rattle.std.proofs.Common.{◌≡◌, ℕ, ◌+◌, ◌<◌, List, [], ◌∷◌, ◌++◌, Option, Some, None, true, false, IfSome, IsSome}
use Rattle.std.proofs.Common.{length, take, drop, get_or, refl, sym, ap, subst, ◌∙◌, arith, append-nil, take-append-drop}
use Rattle.std.specs.Prelude.{IsTrue, codes, flat_map}
use Rattle.std.proofs.lemmas.List.{take_more, length-take}
use Rattle.std.proofs.lemmas.List.Concat.{flat_map-append}
use Rattle.std.specs.Io.KnownBytes.{Appends}
use Rattle.rx_term.specs.Tree.{Tree, is_tree}
use Rattle.rx_term.specs.Steps.{IsSound}
use Rattle.rx_term.specs.Store.{Store, tree_at}
use Rattle.rx_term.specs.Walks.{AllHeld, HaveTrees}
use Rattle.rx_term.specs.declared.Term.{Term}
use Rattle.rx_term.proofs.WalkLemmas.{AllHeld-first, AllHeld-rest, AllHeld-take, AllHeld-from_trees}
use Rattle.rx_text.specs.Canon.{canon}
use Rattle.rx_text.proofs.InLineLemmas.{stays_in_line}
use Rattle.rx_pattern.specs.Held.{Binds}
use Rattle.rx_text.specs.Written.{AppendsFront}
use Rattle.rx_run.specs.Bytes.{newlines}
use Rattle.rx_run.specs.Due.{done}
use Rattle.rx_run.specs.Run.{Stops, StopsAfter}
use Rattle.rx_run.specs.TermRuns.{line_at, lines_at, term_line}
use Rattle.rx_run.specs.PatternRuns.{match_lines}
use Rattle.rx_run.specs.declared.ending.RunFault.{RunFault}
use Rattle.rx_run.specs.declared.ending.RunFault.TheVariants as fault
use Rattle.rx_text.proofs.AppendingLemmas.{appends_both, appends_same, front_after, front_before}
use Rattle.rx_run.proofs.NewlineLemmas.{newlines-append}
use Rattle.rx_run.proofs.LineFrontLemmas.{front_in_line, newlines-front, stops_before, stops_behind}
use Rattle.rx_run.proofs.TermDueLemmas.{in_line-newlines}

-- their lines are those of the trees
pub lines-trees : (w : Store) (rs : List Term) (ts : List Tree) → HaveTrees w rs ts → flat_map (line_at w) rs ≡ flat_map term_line ts
lines-trees w [] [] h = refl
lines-trees w [] (t ∷ ts) h = absurd h
lines-trees w (r ∷ rs) [] h = absurd h
lines-trees w (r ∷ rs) (t ∷ ts) (e, h) = rw (e, lines-trees w rs ts h) refl

-- what is due of a match
pub yes_due : (w : Store) (o : Option (List Tree)) (rs : List Term) → Binds w o rs true → done (codes "yes\n" ++ flat_map (line_at w) rs) ≡ done (match_lines o)
yes_due w None rs h = absurd h
yes_due w (Some bs) rs h = ap (λ text. done (codes "yes\n" ++ text)) (lines-trees w rs bs h)

pub no_due : (w : Store) (o : Option (List Tree)) (rs : List Term) → Binds w o rs false → done (codes "no\n") ≡ done (match_lines o)
no_due w None rs h = refl
no_due w (Some bs) rs h = absurd h

pub bound_held : (w : Store) (o : Option (List Tree)) (rs : List Term) → Binds w o rs true → AllHeld w rs
bound_held w None rs h = absurd h
bound_held w (Some bs) rs h = AllHeld-from_trees w rs bs h

-- the line of a reference has one line end
one_end : (w : Store) (t : Term) → IsSound w → IsSome (tree_at w t) → newlines (line_at w t) ≡ 1
one_end w t sound h = by (tree_at w t) refl h
  where
    by : (o : Option Tree) → tree_at w t ≡ o → IsSome o → newlines (line_at w t) ≡ 1
    by None e k = absurd (cc k)
    by (Some u) e k =
        let both = newlines-append (canon u) (codes "\n") in
        let none = in_line-newlines (canon u) (stays_in_line u (sound.valid t u e)).0 in
        let one : newlines (codes "\n") ≡ 1 = refl in
        let here : newlines (term_line u) ≡ 1 = omega (arith, both, none, one) in
        rw e here

-- as many line ends as references
pub ends_of_lines : (w : Store) (rs : List Term) → IsSound w → AllHeld w rs → newlines (flat_map (line_at w) rs) ≡ length rs
ends_of_lines w [] sound h = refl
ends_of_lines w (r ∷ rs) sound h =
    let both = newlines-append (line_at w r) (flat_map (line_at w) rs) in
    let one = one_end w r sound (AllHeld-first w r rs h) in
    let others = ends_of_lines w rs sound (AllHeld-rest w r rs h) in
    omega (arith, both, one, others)

-- the writer refused within a text
refused_within : (lines : ℕ) (text : List ℕ) (between new : Option (List ℕ)) → AppendsFront text between new → StopsAfter lines fault.Write text between new
refused_within lines text between new (front, a, rest) = record { written = front; appended = a; front = rest; reported = tt }

-- lines that are a text of a tree and a line end
module _ (text : Tree → List ℕ) where
  abbrev pub line : Tree → List ℕ
  line u = text u ++ codes "\n"

  -- memory ran out within the text of a tree
  stops_memory_in : (lines : ℕ) (u : Tree) (between new : Option (List ℕ)) → newlines (text u) ≡ 0 → AppendsFront (text u) between new
      → StopsAfter lines (fault.Memory lines) (line u) between new
  stops_memory_in lines u between new none (front, a, (rest, e)) =
      let no = newlines-front front rest (ap newlines (sym e) ∙ none) in
      record {
        written = front;
        appended = a;
        front = (rest ++ codes "\n", front_in_line (text u) front rest e);
        reported = omega (arith, no);
      }

  -- what holds of the line of a reference that is held, by what holds of its tree
  line_held : (w : Store) (t : Term) (P : Tree → Type 0) (Q : List ℕ → Type 0) → IsSome (tree_at w t) → IfSome (tree_at w t) P
      → ((u : Tree) → tree_at w t ≡ Some u → P u → Q (line u)) → Q (lines_at line w t)
  line_held w t P Q held h so = by (tree_at w t) refl held h
    where
      by : (o : Option Tree) → tree_at w t ≡ o → IsSome o → IfSome o P → Q (lines_at line w t)
      by None e k p = absurd (cc k)
      by (Some u) e k p = rw e (so u e p)

  pub stops_memory : (w : Store) (t : Term) (lines : ℕ) (between new : Option (List ℕ)) → IsSound w → ((u : Tree) → IsTrue (is_tree u) → newlines (text u) ≡ 0)
      → IsSome (tree_at w t) → IfSome (tree_at w t) (λ u. AppendsFront (text u) between new) → StopsAfter lines (fault.Memory lines) (lines_at line w t) between new
  stops_memory w t lines between new sound none held h =
      line_held w t (λ u. AppendsFront (text u) between new) (λ x. StopsAfter lines (fault.Memory lines) x between new) held h
      (λ u e f. stops_memory_in lines u between new (none u (sound.valid t u e)) f)

  -- the writer refused the text, or the line end
  pub text_refused : (w : Store) (t : Term) (lines : ℕ) (between new : Option (List ℕ)) → IsSome (tree_at w t)
      → IfSome (tree_at w t) (λ u. AppendsFront (text u) between new) → StopsAfter lines fault.Write (lines_at line w t) between new
  text_refused w t lines between new held h =
      line_held w t (λ u. AppendsFront (text u) between new) (λ x. StopsAfter lines fault.Write x between new) held h
      (λ u e f. refused_within lines (line u) between new (front_before between new (text u) (codes "\n") f))

  pub end_refused : (w : Store) (t : Term) (lines : ℕ) (between mid new : Option (List ℕ)) → IsSome (tree_at w t)
      → IfSome (tree_at w t) (λ u. Appends between mid (text u)) → AppendsFront (codes "\n") mid new
      → StopsAfter lines fault.Write (lines_at line w t) between new
  end_refused w t lines between mid new held h f =
      line_held w t (λ u. Appends between mid (text u)) (λ x. StopsAfter lines fault.Write x between new) held h
      (λ u e a. refused_within lines (line u) between new (front_after between mid new (text u) (codes "\n") a f))

  pub line_written : (w : Store) (t : Term) (old mid new : Option (List ℕ)) → IsSome (tree_at w t)
      → IfSome (tree_at w t) (λ u. Appends old mid (text u)) → Appends mid new (codes "\n") → Appends old new (lines_at line w t)
  line_written w t old mid new held h k =
      line_held w t (λ u. Appends old mid (text u)) (λ x. Appends old new x) held h (λ u e a. appends_both old mid new (text u) (codes "\n") a k)

-- the printed form of a valid tree has no line end
pub canon_none : (u : Tree) → IsTrue (is_tree u) → newlines (canon u) ≡ 0
canon_none u h = in_line-newlines (canon u) (stays_in_line u h).0

-- a fault after no line
pub stops_first : (f : RunFault) (text : List ℕ) (old new : Option (List ℕ)) → StopsAfter 0 f text old new → Stops f text old new
stops_first f text old new s = stops_behind f 0 [] text old old new refl (appends_same old) s

-- `yes` and the lines of these references
abbrev pub yes_lines : Store → List Term → List ℕ
yes_lines w rs = codes "yes\n" ++ flat_map (line_at w) rs

-- with one reference more
pub yes_lines-more : (w : Store) (rs : List Term) (i : ℕ) (d : Term) → i < length rs
    → yes_lines w (take (i + 1) rs) ≡ yes_lines w (take i rs) ++ line_at w (get_or rs i d)
yes_lines-more w rs i d h =
    ap (λ z. codes "yes\n" ++ z) (
    ap (flat_map (line_at w)) (take_more rs i d h) ∙ flat_map-append (line_at w) (take i rs) (get_or rs i d ∷ [])
    ∙ ap (λ z. flat_map (line_at w) (take i rs) ++ z) (append-nil (line_at w (get_or rs i d))))

-- those up to a reference begin all
yes_lines-front : (w : Store) (rs : List Term) (i : ℕ) → yes_lines w rs ≡ yes_lines w (take i rs) ++ flat_map (line_at w) (drop i rs)
yes_lines-front w rs i =
    ap (λ z. codes "yes\n" ++ z) (ap (flat_map (line_at w)) (sym (take-append-drop i rs)) ∙ flat_map-append (line_at w) (take i rs) (drop i rs))

-- the line of a binding stopped: so did the lines
pub stops_binding : (w : Store) (rs : List Term) (i : ℕ) (d : Term) (f : RunFault) (old between new : Option (List ℕ)) → IsSound w → AllHeld w rs
    → i < length rs → Appends old between (yes_lines w (take i rs)) → StopsAfter (i + 1) f (line_at w (get_or rs i d)) between new
    → Stops f (yes_lines w rs) old new
stops_binding w rs i d f old between new sound held low wrote stops =
    let long = length-take i rs in
    let ends = ends_of_lines w (take i rs) sound (AllHeld-take w rs i held) in
    let both = newlines-append (codes "yes\n") (flat_map (line_at w) (take i rs)) in
    let first : newlines (codes "yes\n") ≡ 1 = refl in
    let count : newlines (yes_lines w (take i rs)) ≡ i + 1 = omega (arith, long, ends, both, first, low) in
    let s = stops_behind f (i + 1) (yes_lines w (take i rs)) (line_at w (get_or rs i d)) old between new count wrote stops in
    let so_far : Stops f (yes_lines w (take (i + 1) rs)) old new = subst (λ (text : List ℕ). Stops f text old new) (sym (yes_lines-more w rs i d low)) s in
    subst (λ (text : List ℕ). Stops f text old new) (sym (yes_lines-front w rs (i + 1)))
    (stops_before f (yes_lines w (take (i + 1) rs)) (flat_map (line_at w) (drop (i + 1) rs)) old new so_far)
