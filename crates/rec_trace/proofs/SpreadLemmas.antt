-- Steps that are pushed: those of a ground term, and those of a side of a rule over a tree on top.
use Rattle.std.proofs.Common.{◌+◌, ◌-◌, ◌<◌, ◌≤◌, ℕ, arith, refl, sym, ap, subst, ◌∙◌, length, drop, take, get_or}
use Rattle.std.proofs.Common.{map}
use Rattle.std.specs.Prelude.{suc, ◌≡◌, Bool, true, false, List, [], ◌∷◌, ◌++◌, Option, Some, None, reverse}
use Rattle.std.specs.Prelude.{slice_get, if◌then◌else◌}
use Rattle.std.proofs.lemmas.List.{drop_all, length-take, length-take-le, reverse-append, take-append-le}
use Rattle.std.proofs.lemmas.Option.{slice_get-get_or}
use Rattle.rx_term.specs.Tree.{Tree}
use Rattle.rx_term.specs.Store.{Store}
use Rattle.rx_term.specs.Walks.{held_tree, held_trees}
use Rattle.rx_term.specs.declared.Term.{Term as Reference}
use Rattle.rec_syntax.specs.Syntax.{Rule, Spec, Term}
use Rattle.rec_sorts.specs.Lookup.{symbols}
use Rattle.rec_sorts.specs.SpecRules.{fault}
use Rattle.rec_sorts.specs.Binding.{Substitution, value_of}
use Rattle.rec_sorts.specs.Numbering.{IsMeaning, arity_of, name_of, named, named_by}
use Rattle.rec_sorts.specs.declared.letters.Letter.{Letter}
use Rattle.rec_sorts.specs.declared.letters.Meaning.{Meaning}
use Rattle.rec_sorts.specs.declared.letters.Meaning.TheVariants.{Symbol, Variable}
use Rattle.rec_match.proofs.BoundLemmas.{unbound}
use Rattle.rec_match.proofs.FactLemmas.{facts}
use Rattle.rec_engine.specs.Inner.Made.{IsApplied}
use Rattle.rec_engine.proofs.TermLemmas.{drop-end}
use Rattle.rx_term.proofs.WalkLemmas.{AllHeld-take}
use Rattle.rec_trace.specs.States.{Fits, Give, Invoke, Move, moves}
use Rattle.rec_trace.specs.Rows.{AreGiven, AreInRow, AreSteps, IsClear, IsPart, floor_of, moves_of, source_of}
use Rattle.rec_trace.specs.Rows.{stacked}
use Rattle.rec_trace.specs.Inner.Sides.{HasValues, IsMatch, IsRead, IsRow, move_of}
use Rattle.rec_trace.specs.Inner.Spreading.{HasSpread, PushesLetter, top_of}
use Rattle.rec_trace.specs.Inner.Turns.{IsGroundRow}
use Rattle.rec_trace.specs.declared.row.Row.{Row}
use Rattle.rec_trace.specs.declared.row.Step.{Step}
use Rattle.rec_trace.specs.declared.row.Step.TheVariants as step
use Rattle.rec_trace.proofs.PushLemmas.{binds-only, row-letter, row-long, row-moves}
use Rattle.rec_trace.proofs.RowLemmas.{given-fewer, stacked-more, top-last}
use Rattle.rec_trace.proofs.RunLemmas.{fits-one}

-- the step that is pushed, or taken off
pub pushed-step : (xs ys : List Step) (x : Step) → xs ≡ ys ++ x ∷ [] → reverse xs ≡ x ∷ reverse ys
pushed-step xs ys x e = ap reverse e ∙ reverse-append ys (x ∷ [])

-- ---- the calls of a ground term's letters

pub ground-first : (y : Spec) (steps : List Step) (ls : List Letter) (k : ℕ) → steps ≡ [] → k ≡ length ls → IsGroundRow y steps (drop k ls)
ground-first y steps ls k e long =
    subst (λ xs. IsGroundRow y steps xs) (sym (drop-end ls k (omega (arith, long))))
    (subst (λ (xs : List Step). IsGroundRow y xs []) (sym e)
    (record { steps_are = tt; given = λ w vs. tt; floor = refl; clear = λ n fits. tt; moves_are = λ w. refl }))

pub ground-more : (y : Spec) (steps longer : List Step) (l : Letter) (ls : List Letter) (k : ℕ) → IsGroundRow y steps ls → IsApplied y l
    → l.meaning ≡ Symbol k → longer ≡ steps ++ step.Invoke k l.count ∷ [] → IsGroundRow y longer (l ∷ ls)
ground-more y steps longer l ls k row applied is e =
    let number : applied.number ≡ k = symbol-same applied.number k (sym applied.symbol ∙ is) in
    let turned = pushed-step longer steps (step.Invoke k l.count) e in
    record {
      steps_are = subst (AreSteps y) (sym turned) (
        subst (λ j. j < length (symbols y)) number applied.declared,
        ap (arity_of y) (sym number) ∙ applied.filled,
        row.steps_are,
      );
      given = λ w vs. subst (λ ss. AreGiven w ss vs) (sym turned) (row.given w vs);
      floor = ap floor_of turned ∙ row.floor;
      clear = λ n fits. subst (λ ss. IsClear ss n) (sym turned)
          ((let le = fits.0 in let zero = row.floor in omega (arith, le, zero)), row.clear (suc (n - l.count)) fits.1);
      moves_are = λ w.
          ap (moves_of y w) turned ∙ ap (λ ms. Invoke (name_of y (Symbol k)) l.count ∷ ms) (row.moves_are w)
          ∙ ap (λ m. Invoke (name_of y m) l.count ∷ map (move_of []) (map (named_by y) ls)) (sym is);
    }
  where
    symbol-same : (a b : ℕ) → Symbol a ≡ Symbol b → a ≡ b
    symbol-same a b e = cc

-- ---- the steps of a side of a rule, from the last one on

-- one of them gives the last part of the tree at a place
pub record Gives (ss ts : List Step) (vs : List Reference) (p : ℕ) (ms : List Move) : Type 0 where
  pub floor : floor_of ts ≡ suc p
  pub source : source_of ts vs ≡ slice_get vs p
  pub under : stacked ts vs ≡ stacked ss (take p vs)
  pub clear : (d : ℕ) → Fits ms d 1 → IsClear ts (suc (p + d))

-- all are calls
pub record Calls (ss ts : List Step) (p : ℕ) (ms : List Move) : Type 0 where
  pub floor : floor_of ts ≡ floor_of ss
  pub under : (us : List Reference) → stacked ts us ≡ stacked ss us
  pub clear : (d : ℕ) → Fits ms d 1 → IsClear ts (p + d)

abbrev pub AreUnderWay : List Step → List Step → List Reference → ℕ → List Move → Bool → Type 0
AreUnderWay ss ts vs p ms true = Gives ss ts vs p ms
AreUnderWay ss ts vs p ms false = Calls ss ts p ms

-- so many are pushed that they make these moves
pub record Spreading (y : Spec) (w : Store) (ss ts : List Step) (vs : List Reference) (p : ℕ) (ms : List Move) (pushed : Bool) : Type 0 where
  pub steps : AreSteps y ts
  pub given : AreGiven w ts vs
  pub moves_are : moves_of y w ts ≡ ms ++ moves_of y w ss
  pub way : AreUnderWay ss ts vs p ms pushed

-- so many are pushed over a row, whose tree on top they spread
abbrev pub SpreadsTo : Spec → Store → Row → Row → List Move → Bool → Type 0
SpreadsTo y w old now ms pushed =
    Spreading y w (reverse old.steps.items) (reverse now.steps.items) old.values.items (length old.values.items - 1) ms pushed

-- a tree on top that steps do not need
pub record IsFree (ss : List Step) (vs : List Reference) (p : ℕ) (top : Reference) : Type 0 where
  pub long : length vs ≡ suc p
  pub free : floor_of ss ≤ p
  pub is : slice_get vs p ≡ Some top

pub spread-first : (y : Spec) (w : Store) (ss : List Step) (vs : List Reference) (p : ℕ) → AreInRow y w ss vs → length vs ≡ suc p
    → Spreading y w ss ss vs p [] false
spread-first y w ss vs p row long = record {
  steps = row.steps;
  given = row.given;
  moves_are = refl;
  way = record {
    floor = refl;
    under = λ us. refl;
    clear = λ d e. subst (IsClear ss) (let q : length vs ≡ p + d = omega (arith, long, e) in q) row.clear;
  };
}

spread-part : (y : Spec) (w : Store) (ss ts : List Step) (vs : List Reference) (p : ℕ) (ms : List Move) (top t : Reference) (pushed : Bool)
    → IsFree ss vs p top → IsPart w top t → Spreading y w ss ts vs p ms pushed
    → Spreading y w ss ((if pushed then step.Give t else step.GiveLast t p) ∷ ts) vs p (Give (held_tree w t) ∷ ms) true
spread-part y w ss ts vs p ms top t true free part h = record {
  steps = h.steps;
  given = (top, h.way.source ∙ free.is, part, h.given);
  moves_are = ap (λ xs. Give (held_tree w t) ∷ xs) h.moves_are;
  way = record {
    floor = h.way.floor;
    source = h.way.source;
    under = h.way.under;
    clear = λ d f. subst (IsClear ts) (let q : suc (p + suc d) ≡ suc (suc (p + d)) = omega arith in q) (h.way.clear (suc d) f);
  };
}
spread-part y w ss ts vs p ms top t false free part h =
    let floor = h.way.floor in
    let low = free.free in
    let below : floor_of ts ≤ p = omega (arith, floor, low) in
    record {
      steps = h.steps;
      given = (top, free.is, part, given-fewer w ts vs p below h.given);
      moves_are = ap (λ xs. Give (held_tree w t) ∷ xs) h.moves_are;
      way = record {
        floor = refl;
        source = refl;
        under =
            ap (λ us. reverse us ++ stacked ts (take p vs)) (drop_all (suc p) vs (let long = free.long in omega (arith, long)))
            ∙ h.way.under (take p vs);
        clear = λ d f. (
          omega arith,
          below,
          subst (IsClear ts) (let q : p + suc d ≡ suc (p + d) = omega arith in q) (h.way.clear (suc d) f),
        );
      };
    }

spread-call : (y : Spec) (w : Store) (ss ts : List Step) (vs : List Reference) (p : ℕ) (ms : List Move) (f k : ℕ) (pushed : Bool)
    → floor_of ss ≤ p → f < length (symbols y) → arity_of y f ≡ k → Spreading y w ss ts vs p ms pushed
    → Spreading y w ss (step.Invoke f k ∷ ts) vs p (Invoke (name_of y (Symbol f)) k ∷ ms) pushed
spread-call y w ss ts vs p ms f k pushed low lt arity h = record {
  steps = (lt, arity, h.steps);
  given = h.given;
  moves_are = ap (λ xs. Invoke (name_of y (Symbol f)) k ∷ xs) h.moves_are;
  way = way pushed h.way;
}
  where
    way : (b : Bool) → AreUnderWay ss ts vs p ms b → AreUnderWay ss (step.Invoke f k ∷ ts) vs p (Invoke (name_of y (Symbol f)) k ∷ ms) b
    way true v = record {
      floor = v.floor;
      source = v.source;
      under = v.under;
      clear = λ d fits.
          let le = fits.0 in
          let floor = v.floor in (
            omega (arith, le, floor),
            subst (IsClear ts) (let q : suc (p + suc (d - k)) ≡ suc (suc (p + d) - k) = omega (arith, le) in q) (v.clear (suc (d - k)) fits.1),
          );
    }
    way false v = record {
      floor = v.floor;
      under = v.under;
      clear = λ d fits.
          let le = fits.0 in
          let floor = v.floor in (
            omega (arith, le, floor, low),
            subst (IsClear ts) (let q : p + suc (d - k) ≡ suc (p + d - k) = omega (arith, le) in q) (v.clear (suc (d - k)) fits.1),
          );
    }

-- the step of a letter, by what it means
abbrev IsPushed : Spec → Store → Row → Row → ℕ → ℕ → List Reference → Bool → Bool → Meaning → Type 0
IsPushed y w a b i count bind pushed more m = elim m [
  | Symbol k ↦ (more ≡ pushed) × (b.steps.items ≡ a.steps.items ++ step.Invoke k count ∷ [])
  | Variable v ↦ (more ≡ true) × (t : Reference) × IsPart w (top_of a) t
      × ((r : Rule) (s : Substitution) → IsMatch y i (held_tree w (top_of a)) r s → HasValues w (top_of a) bind s
      → value_of s (name_of y (Variable v)) ≡ Some (held_tree w t))
      × (b.steps.items ≡ a.steps.items ++ (if pushed then step.Give t else step.GiveLast t (length a.values.items - 1)) ∷ [])
]

-- the step of a letter is pushed
pub spread-letter : (y : Spec) (w : Store) (a b : Row) (i : ℕ) (l : Letter) (bind : List Reference) (pushed more : Bool) (ss : List Step) (r : Rule)
    (s : Substitution) (ms : List Move)
    → fault y ≡ None → IsFree ss a.values.items (length a.values.items - 1) (top_of a) → IsRead y r l → IsMatch y i (held_tree w (top_of a)) r s
    → HasValues w (top_of a) bind s → PushesLetter y w a b i l bind pushed more
    → Spreading y w ss (reverse a.steps.items) a.values.items (length a.values.items - 1) ms pushed
    → Spreading y w ss (reverse b.steps.items) a.values.items (length a.values.items - 1) (move_of s (named_by y l) ∷ ms) more
spread-letter y w a b i l bind pushed more ss r s ms good free read match values pushes h = by l.meaning refl pushes
  where
    at : Option Tree → List ℕ → Move
    at o name = elim o [ Some x ↦ Give x | None ↦ Invoke name l.count ]

    by : (m : Meaning) → l.meaning ≡ m → IsPushed y w a b i l.count bind pushed more m
        → Spreading y w ss (reverse b.steps.items) a.values.items (length a.values.items - 1) (move_of s (named_by y l) ∷ ms) more
    by (Symbol k) is q =
        let lt : k < length (symbols y) = subst (IsMeaning y) is read.meant in
        let no_value = unbound y s (binds-only y r.left (held_tree w (top_of a)) s match.binds) (name_of y (Symbol k)) ((facts y good).symbol_is_none k lt) in
        let move : move_of s (named_by y l) ≡ Invoke (name_of y (Symbol k)) l.count =
        ap (λ m. at (value_of s (name_of y m)) (name_of y m)) is ∙ ap (λ o. at o (name_of y (Symbol k))) no_value in
        subst (λ m. Spreading y w ss (reverse b.steps.items) a.values.items (length a.values.items - 1) (m ∷ ms) more) (sym move)
        (subst (λ ts. Spreading y w ss ts a.values.items (length a.values.items - 1) (Invoke (name_of y (Symbol k)) l.count ∷ ms) more)
        (sym (pushed-step b.steps.items a.steps.items (step.Invoke k l.count) q.1))
        (subst (Spreading y w ss (step.Invoke k l.count ∷ reverse a.steps.items) a.values.items (length a.values.items - 1)
        (Invoke (name_of y (Symbol k)) l.count ∷ ms)) (sym q.0)
        (spread-call y w ss (reverse a.steps.items) a.values.items (length a.values.items - 1) ms k l.count pushed free.free lt (read.filled k is) h)))
    by (Variable v) is q =
        let move : move_of s (named_by y l) ≡ Give (held_tree w q.1) =
        ap (λ m. at (value_of s (name_of y m)) (name_of y m)) is ∙ ap (λ o. at o (name_of y (Variable v))) (q.3 r s match values) in
        subst (λ m. Spreading y w ss (reverse b.steps.items) a.values.items (length a.values.items - 1) (m ∷ ms) more) (sym move)
        (subst (λ ts. Spreading y w ss ts a.values.items (length a.values.items - 1) (Give (held_tree w q.1) ∷ ms) more)
        (sym (pushed-step b.steps.items a.steps.items (if pushed then step.Give q.1 else step.GiveLast q.1 (length a.values.items - 1)) q.4))
        (subst (Spreading y w ss ((if pushed then step.Give q.1 else step.GiveLast q.1 (length a.values.items - 1)) ∷ reverse a.steps.items)
        a.values.items (length a.values.items - 1) (Give (held_tree w q.1) ∷ ms)) (sym q.0)
        (spread-part y w ss (reverse a.steps.items) a.values.items (length a.values.items - 1) ms (top_of a) q.1 pushed free q.2 h)))

-- a variable's step is pushed
pub pushes-variable : (y : Spec) (w : Store) (a b : Row) (i : ℕ) (l : Letter) (bind : List Reference) (pushed : Bool) (v : ℕ) (t : Reference)
    → l.meaning ≡ Variable v → IsPart w (top_of a) t
    → ((r : Rule) (s : Substitution) → IsMatch y i (held_tree w (top_of a)) r s → HasValues w (top_of a) bind s
    → value_of s (name_of y (Variable v)) ≡ Some (held_tree w t))
    → b.steps.items ≡ a.steps.items ++ (if pushed then step.Give t else step.GiveLast t (length a.values.items - 1)) ∷ []
    → PushesLetter y w a b i l bind pushed true
pushes-variable y w a b i l bind pushed v t is part value steps =
    subst (IsPushed y w a b i l.count bind pushed true) (sym is) (refl, t, part, value, steps)

-- the steps that were there stay below
pub pushed-above : (y : Spec) (w : Store) (old a b : Row) (i : ℕ) (l : Letter) (bind : List Reference) (pushed more : Bool)
    → PushesLetter y w a b i l bind pushed more → take (length old.steps.items) a.steps.items ≡ old.steps.items
    → take (length old.steps.items) b.steps.items ≡ old.steps.items
pushed-above y w old a b i l bind pushed more pushes h = by l.meaning pushes
  where
    above : (x : Step) → b.steps.items ≡ a.steps.items ++ x ∷ [] → take (length old.steps.items) b.steps.items ≡ old.steps.items
    above x e =
        let long = sym (length-take (length old.steps.items) a.steps.items) ∙ ap length h in
        ap (take (length old.steps.items)) e ∙ take-append-le (length old.steps.items) a.steps.items (x ∷ []) (omega (arith, long)) ∙ h

    by : (m : Meaning) → IsPushed y w a b i l.count bind pushed more m → take (length old.steps.items) b.steps.items ≡ old.steps.items
    by (Symbol k) q = above (step.Invoke k l.count) q.1
    by (Variable v) q = above (if pushed then step.Give q.1 else step.GiveLast q.1 (length a.values.items - 1)) q.4

-- ---- all are pushed

-- the tree on top goes with the last of its parts
spread-gave : (y : Spec) (w : Store) (old new : Row) (p : ℕ) (top : Reference) (s : Substitution) (t : Term)
    → AreInRow y w (reverse old.steps.items) old.values.items → IsFree (reverse old.steps.items) old.values.items p top
    → Spreading y w (reverse old.steps.items) (reverse new.steps.items) old.values.items p (moves s t) true → new.values.items ≡ old.values.items
    → AreInRow y w (reverse new.steps.items) new.values.items
    × (held_trees w (stacked (reverse new.steps.items) new.values.items) ≡ held_trees w (stacked (reverse old.steps.items) (take p old.values.items)))
spread-gave y w old new p top s t row free h same = (
  subst (AreInRow y w (reverse new.steps.items)) (sym same) (record {
    held = row.held;
    steps = h.steps;
    given = h.given;
    floor = (let floor = h.way.floor in let long = free.long in omega (arith, floor, long));
    clear = subst (IsClear (reverse new.steps.items)) (let long = free.long in let q : suc (p + 0) ≡ length old.values.items = omega (arith, long) in q)
        (h.way.clear 0 (fits-one s t));
  }),
  ap (λ us. held_trees w (stacked (reverse new.steps.items) us)) same ∙ ap (held_trees w) h.way.under,
)

-- where none of them is given, it is cut off
spread-called : (y : Spec) (w : Store) (old new : Row) (p : ℕ) (top : Reference) (s : Substitution) (t : Term)
    → AreInRow y w (reverse old.steps.items) old.values.items → IsFree (reverse old.steps.items) old.values.items p top
    → Spreading y w (reverse old.steps.items) (reverse new.steps.items) old.values.items p (moves s t) false → new.values.items ≡ take p old.values.items
    → AreInRow y w (reverse new.steps.items) new.values.items
    × (held_trees w (stacked (reverse new.steps.items) new.values.items) ≡ held_trees w (stacked (reverse old.steps.items) (take p old.values.items)))
spread-called y w old new p top s t row free h cut =
    let long = free.long in
    let floor = h.way.floor in
    let low = free.free in
    let left : length (take p old.values.items) ≡ p = length-take-le p old.values.items (omega (arith, long)) in
    let below : floor_of (reverse new.steps.items) ≤ p = omega (arith, floor, low) in (
      subst (AreInRow y w (reverse new.steps.items)) (sym cut) (record {
        held = AllHeld-take w old.values.items p row.held;
        steps = h.steps;
        given = given-fewer w (reverse new.steps.items) old.values.items p below h.given;
        floor = omega (arith, below, left);
        clear = subst (IsClear (reverse new.steps.items)) (let q : p + 0 ≡ length (take p old.values.items) = omega (arith, left) in q)
            (h.way.clear 0 (fits-one s t));
      }),
      ap (λ us. held_trees w (stacked (reverse new.steps.items) us)) cut ∙ ap (held_trees w) (h.way.under (take p old.values.items)),
    )

-- the tree on top is free
pub top-free : (row : Row) → floor_of (reverse row.steps.items) < length row.values.items
    → IsFree (reverse row.steps.items) row.values.items (length row.values.items - 1) (top_of row)
top-free row lt = record {
  long = omega (arith, lt);
  free = omega (arith, lt);
  is = slice_get-get_or row.values.items (length row.values.items - 1) (record { 0 = 0 }) (omega (arith, lt));
}

under-top : (w : Store) (row : Row) → floor_of (reverse row.steps.items) < length row.values.items
    → held_tree w (top_of row) ∷ held_trees w (stacked (reverse row.steps.items) (take (length row.values.items - 1) row.values.items))
    ≡ held_trees w (stacked (reverse row.steps.items) row.values.items)
under-top w row lt =
    let vs = row.values.items in
    let ss = reverse row.steps.items in
    let long = length-take-le (length vs - 1) vs (let q : length vs - 1 ≤ length vs = omega arith in q) in
    sym (ap (λ us. held_trees w (stacked ss us)) (top-last vs (record { 0 = 0 }) (omega (arith, lt)))
    ∙ ap (held_trees w) (stacked-more ss (take (length vs - 1) vs) (top_of row ∷ []) (omega (arith, lt, long))))

pub spread-ends : (y : Spec) (w : Store) (old new : Row) (s : Substitution) (t : Term) → AreInRow y w (reverse old.steps.items) old.values.items
    → floor_of (reverse old.steps.items) < length old.values.items
    → SpreadsTo y w old new (moves s t) true
    → new.values.items ≡ old.values.items → HasSpread y w old new (moves s t)
spread-ends y w old new s t row lt h same =
    let k = spread-gave y w old new (length old.values.items - 1) (top_of old) s t row (top-free old lt) h same in
    record { row = k.0; stack = ap (λ st. held_tree w (top_of old) ∷ st) k.1 ∙ under-top w old lt; moves = h.moves_are }

pub spread-cut : (y : Spec) (w : Store) (old new : Row) (s : Substitution) (t : Term) → AreInRow y w (reverse old.steps.items) old.values.items
    → floor_of (reverse old.steps.items) < length old.values.items
    → SpreadsTo y w old new (moves s t) false
    → new.values.items ≡ take (length old.values.items - 1) old.values.items → HasSpread y w old new (moves s t)
spread-cut y w old new s t row lt h cut =
    let k = spread-called y w old new (length old.values.items - 1) (top_of old) s t row (top-free old lt) h cut in
    record { row = k.0; stack = ap (λ st. held_tree w (top_of old) ∷ st) k.1 ∙ under-top w old lt; moves = h.moves_are }

-- ---- letters of a side

pub same-top : (a b : Row) → a.values ≡ b.values → top_of a ≡ top_of b
same-top a b e = ap (λ (us : List Reference). get_or us (length us - 1) (record { 0 = 0 })) (let q : a.values.items ≡ b.values.items = cc e in q)

-- the letters from a place on are pushed, and then the one before
pub spread-next : (y : Spec) (w : Store) (old a b : Row) (i : ℕ) (bind : List Reference) (pushed more : Bool) (r : Rule) (s : Substitution) (ls : List Letter)
    (t : Term) (at : ℕ) (d : Letter) → fault y ≡ None → IsRow y r ls t → 0 < at → at ≤ length ls
    → floor_of (reverse old.steps.items) < length old.values.items → a.values ≡ old.values → IsMatch y i (held_tree w (top_of old)) r s
    → HasValues w (top_of old) bind s → PushesLetter y w a b i (get_or ls (at - 1) d) bind pushed more
    → SpreadsTo y w old a (map (move_of s) (drop at (named t))) pushed
    → SpreadsTo y w old b (map (move_of s) (drop (at - 1) (named t)))
    more
spread-next y w old a b i bind pushed more r s ls t at d good row some within lt same match values pushes h =
    let letter = row-letter y r ls t (at - 1) d row (omega (arith, some, within)) in
    let one : at ≡ at - 1 + 1 = omega (arith, some) in
    let items : a.values.items ≡ old.values.items = cc same in
    subst (λ ns. SpreadsTo y w old b (map (move_of s) ns) more) letter.0
    (subst (λ k. SpreadsTo y w old b
    (move_of s (named_by y (get_or ls (at - 1) d)) ∷ map (move_of s) (drop k (named t))) more) one
    (over old.values.items items lt match values h letter.1))
  where
    free : floor_of (reverse old.steps.items) < length a.values.items
        → IsFree (reverse old.steps.items) a.values.items (length a.values.items - 1) (top_of a)
    free lt = record {
      long = omega (arith, lt);
      free = omega (arith, lt);
      is = slice_get-get_or a.values.items (length a.values.items - 1) (record { 0 = 0 }) (omega (arith, lt));
    }

    over : (vs : List Reference) → a.values.items ≡ vs → floor_of (reverse old.steps.items) < length vs
        → IsMatch y i (held_tree w (get_or vs (length vs - 1) (record { 0 = 0 }))) r s
        → HasValues w (get_or vs (length vs - 1) (record { 0 = 0 })) bind s
        → Spreading y w (reverse old.steps.items) (reverse a.steps.items) vs (length vs - 1) (map (move_of s) (drop at (named t))) pushed
        → IsRead y r (get_or ls (at - 1) d)
        → Spreading y w (reverse old.steps.items) (reverse b.steps.items) vs (length vs - 1)
        (move_of s (named_by y (get_or ls (at - 1) d)) ∷ map (move_of s) (drop at (named t))) more
    over vs e = subst (λ (vs : List Reference). floor_of (reverse old.steps.items) < length vs
        → IsMatch y i (held_tree w (get_or vs (length vs - 1) (record { 0 = 0 }))) r s
        → HasValues w (get_or vs (length vs - 1) (record { 0 = 0 })) bind s
        → Spreading y w (reverse old.steps.items) (reverse a.steps.items) vs (length vs - 1) (map (move_of s) (drop at (named t))) pushed
        → IsRead y r (get_or ls (at - 1) d)
        → Spreading y w (reverse old.steps.items) (reverse b.steps.items) vs (length vs - 1)
        (move_of s (named_by y (get_or ls (at - 1) d)) ∷ map (move_of s) (drop at (named t))) more) e
        (λ lt match values h read. spread-letter y w a b i (get_or ls (at - 1) d) bind pushed more (reverse old.steps.items) r s
        (map (move_of s) (drop at (named t))) good (free lt) read match values pushes h)

-- no letter was pushed yet
pub spread-none : (y : Spec) (w : Store) (old : Row) (s : Substitution) (r : Rule) (ls : List Letter) (t : Term) (at : ℕ)
    → AreInRow y w (reverse old.steps.items) old.values.items → floor_of (reverse old.steps.items) < length old.values.items → IsRow y r ls t → at ≡ length ls
    → SpreadsTo y w old old (map (move_of s) (drop at (named t))) false
spread-none y w old s r ls t at row lt letters e =
    let long = row-long y r ls t letters in
    subst (λ ns. SpreadsTo y w old old (map (move_of s) ns) false)
    (sym (drop-end (named t) at (omega (arith, long, e))))
    (spread-first y w (reverse old.steps.items) old.values.items (length old.values.items - 1) row (omega (arith, lt)))

all-moves : (y : Spec) (w : Store) (i : ℕ) (whole : Tree) (r : Rule) (s : Substitution) (ls : List Letter) (t : Term) (at : ℕ) → IsMatch y i whole r s
    → IsRow y r ls t → at ≤ 0 → map (move_of s) (drop at (named t)) ≡ moves s t
all-moves y w i whole r s ls t at match row le =
    ap (λ k. map (move_of s) (drop k (named t))) (let q : at ≡ 0 = omega (arith, le) in q) ∙ row-moves y r s whole ls t match.binds row

-- all letters were pushed, and one gives the last part
pub spread-all : (y : Spec) (w : Store) (old new : Row) (i : ℕ) (pushed : Bool) (r : Rule) (s : Substitution) (ls : List Letter) (t : Term) (at : ℕ)
    → AreInRow y w (reverse old.steps.items) old.values.items → floor_of (reverse old.steps.items) < length old.values.items
    → IsMatch y i (held_tree w (top_of old)) r s → IsRow y r ls t → at ≤ 0 → pushed ≡ true → new.values ≡ old.values
    → SpreadsTo y w old new (map (move_of s) (drop at (named t)))
    pushed → HasSpread y w old new (moves s t)
spread-all y w old new i pushed r s ls t at row lt match letters le is same h =
    spread-ends y w old new s t row lt
    (subst (λ ms. SpreadsTo y w old new ms true)
    (all-moves y w i (held_tree w (top_of old)) r s ls t at match letters le)
    (subst (SpreadsTo y w old new
    (map (move_of s) (drop at (named t)))) is h)) (cc same)

-- all were pushed, none gives a part, and the tree on top was cut off
pub spread-calls : (y : Spec) (w : Store) (old a new : Row) (i n : ℕ) (pushed : Bool) (r : Rule) (s : Substitution) (ls : List Letter) (t : Term) (at : ℕ)
    → AreInRow y w (reverse old.steps.items) old.values.items → floor_of (reverse old.steps.items) < length old.values.items
    → IsMatch y i (held_tree w (top_of old)) r s → IsRow y r ls t → at ≤ 0 → pushed ≡ false → a.values ≡ old.values → new.steps ≡ a.steps
    → n ≡ length a.values.items - 1 → new.values.items ≡ take n a.values.items
    → SpreadsTo y w old a (map (move_of s) (drop at (named t))) pushed
    → HasSpread y w old new (moves s t)
spread-calls y w old a new i n pushed r s ls t at row lt match letters le is same steps count cut h =
    let items : a.values.items ≡ old.values.items = cc same in
    let ahead : new.steps.items ≡ a.steps.items = cc steps in
    spread-cut y w old new s t row lt
    (subst (λ ms. SpreadsTo y w old new ms false)
    (all-moves y w i (held_tree w (top_of old)) r s ls t at match letters le)
    (subst (λ (xs : List Step). Spreading y w (reverse old.steps.items) (reverse xs) old.values.items (length old.values.items - 1)
    (map (move_of s) (drop at (named t))) false) (sym ahead)
    (subst (SpreadsTo y w old a
    (map (move_of s) (drop at (named t)))) is h)))
    (cut ∙ ap (λ k. take k a.values.items) count ∙ ap (λ (us : List Reference). take (length us - 1) us) items)
