-- The places of variables by their numbers are those by their names.
use Rattle.std.proofs.Common.{refl, sym, ap, subst, arith, ◌∙◌, append_assoc}
use Rattle.std.proofs.lemmas.Bool.{eqb-true, eq-eqb}
use Rattle.std.proofs.lemmas.List.{map-append}
use Rattle.std.specs.Prelude.{ℕ, zero, suc, ◌<◌, ◌≡◌, Bool, true, false, List, [], ◌∷◌, ◌++◌, Option, Some, None, Contains, map, nat_eq, bytes_eq}
use Rattle.std.specs.Option.{option_map}
use Rattle.rec_syntax.specs.Syntax.{Term, Apply, Spec}
use Rattle.rec_syntax.specs.Syntax as R
use Rattle.rec_sorts.specs.Lookup.{is_variable, count}
use Rattle.rec_sorts.specs.Laws.{Every}
use Rattle.rec_sorts.specs.Numbering.{name_of, variable_count}
use Rattle.rec_sorts.specs.declared.letters.Meaning.{Meaning}
use Rattle.rec_sorts.specs.declared.letters.Meaning.TheVariants.{Symbol, Variable}
use Rattle.rec_match.specs.Rows.{Cell}
use Rattle.rec_match.specs.Inner.Growing.{position, name_in, IsVariable, places_from}
use Rattle.rec_match.specs.declared.forest.Place.{Place}
use Rattle.rec_match.specs.declared.forest.Place.TheVariants.{First, Again}
use Rattle.rec_match.specs.declared.parts.Code.{Code}
use Rattle.rec_match.specs.declared.parts.Parts.{Parts}
use Rattle.rec_match.specs.Parts.{part_at, IsHead, IsPart, IsCell, AreCells, AreDistinctVariables}
use Rattle.rec_match.specs.Leaves.{number_position, code_places, PlacesValue}
use Rattle.rec_match.specs.Matching.{FirstAt}
use Rattle.rec_sorts.proofs.KeptLemmas.{bytes_eq-eq}
use Rattle.rec_sorts.proofs.BindingLemmas.{bytes_eq-refl}

module _ (y : Spec) (distinct : AreDistinctVariables y) where
  abbrev name : ℕ → List ℕ
  name v = name_of y (Variable v)

  abbrev AllDeclared : List ℕ → Type 0
  AllDeclared vs = Every (λ (v : ℕ). v < variable_count y) vs

  declared_append : (vs : List ℕ) (v : ℕ) → AllDeclared vs → v < variable_count y → AllDeclared (vs ++ v ∷ [])
  declared_append [] v h lt = (lt, tt)
  declared_append (u ∷ us) v h lt = (h.0, declared_append us v h.1 lt)

  same_test : (i j : ℕ) → i < variable_count y → j < variable_count y → bytes_eq (name i) (name j) ≡ nat_eq i j
  same_test i j li lj = by (nat_eq i j) refl
    where
      by : (b : Bool) → nat_eq i j ≡ b → bytes_eq (name i) (name j) ≡ b
      by true e = ap (λ k. bytes_eq (name i) (name k)) (sym (eqb-true i j e)) ∙ bytes_eq-refl (name i)
      by false e = differ (bytes_eq (name i) (name j)) refl
        where
          differ : (b : Bool) → bytes_eq (name i) (name j) ≡ b → b ≡ false
          differ false f = refl
          differ true f = absurd (let no : nat_eq i j ≡ true = eq-eqb i j (distinct i j li lj (bytes_eq-eq (name i) (name j) f)) in cc (no, e))

  position_is : (vs : List ℕ) (v : ℕ) → AllDeclared vs → v < variable_count y → position (map name vs) (name v) ≡ number_position vs v
  position_is [] v h lt = refl
  position_is (u ∷ us) v h lt =
      ap (λ b. either b (position (map name us) (name v))) (same_test u v h.0 lt) ∙ ap (either (nat_eq u v)) (position_is us v h.1 lt)
    where
      either : Bool → Option ℕ → Option ℕ
      either b o = elim b [ true ↦ Some 0 | false ↦ option_map (λ k. suc k) o ]

  -- a code that is a variable is a cell that is one, by its name
  variable_is : (ps : Parts) (c : Code) (d : Cell) (v : ℕ) → IsCell y ps c d → (part_at ps c.part).meaning ≡ Variable v
      → (v < variable_count y) × (name_in d ≡ name v) × IsVariable y d
  variable_is ps c d v h e = by d.pattern h.1
    where
      by : (t : Term) → IsPart y ps c.part t → (v < variable_count y) × ((R.head t).bytes ≡ name v) × (is_variable y (R.head t).bytes ≡ true)
      by (Apply w ts) p = let q : IsHead y (Variable v) w.bytes (count ts) = subst (λ m. IsHead y m w.bytes (count ts)) e p.0 in (q.0, q.1, q.2)

  -- the places by numbers are those by names, and all cells are variables then
  pub code_places_are : (ps : Parts) (cs : List Code) (ds : List Cell) (vs : List ℕ) (pl : List Place) → AreCells y ps cs ds → AllDeclared vs
      → code_places ps vs cs ≡ Some pl → Every (IsVariable y) ds × (places_from (map name vs) ds ≡ pl)
  code_places_are ps [] [] vs pl h a e = (tt, cc e)
  code_places_are ps [] (d ∷ ds) vs pl h a e = absurd h
  code_places_are ps (c ∷ cs) [] vs pl h a e = absurd h
  code_places_are ps (c ∷ cs) (d ∷ ds) vs pl h a e = by_meaning (part_at ps c.part).meaning refl e (λ us ql b f. code_places_are ps cs ds us ql h.1 b f)
    where
      first_of_all : (o : Option (List Place)) (v : ℕ) → code_places ps (vs ++ v ∷ []) cs ≡ o → option_map (λ es. First c.register ∷ es) o ≡ Some pl
          → v < variable_count y
          → ((us : List ℕ) (ql : List Place) → AllDeclared us → code_places ps us cs ≡ Some ql → Every (IsVariable y) ds × (places_from (map name us) ds ≡ ql))
          → Every (IsVariable y) ds × (First c.register ∷ places_from (map name vs ++ name v ∷ []) ds ≡ pl)
      first_of_all None v f e lt later = absurd (cc e)
      first_of_all (Some ql) v f e lt later =
          let r = later (vs ++ v ∷ []) ql (declared_append vs v a lt) f in
          let is : First c.register ∷ ql ≡ pl = cc e in
          (r.0, ap (λ ns. First c.register ∷ places_from ns ds) (sym (map-append name vs (v ∷ []))) ∙ ap (λ es. First c.register ∷ es) r.1 ∙ is)

      again : (o : Option (List Place)) (k : ℕ) → code_places ps vs cs ≡ o → option_map (λ es. Again c.register k ∷ es) o ≡ Some pl
          → ((us : List ℕ) (ql : List Place) → AllDeclared us → code_places ps us cs ≡ Some ql → Every (IsVariable y) ds × (places_from (map name us) ds ≡ ql))
          → Every (IsVariable y) ds × (Again c.register k ∷ places_from (map name vs) ds ≡ pl)
      again None k f e later = absurd (cc e)
      again (Some ql) k f e later =
          let r = later vs ql a f in
          let is : Again c.register k ∷ ql ≡ pl = cc e in
          (r.0, ap (λ es. Again c.register k ∷ es) r.1 ∙ is)

      by_position : (v : ℕ) (o : Option ℕ) → v < variable_count y
          → ◌≡◌ {A = Option (List Place)}
          (elim o [
            | None ↦ option_map (λ es. First c.register ∷ es) (code_places ps (vs ++ v ∷ []) cs)
            | Some k ↦ option_map (λ es.
                Again c.register k ∷ es) (code_places ps vs cs)
          ]) (Some pl)
          → ((us : List ℕ) (ql : List Place) → AllDeclared us → code_places ps us cs ≡ Some ql → Every (IsVariable y) ds × (places_from (map name us) ds ≡ ql))
          → Every (IsVariable y) ds × (◌≡◌ {A = List Place}
          (elim o [
            | None ↦ First c.register ∷ places_from (map name vs ++ name v ∷ []) ds
            | Some k ↦ Again c.register k ∷ places_from
                (map name vs) ds
          ]) pl)
      by_position v None lt e later = first_of_all (code_places ps (vs ++ v ∷ []) cs) v refl e lt later
      by_position v (Some k) lt e later = again (code_places ps vs cs) k refl e later

      by_meaning : (m : Meaning) → (part_at ps c.part).meaning ≡ m
          → ◌≡◌ {A = Option (List Place)} (elim m [
            | Symbol k ↦ None
            | Variable v ↦ elim (number_position vs v) [
              | None ↦ option_map (λ es. First c.register ∷ es) (code_places ps (vs ++ v ∷ []) cs)
              | Some k ↦ option_map (λ es. Again c.register k ∷ es) (code_places ps vs cs)
            ]
          ]) (Some pl)
          → ((us : List ℕ) (ql : List Place) → AllDeclared us → code_places ps us cs ≡ Some ql → Every (IsVariable y) ds × (places_from (map name us) ds ≡ ql))
          → Every (IsVariable y) (d ∷ ds) × (places_from (map name vs) (d ∷ ds) ≡ pl)
      by_meaning (Symbol k) is e later = absurd (cc e)
      by_meaning (Variable v) is e later =
          let q = variable_is ps c d v h.0 is in
          let r = by_position v (number_position vs v) q.0 e later in (
            (q.2, r.0),
            ap (λ n. at_name n (position (map name vs) n)) q.1 ∙ ap (at_name (name v)) (position_is vs v a q.0) ∙ same_register r.1,
          )
        where
          at_name : List ℕ → Option ℕ → List Place
          at_name n o = elim o [ None ↦ First d.register ∷ places_from (map name vs ++ n ∷ []) ds | Some k ↦ Again d.register k ∷ places_from (map name vs) ds ]

          of_register : ℕ → List Place
          of_register r = elim (number_position vs v) [
            | None ↦ First r ∷ places_from (map name vs ++ name v ∷ []) ds
            | Some k ↦ Again r
                k ∷ places_from (map name vs) ds
          ]

          same_register : of_register c.register ≡ pl → of_register d.register ≡ pl
          same_register e = ap of_register (sym h.0.0) ∙ e

-- the first place of a number
pub position_at : (vs : List ℕ) (v p : ℕ) → FirstAt vs v p → number_position vs v ≡ Some p
position_at [] v p h = absurd h
position_at (x ∷ vs) v zero h = ap (λ b. elim b as (λ _. Option ℕ) [ true ↦ Some 0 | false ↦ option_map (λ k. suc k) (number_position vs v) ]) (eq-eqb x v h)
position_at (x ∷ vs) v (suc p) h = by (nat_eq x v) refl (position_at vs v p h.1)
  where
    by : (b : Bool) → nat_eq x v ≡ b → number_position vs v ≡ Some p
        → ◌≡◌ {A = Option ℕ} (elim b [ true ↦ Some 0 | false ↦ option_map (λ k. suc k) (number_position vs v) ]) (Some (suc p))
    by true e later = absurd (h.0 (eqb-true x v e))
    by false e later = ap (option_map (λ k. suc k)) later

pub position_none : (vs : List ℕ) (v : ℕ) → (Contains vs v → ⊥) → number_position vs v ≡ None
position_none [] v out = refl
position_none (x ∷ vs) v out = by (nat_eq x v) refl (position_none vs v (λ c. out (suc c.0, (let l = c.1 in omega (arith, l)), c.2)))
  where
    by : (b : Bool) → nat_eq x v ≡ b → number_position vs v ≡ None
        → ◌≡◌ {A = Option ℕ} (elim b [ true ↦ Some 0 | false ↦ option_map (λ k. suc k) (number_position vs v) ]) None
    by true e later = absurd (out (zero, omega arith, eqb-true x v e))
    by false e later = ap (option_map (λ k. suc k)) later

module _ (ps : Parts) (c : Code) (vs : List ℕ) (v : ℕ) (meant : (part_at ps c.part).meaning ≡ Variable v) where
  placed_at : (cs : List Code) (o : Option ℕ) → number_position vs v ≡ o
      → code_places ps vs (c ∷ cs) ≡ elim o [
        | None ↦ option_map (λ es. First c.register ∷ es) (code_places ps (vs ++ v ∷ []) cs)
        | Some k ↦ option_map
            (λ es. Again c.register k ∷ es) (code_places ps vs cs)
      ]
  placed_at cs o e = ap by_meaning meant ∙ ap by_position e
    where
      by_position : Option ℕ → Option (List Place)
      by_position o = elim o [
        | None ↦ option_map (λ es. First c.register ∷ es) (code_places ps (vs ++ v ∷ []) cs)
        | Some k ↦ option_map (λ es.
            Again c.register k ∷ es) (code_places ps vs cs)
      ]

      by_meaning : Meaning → Option (List Place)
      by_meaning m = elim m [
        | Symbol k ↦ None
        | Variable u ↦ elim (number_position vs u) [
          | None ↦ option_map (λ es. First c.register ∷ es) (code_places ps (vs ++ u ∷ []) cs)
          | Some k ↦
              option_map (λ es. Again c.register k ∷ es) (code_places ps vs cs)
        ]
      ]

  behind_one : (old new : List Place) (p : Place) → new ≡ old ++ p ∷ [] → (o : Option (List Place))
      → option_map (λ es. old ++ es) (option_map (λ es. p ∷ es) o) ≡ option_map (λ es. new ++ es) o
  behind_one old new p e None = refl
  behind_one old new p e (Some es) = ap Some (sym (ap (λ xs. xs ++ es) e ∙ append_assoc old (p ∷ []) es))

  -- one value more
  pub placed_again : (old new : List Place) (p : ℕ) → FirstAt vs v p → new ≡ old ++ Again c.register p ∷ [] → PlacesValue ps c vs old vs new
  placed_again old new p at e cs = ap (option_map (λ es. old ++ es)) (placed_at cs (Some p) (position_at vs v p at))
      ∙ behind_one old new (Again c.register p) e (code_places ps vs cs)

  pub placed_first : (us : List ℕ) (old new : List Place) → (Contains vs v → ⊥) → us ≡ vs ++ v ∷ [] → new ≡ old ++ First c.register ∷ []
      → PlacesValue ps c vs old us new
  placed_first us old new out eu e cs =
      ap (option_map (λ es. old ++ es)) (placed_at cs None (position_none vs v out))
      ∙ behind_one old new (First c.register) e (code_places ps (vs ++ v ∷ []) cs)
      ∙ ap (λ xs. option_map (λ es. new ++ es) (code_places ps xs cs)) (sym eu)
