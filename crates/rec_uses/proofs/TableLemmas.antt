-- One declaration more in a table.
use Rattle.std.proofs.Common.{◌≡◌, ℕ, Bool, true, false, List, [], ◌∷◌, ◌++◌, Option, Some, None, refl, sym, ap, subst, ◌∙◌, append_assoc, ◌+◌, ◌<◌, length, take, get_or}
use Rattle.std.proofs.lemmas.List.{append-nil, take_more}
use Rattle.std.proofs.lemmas.List.Concat.{flat_map-append}
use Rattle.rec_sorts.proofs.StackLemmas.{map-append}
use Rattle.std.specs.Prelude.{bytes_eq, cond, flat_map, is_some, map, option_map, if◌then◌else◌}
use Rattle.rec_sorts.proofs.KeptLemmas.{bytes_eq-eq}
use Rattle.rec_uses.specs.Inner.Tables.{AreTables, Holds, as_declared, given_first, text_in}
use Rattle.rec_uses.specs.Lines.{declared_text}
use Rattle.rec_uses.specs.Uses.{Declared, Constructor, Operator, Sort, declared_word, first_named, group_declared}
use Rattle.rec_syntax.specs.Syntax.{Declaration, Spec}
use Rattle.rec_uses.specs.declared.tables.Section.{Section}
use Rattle.rec_uses.specs.declared.tables.Section.TheVariants as section
use Rattle.rec_uses.specs.declared.tables.Texts.{Texts}

-- what a name has when a declaration more is known
abbrev or_else : Option Declared → Declared → Bool → Option Declared
or_else (Some e) d b = Some e
or_else None d b = if b then Some d else None

first_named-push : (ds : List Declared) (d : Declared) (name : List ℕ)
    → first_named (ds ++ d ∷ []) name ≡ or_else (first_named ds name) d (bytes_eq (declared_word d).bytes name)
first_named-push [] d name = by_test (bytes_eq (declared_word d).bytes name)
  where
    by_test : (b : Bool) → (elim b as (λ _. Option Declared) [ true ↦ Some d | false ↦ None ]) ≡ or_else None d b
    by_test true = refl
    by_test false = refl
first_named-push (e ∷ ds) d name = by_test (bytes_eq (declared_word e).bytes name) (first_named-push ds d name)
  where
    by_test : (b : Bool) → first_named (ds ++ d ∷ []) name ≡ or_else (first_named ds name) d (bytes_eq (declared_word d).bytes name)
        → (elim b as (λ _. Option Declared) [ true ↦ Some e | false ↦ first_named (ds ++ d ∷ []) name ])
        ≡ or_else (elim b as (λ _. Option Declared) [ true ↦ Some e | false ↦ first_named ds name ]) d (bytes_eq (declared_word d).bytes name)
    by_test true h = refl
    by_test false h = h

-- a name that has a text keeps it
pub given_first-had : (f : List ℕ → Option (List ℕ)) (name text : List ℕ) → is_some (f name) ≡ true → (other : List ℕ)
    → f other ≡ given_first f name text other
given_first-had f name text h other = by_bytes (bytes_eq name other) refl (f other) refl
  where
    by_bytes : (b : Bool) → bytes_eq name other ≡ b → (o : Option (List ℕ)) → f other ≡ o
        → o ≡ (elim o as (λ _. Option (List ℕ)) [ Some t ↦ Some t | None ↦ elim b [ true ↦ Some text | false ↦ None ] ])
    by_bytes b is (Some t) at = refl
    by_bytes false is None at = refl
    by_bytes true is None at =
        let none : f name ≡ None = ap f (bytes_eq-eq name other is) ∙ at in
        let wrong : false ≡ true = sym (ap is_some none) ∙ h in
        absurd (cc wrong)

-- a name that has none gets it
pub given_first-new : (f g : List ℕ → Option (List ℕ)) (name text : List ℕ) → is_some (f name) ≡ false
    → ((other : List ℕ) → g other ≡ cond (bytes_eq name other) (Some text) (f other)) → (other : List ℕ) → g other ≡ given_first f name text other
given_first-new f g name text h k other = k other ∙ by_bytes (bytes_eq name other) refl (f other) refl
  where
    by_bytes : (b : Bool) → bytes_eq name other ≡ b → (o : Option (List ℕ)) → f other ≡ o
        → cond b (Some text) o ≡ (elim o as (λ _. Option (List ℕ)) [ Some t ↦ Some t | None ↦ elim b [ true ↦ Some text | false ↦ None ] ])
    by_bytes false is (Some t) at = refl
    by_bytes false is None at = refl
    by_bytes true is None at = refl
    by_bytes true is (Some t) at =
        let some : f name ≡ Some t = ap f (bytes_eq-eq name other is) ∙ at in
        let wrong : true ≡ false = sym (ap is_some some) ∙ h in
        absurd (cc wrong)

module _ (source : List ℕ) where
  -- a declaration is noted with its text
  pub noted : (old new : Texts) (d : Declared) (name text : List ℕ) → name ≡ (declared_word d).bytes → text ≡ declared_text source d
      → ((other : List ℕ) → text_in new other ≡ given_first (text_in old) name text other) → (ds : List Declared) → Holds source old ds
      → Holds source new (ds ++ d ∷ [])
  noted old new d name text named told given ds h = λ other.
      given other
      ∙ ap (λ (o : Option (List ℕ)). elim o as (λ _. Option (List ℕ)) [
        | Some t ↦ Some t
        | None ↦ elim (bytes_eq name other) [ true ↦ Some text | false ↦ None ]
      ]) (h other)
      ∙ ap (λ bs. elim (option_map (declared_text source) (first_named ds other)) as (λ _. Option (List ℕ)) [
        | Some t ↦ Some t
        | None ↦ elim (bytes_eq bs other) [ true ↦ Some text | false ↦ None ]
      ]) named
      ∙ by_cases (first_named ds other) (bytes_eq (declared_word d).bytes other)
      ∙ ap (λ (t : List ℕ). shown (first_named ds other) (bytes_eq (declared_word d).bytes other) t) told
      ∙ as_declared_text (first_named ds other) (bytes_eq (declared_word d).bytes other)
      ∙ sym (ap (option_map (declared_text source)) (first_named-push ds d other))
    where
      shown : Option Declared → Bool → List ℕ → Option (List ℕ)
      shown (Some e) b t = Some (declared_text source e)
      shown None true t = Some t
      shown None false t = None

      by_cases : (o : Option Declared) (b : Bool) → (elim (option_map (declared_text source) o) as (λ _. Option (List ℕ)) [
        | Some t ↦ Some t
        | None ↦ elim b [ true ↦ Some text | false ↦ None ]
      ]) ≡ shown o b text
      by_cases (Some e) b = refl
      by_cases None true = refl
      by_cases None false = refl

      as_declared_text : (o : Option Declared) (b : Bool) → shown o b (declared_text source d) ≡ option_map (declared_text source) (or_else o d b)
      as_declared_text (Some e) b = refl
      as_declared_text None true = refl
      as_declared_text None false = refl

-- a prefix of a list grows by an item
pub mapped_more : {X Y Z : Type 0} (f : Y → Z) (g : X → Y) (xs : List X) (i : ℕ) (d : X) → i < length xs
    → map f (map g (take (i + 1) xs)) ≡ map f (map g (take i xs)) ++ f (g (get_or xs i d)) ∷ []
mapped_more f g xs i d h = ap (λ ys. map f (map g ys)) (take_more xs i d h) ∙ ap (map f) (map-append g (take i xs) (get_or xs i d ∷ []))
    ∙ map-append f (map g (take i xs)) (g (get_or xs i d) ∷ [])

pub flat_more : {X Y Z : Type 0} (f : Y → List Z) (g : X → Y) (xs : List X) (i : ℕ) (d : X) → i < length xs
    → flat_map f (map g (take (i + 1) xs)) ≡ flat_map f (map g (take i xs)) ++ f (g (get_or xs i d))
flat_more f g xs i d h = ap (λ ys. flat_map f (map g ys)) (take_more xs i d h) ∙ ap (flat_map f) (map-append g (take i xs) (get_or xs i d ∷ []))
    ∙ flat_map-append f (map g (take i xs)) (g (get_or xs i d) ∷ [])
    ∙ ap (λ ys. flat_map f (map g (take i xs)) ++ ys) (append-nil (f (g (get_or xs i d))))

-- declarations behind others
pub holds_behind : (source : List ℕ) (new : Texts) (ds es fs gs : List Declared) → gs ≡ es ++ fs → Holds source new (ds ++ es ++ fs)
    → Holds source new (ds ++ gs)
holds_behind source new ds es fs gs e h = subst (λ xs. Holds source new xs) (append_assoc ds es fs ∙ ap (λ xs. ds ++ xs) (sym e)) h

pub declared_name : (s : Section) (d : Declaration) → declared_word (as_declared s d) ≡ d.name
declared_name section.Constructors d = refl
declared_name section.Operators d = refl

-- the tables of a specification
pub tables_made : (source : List ℕ) (y : Spec) (sorts names : Texts) (cs os : List Declaration) → cs ≡ y.constructors → os ≡ y.operators
    → Holds source sorts (map Sort y.sorts)
    → Holds source names (map (as_declared section.Constructors) cs ++ map (as_declared section.Operators) os ++ flat_map group_declared y.variables)
    → AreTables source y (record { sorts = sorts; names = names })
tables_made source y sorts names cs os e f h k = record {
  sorts = h;
  names = subst (λ ds. Holds source names (map Constructor ds ++ map Operator y.operators ++ flat_map group_declared y.variables)) e
      (subst (λ ds. Holds source names (map Constructor cs ++ map Operator ds ++ flat_map group_declared y.variables)) f k);
}
