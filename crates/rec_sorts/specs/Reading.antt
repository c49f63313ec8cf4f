-- The postfix items of terms and rules, and the least offsets at which they violate rules.
use Rattle.std.specs.Prelude.{ℕ, ◌≡◌, ◌-◌, Bool, false, not, List, [], ◌∷◌, Option, Some, None}
use Rattle.std.specs.Prelude.{length, map, slice_get, nat_eq}
use Rattle.std.specs.List.{list_any}
use Rattle.std.specs.Option.{option_eq}
use Rattle.rec_syntax.specs.Syntax.{Term, Condition, Rule}
use Rattle.rec_syntax.specs.Nodes.{flat}
use Rattle.rec_sorts.specs.Least.{earlier, least_of, place_where, joined}
use Rattle.rec_sorts.specs.Scope.{sort_at, is_operator}
use Rattle.rec_sorts.specs.Letters.{placed_by, bare, unknown_among, ill_filled_among}
use Rattle.rec_sorts.specs.Letters.{ill_sorted_among}
use Rattle.rec_sorts.specs.Numbering.{Pairwise}
use Rattle.rec_sorts.specs.declared.letters.Letter.{Letter}
use Rattle.rec_sorts.specs.declared.letters.LetterCondition.{LetterCondition}
use Rattle.rec_sorts.specs.declared.letters.LetterRule.{LetterRule}
use Rattle.rec_sorts.specs.declared.letters.Meaning.{Meaning}
use Rattle.rec_sorts.specs.declared.letters.Meaning.TheVariants.{Variable}
use Rattle.rec_sorts.specs.declared.places.TermPlaces.{TermPlaces}
use Rattle.rec_sorts.specs.declared.scope.Scope.{Scope}
use Rattle.rec_sorts.specs.declared.terms.Placed.{Placed}

-- letters_of s t: the postfix items of a term
abbrev pub letters_of : Scope → Term → List Placed
letters_of s t = map (placed_by s) (flat t)

-- no rule is violated
abbrev pub nowhere : TermPlaces
nowhere = record {
  unknown = None;
  ill_filled = None;
  ill_sorted = None;
  ill_headed = None;
  unlike = None;
  unbound = None;
  free = None;
}

-- places_over places_of xs: for each rule the least offset over some items
abbrev pub places_over : {X : Type 0} → (X → TermPlaces) → List X → TermPlaces
places_over places_of [] = nowhere
places_over places_of (x ∷ xs) = joined (places_of x) (places_over places_of xs)

-- term_places s t: the offsets at which a term on its own violates rules
abbrev pub term_places : Scope → Term → TermPlaces
term_places s t = record nowhere {
  unknown = unknown_among (letters_of s t);
  ill_filled = ill_filled_among s (letters_of s t);
  ill_sorted = ill_sorted_among s [] (letters_of s t);
}

-- IsReadTerm s t ls p: `ls` are the items of `t`, and `p` the offsets at which it violates rules
pub record IsReadTerm (s : Scope) (t : Term) (ls : List Placed) (p : TermPlaces) : Type 0 where
  pub letters_read : ls ≡ letters_of s t
  pub places_read : p ≡ term_places s t

-- last_letter ps: the last item, which is the root
abbrev pub last_letter : List Placed → Option Placed
last_letter ps = slice_get ps (length ps - 1)

-- ill_headed_at s ps: the offset of the root if it is not an operator
abbrev pub ill_headed_at : Scope → List Placed → Option ℕ
ill_headed_at s ps = elim (last_letter ps) [
  | None ↦ None
  | Some p ↦ place_where (not (is_operator s p.meaning)) p.at
]

-- unlike_at s ls rs: the offset of the left one of two roots if their sorts differ
abbrev pub unlike_at : Scope → List Placed → List Placed → Option ℕ
unlike_at s ls rs = elim (last_letter ls) [
  | None ↦ None
  | Some l ↦ elim (last_letter rs) [
    | None ↦ None
    | Some r ↦ place_where
        (not (option_eq nat_eq (sort_at s l.meaning) (sort_at s r.meaning))) l.at
  ]
]

-- is_the_variable v m: the item is the variable `v`
abbrev pub is_the_variable : ℕ → Option Meaning → Bool
is_the_variable v (Some (Variable k)) = nat_eq v k
is_the_variable v _ = false

-- binds_variable ps v: the variable `v` is among these items
abbrev pub binds_variable : List Placed → ℕ → Bool
binds_variable ps v = list_any (λ p. is_the_variable v p.meaning) ps

-- is_unbound bound m: the item is a variable that is not bound
abbrev pub is_unbound : (ℕ → Bool) → Option Meaning → Bool
is_unbound bound (Some (Variable k)) = not (bound k)
is_unbound bound _ = false

-- unbound_among bound ps: the least offset of a variable that is not bound
abbrev pub unbound_among : (ℕ → Bool) → List Placed → Option ℕ
unbound_among bound ps = least_of (λ p. place_where (is_unbound bound p.meaning) p.at) ps

-- condition_places s bound c: the offsets at which a condition violates rules
abbrev pub condition_places : Scope → (ℕ → Bool) → Condition → TermPlaces
condition_places s bound c =
    joined (joined (term_places s c.left) (term_places s c.right)) (record nowhere {
      unlike = unlike_at s (letters_of s c.left) (letters_of s c.right);
      unbound = earlier (unbound_among bound (letters_of s c.left))
          (unbound_among bound (letters_of s c.right));
    })

-- conditions_places s bound cs: the offsets at which conditions violate rules
abbrev pub conditions_places : Scope → (ℕ → Bool) → List Condition → TermPlaces
conditions_places s bound cs = places_over (condition_places s bound) cs

-- rule_places s r: the offsets at which a rewrite rule violates rules
abbrev pub rule_places : Scope → Rule → TermPlaces
rule_places s r =
    let bound = binds_variable (letters_of s r.left) in
    joined (joined (joined (term_places s r.left) (term_places s r.right)) (record nowhere {
      ill_headed = ill_headed_at s (letters_of s r.left);
      unlike = unlike_at s (letters_of s r.left) (letters_of s r.right);
      unbound = unbound_among bound (letters_of s r.right);
    })) (conditions_places s bound r.conditions)

-- both_places s ls rs: the offsets of violations that two sides cause together
abbrev pub both_places : Scope → List Placed → List Placed → TermPlaces
both_places s ls rs = record nowhere {
  ill_headed = ill_headed_at s ls;
  unlike = unlike_at s ls rs;
  unbound = unbound_among (binds_variable ls) rs;
}

-- bound_places s ls rs cs: the offsets of violations that no side causes on its own
abbrev pub bound_places : Scope → List Placed → List Placed → List Condition → TermPlaces
bound_places s ls rs cs =
    joined (both_places s ls rs) (conditions_places s (binds_variable ls) cs)

-- rules_places s rs: the offsets at which rewrite rules violate rules
abbrev pub rules_places : Scope → List Rule → TermPlaces
rules_places s rs = places_over (rule_places s) rs

-- open_term_places s t: the offsets at which an EVAL term violates rules
abbrev pub open_term_places : Scope → Term → TermPlaces
open_term_places s t =
    joined (term_places s t) (record nowhere { free = unbound_among (λ _. false) (letters_of s t) })

-- open_terms_places s ts: the offsets at which EVAL terms violate rules
abbrev pub open_terms_places : Scope → List Term → TermPlaces
open_terms_places s ts = places_over (open_term_places s) ts

-- SpellsTerm s ls t: `ls` is the postfix form of the term
abbrev pub SpellsTerm : Scope → List Letter → Term → Type 0
SpellsTerm s ls t = ls ≡ bare (letters_of s t)

-- SpellsCondition s l c: `l` is the condition in postfix form
abbrev pub SpellsCondition : Scope → LetterCondition → Condition → Type 0
SpellsCondition s l c = SpellsTerm s l.left.items c.left × SpellsTerm s l.right.items c.right
    × (l.equal ≡ c.equal)

-- SpellsRule s l r: `l` is the rule in postfix form
abbrev pub SpellsRule : Scope → LetterRule → Rule → Type 0
SpellsRule s l r = SpellsTerm s l.left.items r.left × SpellsTerm s l.right.items r.right
    × Pairwise (SpellsCondition s) l.conditions.items r.conditions
