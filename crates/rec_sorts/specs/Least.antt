-- The least of some offsets; none if there is no offset.
use Rattle.std.specs.Prelude.{ℕ, Bool, true, false, ◌&&◌, List, [], ◌∷◌, Option, Some, None, min}
use Rattle.std.specs.Prelude.{is_none}
use Rattle.rec_syntax.specs.Tokens.{Word}
use Rattle.rec_sorts.specs.declared.places.TermPlaces.{TermPlaces}

-- earlier p q: the smaller of two offsets
abbrev pub earlier : Option ℕ → Option ℕ → Option ℕ
earlier (Some p) (Some q) = Some (min p q)
earlier (Some p) None = Some p
earlier None q = q

-- least_of f xs: the least offset of some items
abbrev pub least_of : {X : Type 0} → (X → Option ℕ) → List X → Option ℕ
least_of f [] = None
least_of f (x ∷ xs) = earlier (f x) (least_of f xs)

-- least_place ws: the least offset of some names
abbrev pub least_place : List Word → Option ℕ
least_place ws = least_of (λ w. Some w.at) ws

-- place_where b at: the offset if `b` is true
abbrev pub place_where : Bool → ℕ → Option ℕ
place_where true at = Some at
place_where false at = None

-- is_nowhere p: no rule is violated
abbrev pub is_nowhere : TermPlaces → Bool
is_nowhere p = is_none p.unknown && is_none p.ill_filled && is_none p.ill_sorted
    && is_none p.ill_headed && is_none p.unlike && is_none p.unbound && is_none p.free

-- joined p q: the smaller offset for each rule
abbrev pub joined : TermPlaces → TermPlaces → TermPlaces
joined p q = record {
  unknown = earlier p.unknown q.unknown;
  ill_filled = earlier p.ill_filled q.ill_filled;
  ill_sorted = earlier p.ill_sorted q.ill_sorted;
  ill_headed = earlier p.ill_headed q.ill_headed;
  unlike = earlier p.unlike q.unlike;
  unbound = earlier p.unbound q.unbound;
  free = earlier p.free q.free;
}
