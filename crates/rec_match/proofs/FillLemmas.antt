-- The values at places, on top of some references.
use Rattle.std.proofs.Common.{refl, sym, ap, subst, arith, ◌∙◌, append-nil, append_assoc, drop_of_length-le}
use Rattle.std.proofs.Math.Seq.{drop-append_seam, drop-cons}
use Rattle.std.proofs.lemmas.Bool.{eq-eqb, ne_eqb}
use Rattle.std.proofs.lemmas.List.{length-append, length-drop, get_or-drop, get_or_append_left, get_or-append-add}
use Rattle.std.specs.Prelude.{ℕ, suc, ◌+◌, ◌<◌, ◌≤◌, ◌≡◌, ◌≢◌, Bool, true, false, List, [], ◌∷◌, ◌++◌, Option, Some, None, length, drop, get_or}
use Rattle.rx_term.specs.declared.Term.{Term}
use Rattle.rec_match.specs.Forests.{ArePlaces, same_term, terms_filled}
use Rattle.rec_match.specs.declared.forest.Place.{Place}
use Rattle.rec_match.specs.declared.forest.Place.TheVariants.{First, Again}
use Rattle.rec_match.proofs.RunLemmas.{default_any}

abbrev zero_term : Term
zero_term = record { 0 = 0 }

-- the values at the first of some places are on top of references, of which those from one on are the registers
pub record Filling (ps : List Place) (first : ℕ) (old : List Term) (i : ℕ) (now : List Term) : Type 0 where
  pub values : List Term
  pub split : now ≡ old ++ values
  pub rest : ArePlaces (length (drop first old)) (length values) (drop i ps)
  pub same : terms_filled ps (drop first old) [] ≡ terms_filled (drop i ps) (drop first old) values

pub filling-first : (ps : List Place) (first : ℕ) (old : List Term) → ArePlaces (length (drop first old)) 0 ps → Filling ps first old 0 old
filling-first ps first old places = record { values = []; split = sym (append-nil old); rest = places; same = refl }

-- all places are filled
pub filling-done : (ps : List Place) (first i : ℕ) (old now : List Term) → length ps ≤ i → Filling ps first old i now
    → terms_filled ps (drop first old) [] ≡ Some (drop (length old) now)
filling-done ps first i old now le f =
    f.same ∙ ap (λ qs. terms_filled qs (drop first old) f.values) (drop_of_length-le ps le)
    ∙ ap (λ vs. let o : Option (List Term) = Some vs in o) (sym (ap (drop (length old)) f.split ∙ drop-append_seam old f.values))

-- where a register and a value stand
module _ (ps : List Place) (first i : ℕ) (old now : List Term) (d : Place) (within : first ≤ length old) (lt : i < length ps)
    (f : Filling ps first old i now) where
  next : (p : Place) → get_or ps i d ≡ p → drop i ps ≡ p ∷ drop (i + 1) ps
  next p e = drop-cons ps i d lt ∙ ap (λ q. q ∷ drop (suc i) ps) e ∙ ap (λ k. p ∷ drop k ps) (let q : suc i ≡ i + 1 = omega arith in q)

  placed : (p : Place) → get_or ps i d ≡ p → ArePlaces (length (drop first old)) (length f.values) (p ∷ drop (i + 1) ps)
  placed p e = subst (ArePlaces (length (drop first old)) (length f.values)) (next p e) f.rest

  register-within : (r : ℕ) → r < length (drop first old) → first + r < length now
  register-within r h =
      let long : length now ≡ length old + length f.values = ap length f.split ∙ length-append old f.values in
      let rest = length-drop first old in
      omega (arith, h, long, rest)

  register-is : (r : ℕ) (v : Term) → r < length (drop first old) → v ≡ get_or now (first + r) v → v ≡ get_or (drop first old) r zero_term
  register-is r v h e =
      let rest = length-drop first old in
      e ∙ ap (λ xs. get_or xs (first + r) v) f.split ∙ get_or_append_left old f.values v (first + r) (omega (arith, h, rest))
      ∙ sym (get_or-drop first old r v) ∙ default_any (drop first old) r v zero_term h

  value-within : (n k : ℕ) → n ≡ length old → k < length f.values → n + k < length now
  value-within n k en h =
      let long : length now ≡ length old + length f.values = ap length f.split ∙ length-append old f.values in
      omega (arith, h, long, en)

  value-is : (n k : ℕ) (v : Term) → n ≡ length old → k < length f.values → v ≡ get_or now (n + k) v → v ≡ get_or f.values k zero_term
  value-is n k v en h e = e ∙ ap (λ j. get_or now (j + k) v) en ∙ ap (λ xs. get_or xs (length old + k) v) f.split ∙ get_or-append-add old f.values k v
      ∙ default_any f.values k v zero_term h

  -- a first value
  pub first-within : (r : ℕ) → get_or ps i d ≡ First r → first + r < length now
  first-within r e = register-within r (placed (First r) e).0

  pub first-filled : (r : ℕ) (v : Term) (more : List Term) → get_or ps i d ≡ First r → v ≡ get_or now (first + r) v → more ≡ now ++ v ∷ []
      → Filling ps first old (i + 1) more
  first-filled r v more e ev em =
      let h = placed (First r) e in record {
        values = f.values ++ v ∷ [];
        split = em ∙ ap (λ xs. xs ++ v ∷ []) f.split ∙ append_assoc old f.values (v ∷ []);
        rest =
            let long : length (f.values ++ v ∷ []) ≡ length f.values + 1 = length-append f.values (v ∷ []) in
            subst (λ k. ArePlaces (length (drop first old)) k (drop (i + 1) ps)) (let q : suc (length f.values) ≡ length (f.values ++ v ∷ []) =
            omega (arith, long) in q) h.1;
        same = f.same ∙ ap (λ qs. terms_filled qs (drop first old) f.values) (next (First r) e)
            ∙ ap (λ t. terms_filled (drop (i + 1) ps) (drop first old) (f.values ++ t ∷ [])) (sym (register-is r v h.0 ev));
      }

  -- a value that is there already
  abbrev either : Bool → Option (List Term)
  either b = elim b [ true ↦ terms_filled (drop (i + 1) ps) (drop first old) f.values | false ↦ None ]

  pub again-within : (r k : ℕ) → get_or ps i d ≡ Again r k → first + r < length now
  again-within r k e = register-within r (placed (Again r k) e).0

  pub again-there : (r k n : ℕ) → get_or ps i d ≡ Again r k → n ≡ length old → n + k < length now
  again-there r k n e en = value-within n k en (placed (Again r k) e).1

  again-is : (r k n : ℕ) (v t : Term) → get_or ps i d ≡ Again r k → n ≡ length old → v ≡ get_or now (n + k) v → t ≡ get_or now (first + r) t
      → terms_filled ps (drop first old) [] ≡ either (same_term v t)
  again-is r k n v t e en ev et =
      let h = placed (Again r k) e in
      f.same ∙ ap (λ qs. terms_filled qs (drop first old) f.values) (next (Again r k) e)
      ∙ ap (λ x. either (same_term x (get_or (drop first old) r zero_term))) (sym (value-is n k v en h.1 ev))
      ∙ ap (λ x. either (same_term v x)) (sym (register-is r t h.0 et))

  pub again-filled : (r k n : ℕ) (v t : Term) → get_or ps i d ≡ Again r k → n ≡ length old → v ≡ get_or now (n + k) v → t ≡ get_or now (first + r) t
      → v.0 ≡ t.0 → Filling ps first old (i + 1) now
  again-filled r k n v t e en ev et same = record {
    values = f.values;
    split = f.split;
    rest = (placed (Again r k) e).2;
    same = again-is r k n v t e en ev et ∙ ap (λ b. either b) (eq-eqb v.0 t.0 same);
  }

  pub again-differs : (r k n : ℕ) (v t : Term) → get_or ps i d ≡ Again r k → n ≡ length old → v ≡ get_or now (n + k) v → t ≡ get_or now (first + r) t
      → v.0 ≢ t.0 → terms_filled ps (drop first old) [] ≡ None
  again-differs r k n v t e en ev et ne = again-is r k n v t e en ev et ∙ ap (λ b. either b) (ne_eqb v.0 t.0 ne)
